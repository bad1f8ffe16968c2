-- `total_of` meets its contract, by the two answers of its test.
use Rattle.std.specs.Prelude.{◌≡◌, length}
use Rattle.std.proofs.Common.{sym, rules}
use Rattle.network.specs.Additions.{max_additions}
use Rattle.network.proofs.Lists.{length_mapped, count_below, count_full}
use Rattle.network.proofs.additions.total_of.Goals as goal

pub returns-then-more-lt-ADDITIONS : goal.returns-then-more-lt-ADDITIONS
returns-then-more-lt-ADDITIONS c =
    let a = c.args.more in
    let h : length a.entries ≡ max_additions = search (rules, length_mapped) in
    sym (count_below max_additions a.count a.entries h c.if-more-lt-ADDITIONS.true)

pub returns : goal.returns
returns c =
    let a = c.args.more in
    let h : length a.entries ≡ max_additions = search (rules, length_mapped) in
    sym (count_full max_additions a.count a.entries h c.if-more-lt-ADDITIONS.false)
