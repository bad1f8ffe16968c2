-- `source_total` meets its contract: the count below the capacity, else the capacity.
use Rattle.std.specs.Prelude.{◌≡◌, length}
use Rattle.std.proofs.Common.{sym, arith, rules}
use Rattle.tree.specs.Limits.{max_sources}
use Rattle.network.proofs.Lists.{length_mapped, count_below, count_full}
use Rattle.network.proofs.study.source_total.Goals as goal

pub returns-then-s-lt-SOURCES : goal.returns-then-s-lt-SOURCES
returns-then-s-lt-SOURCES c =
    let s = c.args.s in
    let h : length s.sources ≡ max_sources = search (rules, length_mapped) in
    sym (count_below max_sources s.source_count s.sources h (omega arith))

pub returns : goal.returns
returns c =
    let s = c.args.s in
    let h : length s.sources ≡ max_sources = search (rules, length_mapped) in
    sym (count_full max_sources s.source_count s.sources h (omega arith))
