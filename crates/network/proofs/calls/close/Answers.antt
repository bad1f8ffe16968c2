-- `close` meets its contract: a count above 0 is a source in the list.
use Rattle.std.specs.Prelude.{◌≡◌, refl, length, take}
use Rattle.std.proofs.Common.{arith, rules, lt-ltb, length-take}
use Rattle.tree.specs.Limits.{max_sources}
use Rattle.network.specs.Grounds.{close_number, after_close}
use Rattle.network.proofs.Lists.{length_mapped}
use Rattle.network.proofs.calls.close.Goals as goal

pub returns-then-s : goal.returns-then-s
unfolding close_number after_close
returns-then-s c = record { number = rw c.if-s.true; kept = λ _. refl; network = rw c.if-s.true }

pub returns-then-s-eq0 : goal.returns-then-s-eq0
unfolding close_number after_close
returns-then-s-eq0 c = let o = c.if-s.false in let z = c.if-s-eq0.true in record { number = rw (o, z); kept = λ _. refl; network = rw (o, z) }

pub returns : goal.returns
unfolding close_number after_close
returns c =
    let s = c.args.s in
    let h : length s.sources ≡ max_sources = search (rules, length_mapped) in
    let o = c.if-s.false in
    let some = lt-ltb 0 (length (take s.source_count s.sources)) (omega (arith, length-take s.source_count s.sources)) in
    record { number = rw (o, some); kept = λ z. absurd (z refl); network = rw (o, some) }
