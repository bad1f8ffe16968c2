-- `source_number` meets its contract: 21 and 24 by the tests that led there, else the number of the record.
use Rattle.std.specs.Prelude.{ℕ, ◌<◌}
use Rattle.std.proofs.Common.{sym, ◌∙◌, ap, arith, length-take}
use Rattle.network.specs.Network.{network}
use Rattle.tree.specs.Limits.{max_sources}
use Rattle.network.specs.Grounds.{source_record_number, source_number_in}
use Rattle.network.specs.laws.Acceptance.{source_number_open}
use Rattle.network.proofs.Lists.{count_below, count_full}
use Rattle.network.proofs.calls.source_number.Goals as goal

pub returns-then-closed : goal.returns-then-closed
unfolding source_number_in
returns-then-closed c = λ s closed count whole there at. rw (closed ∙ c.if-closed.true)

pub returns-then-n-ge-SOURCES : goal.returns-then-n-ge-SOURCES
unfolding source_number_in
returns-then-n-ge-SOURCES c = λ s closed count whole there at.
    rw (closed ∙ c.if-closed.false, count_full max_sources s.source_count s.sources whole (omega (arith, c.if-n-ge-SOURCES.true)))

pub returns : goal.returns
returns c = λ s closed count whole there at.
    let a = c.args in
    let n = s.source_count in
    let few : n < max_sources = omega (arith, c.if-n-ge-SOURCES.false) in
    let next = source_number_open (network s) a.p (closed ∙ c.if-closed.false) (omega (arith, length-take n s.sources)) in
    c.source_record_number.ensures (network s).buses there at ∙ sym ((rw (count_below max_sources n s.sources whole few) at next) ∙ ap (λ (j : ℕ). source_record_number (network s).buses j a.p) count)
