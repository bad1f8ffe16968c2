-- `number_after` meets its contract, ground by ground. Assumes nothing.
use Rattle.std.proofs.Common.{sym, ◌∙◌, eq-eqb, ne_eqb, lt-ltb, le-ltb}
use Rattle.breaking.specs.Doubles.{number_after}
use Rattle.breaking.proofs.number_after.Goals as goal

pub returns-then-found-ne0 : goal.returns-then-found-ne0
unfolding number_after
returns-then-found-ne0 c = rw (ne_eqb _ 0 c.if-found-ne0.true)

pub returns-then-room-sources : goal.returns-then-room-sources
unfolding number_after
returns-then-room-sources c =
    simp (eq-eqb _ 0 c.if-found-ne0.false, sym c.delay_ok.ensures ∙ c.if-delay_ok.true, lt-ltb _ _ c.if-room-sources.true)

pub returns-else-room-sources : goal.returns-else-room-sources
unfolding number_after
returns-else-room-sources c =
    simp (eq-eqb _ 0 c.if-found-ne0.false, sym c.delay_ok.ensures ∙ c.if-delay_ok.true, le-ltb _ _ c.if-room-sources.false)

pub returns-else-delay_ok : goal.returns-else-delay_ok
unfolding number_after
returns-else-delay_ok c = simp (eq-eqb _ 0 c.if-found-ne0.false, sym c.delay_ok.ensures ∙ c.if-delay_ok.false)
