-- `elements::mu::first` meets its contract: the three tests of `first_of`. Assumes nothing.
use Rattle.std.proofs.Common.{eq-eqb, ne_eqb}
use Rattle.elements.specs.Doubles.{first_of}
use Rattle.elements.proofs.mu.first.Goals as goal

pub returns-then-delay-eq20 : goal.returns-then-delay-eq20
unfolding first_of
returns-then-delay-eq20 c = simp (eq-eqb _ _ c.if-delay-eq20.true)

pub returns-then-delay-eq50 : goal.returns-then-delay-eq50
unfolding first_of
returns-then-delay-eq50 c = simp (ne_eqb _ _ c.if-delay-eq20.false, eq-eqb _ _ c.if-delay-eq50.true)

pub returns-then-delay-eq100 : goal.returns-then-delay-eq100
unfolding first_of
returns-then-delay-eq100 c = simp (ne_eqb _ _ c.if-delay-eq20.false, ne_eqb _ _ c.if-delay-eq50.false, eq-eqb _ _ c.if-delay-eq100.true)

pub returns-else-delay-eq100 : goal.returns-else-delay-eq100
unfolding first_of
returns-else-delay-eq100 c = simp (ne_eqb _ _ c.if-delay-eq20.false, ne_eqb _ _ c.if-delay-eq50.false, ne_eqb _ _ c.if-delay-eq100.false)
