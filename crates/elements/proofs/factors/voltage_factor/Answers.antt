-- `elements::factors::voltage_factor` meets its contract: the two tests of `factor_c`.
-- Assumes nothing.
use Rattle.std.proofs.Common.{arith, le-leb, eq-eqb, ne_eqb}
use Rattle.std.proofs.lemmas.Bool.{lt-leb}
use Rattle.elements.specs.Factors.{factor_c}
use Rattle.elements.proofs.factors.voltage_factor.Goals as goal

pub returns-then-tolerance-eq6 : goal.returns-then-tolerance-eq6
unfolding factor_c
returns-then-tolerance-eq6 c = simp (le-leb c.args.volts 1000 (omega arith), eq-eqb _ _ c.if-tolerance-eq6.true)

pub returns-else-tolerance-eq6 : goal.returns-else-tolerance-eq6
unfolding factor_c
returns-else-tolerance-eq6 c = simp (le-leb c.args.volts 1000 (omega arith), ne_eqb _ _ c.if-tolerance-eq6.false)

pub returns-else-volts-le1000 : goal.returns-else-volts-le1000
unfolding factor_c
returns-else-volts-le1000 c = simp (lt-leb c.args.volts 1000 (omega arith))
