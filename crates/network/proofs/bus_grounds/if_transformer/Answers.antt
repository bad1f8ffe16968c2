-- `if_transformer` meets its contract, by the two answers of its test.
use Rattle.std.proofs.Common.{eq-eqb, ne_eqb}
use Rattle.network.proofs.bus_grounds.if_transformer.Goals as goal

pub returns-then-kind-eq2 : goal.returns-then-kind-eq2
returns-then-kind-eq2 c = simp (eq-eqb _ _ c.if-kind-eq2.true)

pub returns-else-kind-eq2 : goal.returns-else-kind-eq2
returns-else-kind-eq2 c = simp (ne_eqb _ _ c.if-kind-eq2.false)
