-- `rated_volts` meets its contract, by the branch kind.
use Rattle.std.proofs.Common.{ne_eqb}
use Rattle.network.proofs.records.rated_volts.Goals as goal

pub returns-then-kind-eq2 : goal.returns-then-kind-eq2
returns-then-kind-eq2 c = rw c.if-kind-eq2.true

pub returns-else-kind-eq2 : goal.returns-else-kind-eq2
returns-else-kind-eq2 c = rw (ne_eqb _ 2 c.if-kind-eq2.false)
