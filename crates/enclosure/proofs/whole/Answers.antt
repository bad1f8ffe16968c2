-- `enclosure::whole` meets its contract: the cast loses nothing. Assumes nothing.
use Rattle.std.proofs.Common.{ap, arith}
use Rattle.enclosure.specs.Exact.{of_nat}
use Rattle.enclosure.specs.laws.WholeF64.{castable}
use Rattle.enclosure.proofs.whole.Goals as goal

pub int_to_float-result : goal.int_to_float-result
int_to_float-result c = castable _ (omega (arith, c.capped.ensures))

pub returns : goal.returns
returns c = ap of_nat c.capped.ensures
