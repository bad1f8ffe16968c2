use Rattle.std.specs.Prelude.{◌*◌, ◌^◌}
use Rattle.std.proofs.Common.{arith, le→leb}
use Rattle.std.specs.Float.Ieee.{in_float}
use Rattle.tree.specs.Ways.{rated_steps}
use Rattle.breaking.proofs.parts.rated_steps.Goals as goal

pub int_to_float-t : goal.int_to_float-t
unfolding in_float
int_to_float-t c = le→leb c.args.volts (2 ^ 53) (omega arith)

pub int_to_float-t-2 : goal.int_to_float-t-2
unfolding in_float
int_to_float-t-2 c = le→leb (100 * c.args.kva) (2 ^ 53) (omega arith)

pub returns : goal.returns
unfolding rated_steps
returns c = c.root_fine.ensures
