-- `enclosure::scale` computes its model. Assumes nothing.
use Rattle.std.proofs.Common.{rules}
use lib.Ieee.{mul}
use Rattle.enclosure.specs.Doubles.{scaled}
use Rattle.enclosure.proofs.scale.Goals as goal

pub returns : goal.returns
unfolding mul scaled
returns c = search rules
