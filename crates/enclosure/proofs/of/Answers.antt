-- `enclosure::of` computes its model. Assumes nothing.
use Rattle.std.proofs.Common.{rules}
use lib.Ieee.{of_int}
use Rattle.enclosure.specs.Doubles.{whole_point}
use Rattle.enclosure.proofs.of.Goals as goal

pub returns : goal.returns
unfolding of_int whole_point
returns c = search rules
