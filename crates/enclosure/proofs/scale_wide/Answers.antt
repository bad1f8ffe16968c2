-- `enclosure::scale_wide` computes its model. Assumes nothing.
use lib.Ieee.{mul}
use Rattle.enclosure.specs.Doubles.{scaled}
use Rattle.enclosure.proofs.scale_wide.Goals as goal

pub returns : goal.returns
unfolding mul scaled
returns c = rw (c.whole-2.ensures, c.whole.ensures)
