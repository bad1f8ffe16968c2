-- `enclosure::roots::root_fine` computes its model. Assumes nothing.
use Rattle.enclosure.specs.Doubles.{root_fine}
use Rattle.enclosure.proofs.roots.root_fine.Goals as goal

pub returns : goal.returns
unfolding root_fine
returns c = c.root_below.ensures
