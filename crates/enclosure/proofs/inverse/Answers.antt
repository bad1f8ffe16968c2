-- `enclosure::inverse` computes its model. Assumes nothing.
use Rattle.enclosure.specs.Doubles.{inverted}
use Rattle.enclosure.proofs.inverse.Goals as goal

pub returns-then-n : goal.returns-then-n
unfolding inverted
returns-then-n c = rw c.if-n.true

pub returns-else-n : goal.returns-else-n
unfolding inverted
returns-else-n c = rw c.if-n.false
