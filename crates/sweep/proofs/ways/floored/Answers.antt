-- `floored` calculates its definition. Assumes nothing.
use Rattle.enclosure.specs.Doubles.{floored}
use Rattle.sweep.proofs.ways.floored.Goals as goal

pub returns-then-product-least : goal.returns-then-product-least
unfolding floored
returns-then-product-least c = rw c.if-product-least.true

pub returns-else-product-least : goal.returns-else-product-least
unfolding floored
returns-else-product-least c = rw c.if-product-least.false
