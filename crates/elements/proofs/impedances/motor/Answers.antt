-- `elements::impedances::motor` computes its definition. Assumes nothing.
use Rattle.elements.specs.Doubles.{motor_by}
use Rattle.elements.proofs.impedances.motor.Goals as goal

pub returns : goal.returns
unfolding motor_by
returns c = rw (c.scale-3.ensures, c.scale-2.ensures, c.scale-z.ensures, c.scale.ensures, c.split.ensures)
