-- `elements::impedances::feeder` computes its definition. Assumes nothing.
use Rattle.elements.specs.Doubles.{feeder_by}
use Rattle.elements.proofs.impedances.feeder.Goals as goal

pub returns : goal.returns
unfolding feeder_by
returns c = rw (c.scale-2.ensures, c.voltage_factor.ensures, c.scale-z.ensures, c.scale.ensures, c.split.ensures)
