-- `elements::peaks::current` computes its definition. Assumes nothing.
use Rattle.elements.specs.Doubles.{current_by}
use Rattle.elements.proofs.peaks.current.Goals as goal

pub returns : goal.returns
unfolding current_by
returns c = rw (c.scale-2.ensures, c.scale.ensures)
