-- `elements::impedances::converter` computes its definition. Assumes nothing.
use Rattle.elements.specs.Doubles.{converter_by}
use Rattle.elements.proofs.impedances.converter.Goals as goal

pub returns : goal.returns
unfolding converter_by
returns c = rw (c.scale.ensures, c.of.ensures)
