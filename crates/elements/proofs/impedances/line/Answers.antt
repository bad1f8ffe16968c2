-- `elements::impedances::line` computes its definition. Assumes nothing.
use Rattle.elements.specs.Doubles.{line_by}
use Rattle.elements.proofs.impedances.line.Goals as goal

pub returns : goal.returns
unfolding line_by
returns c = rw (c.scale-2.ensures, c.scale.ensures, c.of.ensures)
