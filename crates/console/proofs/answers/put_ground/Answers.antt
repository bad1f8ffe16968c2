-- `console::answers::put_ground` meets its contract: the two texts follow one another, and there is room for them. Assumes nothing.
use Rattle.printing.specs.laws.Line.{after_both, first_is_text}
use Rattle.console.specs.Answers.{number_line}
use Rattle.console.specs.laws.Answers.{number_fits}
use Rattle.console.proofs.answers.put_ground.Goals as goal

pub returns : goal.returns
unfolding number_line
returns c =
    first_is_text _ _ c.requires (number_fits _) (after_both _ _ _ _ c.put_number-at.ensures c.put.ensures)
