-- `console::tables::put_broken` meets its contract: the two texts follow one another, and there is room for them. Assumes nothing.
use Rattle.printing.specs.laws.Line.{after_both, first_is_text}
use Rattle.console.specs.Answers.{broken_head}
use Rattle.console.specs.laws.Answers.{broken_head_fits}
use Rattle.console.proofs.tables.put_broken.Goals as goal

pub returns : goal.returns
unfolding broken_head
returns c =
    first_is_text _ _ c.requires (broken_head_fits _ _) (after_both _ _ _ _ c.put_number-ground.ensures c.put_whole.ensures)
