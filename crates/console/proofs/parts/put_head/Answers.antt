-- `console::parts::put_head` meets its contract: the three texts follow one another, and there is room for them. Assumes nothing.
use Rattle.printing.specs.laws.Line.{after_both, first_is_text}
use Rattle.console.specs.Answers.{written_head}
use Rattle.console.specs.laws.Answers.{head_fits}
use Rattle.console.proofs.parts.put_head.Goals as goal

pub returns : goal.returns
unfolding written_head
returns c =
    let two = after_both _ _ _ _ c.put_number-ground.ensures c.put_next-at.ensures in
    first_is_text _ _ c.requires (head_fits _ _) (after_both _ _ _ _ two c.put.ensures)
