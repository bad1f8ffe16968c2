-- `console::answers::put_found` meets its contract: the five texts follow one another, and there is room for them. Assumes nothing.
use Rattle.std.proofs.Common.{ap, ◌∙◌}
use Rattle.printing.specs.laws.Line.{after_both, first_is_text}
use Rattle.printing.specs.Printed.{whole_of}
use Rattle.console.specs.Answers.{found_line}
use Rattle.console.specs.laws.Answers.{found_fits}
use Rattle.console.proofs.answers.put_found.Goals as goal

pub returns : goal.returns
unfolding found_line
returns c =
    let amount = c.number_of.ensures ∙ ap whole_of c.amount.ensures in
    let two = after_both _ _ _ _ c.put_number-ground.ensures c.put_amperes-amperes.ensures in
    let three = after_both _ _ _ _ two c.put_letter-letter.ensures in
    let four = after_both _ _ _ _ three (rw amount at c.put_next-at.ensures) in
    first_is_text _ _ c.requires (found_fits _) (after_both _ _ _ _ four c.put.ensures)
