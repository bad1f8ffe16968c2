-- `printing::put_letter` meets its contract: a comma and the letter follow one another. Assumes nothing.
use Rattle.printing.specs.laws.Line.{after_both}
use Rattle.printing.specs.Printed.{letter_text}
use Rattle.printing.proofs.put_letter.Goals as goal

pub returns : goal.returns
unfolding letter_text
returns c =
    after_both _ _ _ _ c.put-to.ensures (rw c.letter.ensures at c.put.ensures)
