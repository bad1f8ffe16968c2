-- `printing::put_next` meets its contract: a comma and the number follow one another. Assumes nothing.
use Rattle.printing.specs.laws.Line.{after_both}
use Rattle.printing.specs.Printed.{next_text}
use Rattle.printing.proofs.put_next.Goals as goal

pub returns : goal.returns
unfolding next_text
returns c = after_both _ _ _ _ c.put-to.ensures c.put_number.ensures
