-- `printing::put_current` meets its contract: the number is the one that `number_of` gives. Assumes nothing.
use Rattle.printing.proofs.put_current.Goals as goal

pub returns : goal.returns
returns c = rw c.number_of.ensures at c.put_next.ensures
