-- `console::tables::put_whole` meets its contract. Assumes nothing.
use Rattle.console.proofs.tables.put_whole.Goals as goal

pub returns : goal.returns
returns c = rw c.number_of.ensures at c.put_next.ensures
