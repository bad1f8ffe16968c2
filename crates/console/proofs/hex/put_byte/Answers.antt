-- `console::hex::put_byte` meets its contract: the two digits are those of the halves. Assumes nothing.
use Rattle.console.proofs.hex.put_byte.Goals as goal

pub returns : goal.returns
returns c = rw (c.digit_of.ensures, c.digit_of-2.ensures) at c.put.ensures
