-- `printing::amount` meets its contract: 0.0 is written by its bits in the code. Assumes nothing.
use Rattle.std.specs.Float.Ieee.{of_bits}
use Rattle.std.proofs.Common.{sym, ap}
use Rattle.printing.specs.Printed.{amount_of}
use Rattle.printing.proofs.amount.Goals as goal

pub returns-in-Close : goal.returns-in-Close
unfolding of_bits
returns-in-Close c = sym (ap amount_of c.in-Close.is)
