-- `number_at` meets its contract, at a place of the array and past its end.
use Rattle.std.proofs.Common.{lt-ltb, le-ltb}
use Rattle.tree.specs.Limits.{max_buses}
use Rattle.sweep.proofs.columns.number_at.Goals as goal

pub returns-then-i-lt-BUSES : goal.returns-then-i-lt-BUSES
returns-then-i-lt-BUSES c = rw (lt-ltb _ max_buses c.if-i-lt-BUSES.true)

pub returns : goal.returns
returns c = rw (le-ltb _ max_buses c.if-i-lt-BUSES.false)
