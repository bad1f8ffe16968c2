-- `is_child` meets its contract.
use Rattle.std.proofs.Common.{le-ltb, lt-ltb}
use Rattle.sweep.proofs.sweeps.is_child.Goals as goal

pub returns-then-b-i : goal.returns-then-b-i
returns-then-b-i c = simp (lt-ltb _ _ c.if-b-i.true, c.parent_of.ensures)

pub returns : goal.returns
returns c = simp (le-ltb _ _ c.if-b-i.false)
