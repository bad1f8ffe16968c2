-- `enclosure::roots::root_below` meets its contract: a guess that is tried, or bit by bit.
-- Assumes nothing.
use Rattle.enclosure.proofs.roots.root_below.Goals as goal

pub returns-then-is_root_below : goal.returns-then-is_root_below
returns-then-is_root_below c = c.is_root_below.ensures c.if-is_root_below.true

pub returns-then-is_root_below-2 : goal.returns-then-is_root_below-2
returns-then-is_root_below-2 c = c.is_root_below-then-n-gt0.ensures c.if-is_root_below-2.true
