-- `enclosure::roots::root` meets its contract: a guess that is tried, or digit by digit.
-- Assumes nothing.
use Rattle.enclosure.proofs.roots.root.Goals as goal

pub returns-then-is_root : goal.returns-then-is_root
returns-then-is_root c = c.is_root.ensures c.if-is_root.true

pub returns-then-is_root-2 : goal.returns-then-is_root-2
returns-then-is_root-2 c = c.is_root-then-n-gt0.ensures c.if-is_root-2.true
