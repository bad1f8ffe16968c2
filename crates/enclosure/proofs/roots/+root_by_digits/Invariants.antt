-- `enclosure::roots::root_by_digits` meets its contract. The measure is x.
-- Assumes nothing.
use Rattle.enclosure.proofs.roots.+root_by_digits.Given as goal

abbrev pub decreases-root_by_digits : goal.decreases-root_by_digits
decreases-root_by_digits l = l.x
