-- `noldveig::lay` meets its contract. The invariant: behind what stood before the place stand the bytes that were passed. The measure is the
-- number of bytes that are left. Assumes nothing.
use Rattle.std.specs.Prelude.{◌≡◌, ◌++◌, ◌+◌, ◌-◌, ◌≤◌, length, take}
use Rattle.noldveig.proofs.lay.Given as goal

abbrev pub invariant-loop-i : goal.invariant-loop-i
invariant-loop-i l = (length l.out ≡ length l.initial.out) × ((l.i ≤ length l.bytes) × (take (l.at + l.i) l.out ≡ take l.at l.initial.out ++ take l.i l.bytes))

abbrev pub decreases-loop-i : goal.decreases-loop-i
decreases-loop-i l = length l.bytes - l.i
