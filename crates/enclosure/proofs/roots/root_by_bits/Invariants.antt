-- `enclosure::roots::root_by_bits` meets its contract: the bits that are left to try give what the whole climb gives.
-- Assumes nothing.
use Rattle.std.proofs.Common.{ℕ, ◌^◌, ◌≤◌, Bool}
use lib.Ieee.{Float, le}
use Rattle.enclosure.specs.Doubles.{squared, root_below}
use Rattle.enclosure.specs.laws.Climb.{Left}
use Rattle.enclosure.proofs.roots.root_by_bits.Given as goal

abbrev pub small : Float → ℕ → Bool
small m r = le (squared r) m

abbrev pub invariant-loop-bits : goal.invariant-loop-bits
invariant-loop-bits l = (l.bits ≤ 53) × Left (small l.m) (root_below l.m) (2 ^ 53) l.low l.step l.bits

abbrev pub decreases-loop-bits : goal.decreases-loop-bits
decreases-loop-bits l = l.bits
