-- `elements::peaks::place` meets its contract: the bits that are left to try give what the whole climb gives.
-- Assumes nothing.
use Rattle.enclosure.specs.laws.Climb.{Left}
use Rattle.elements.specs.Doubles.{fits_at, place_of}
use Rattle.elements.proofs.peaks.place.Given as goal

abbrev pub invariant-loop-bits : goal.invariant-loop-bits
invariant-loop-bits l = Left (fits_at l.y) (place_of l.y) 4096 l.low l.step l.bits

abbrev pub decreases-loop-bits : goal.decreases-loop-bits
decreases-loop-bits l = l.bits
