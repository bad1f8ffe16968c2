use Rattle.std.specs.Prelude.{refl}
use Rattle.std.proofs.Common.{sym, ◌∙◌, le_refl, arith}
use Rattle.enclosure.specs.laws.Climb.{left_next, left_taken, left_passed, left_none}
use Rattle.elements.specs.Doubles.{fits_at, place_of}
use Rattle.elements.proofs.peaks.place.Goals as goal

pub loop-bits-init : goal.loop-bits-init
unfolding place_of
loop-bits-init c = record { step = refl; room = le_refl 4096; same = refl }

pub overflow_sub-bits : goal.overflow_sub-bits
overflow_sub-bits c = omega arith

pub overflow_add-next : goal.overflow_add-next
overflow_add-next c =
    let h = left_next (fits_at c.args.y) _ 4096 c.loop-bits.low c.loop-bits.step c.loop-bits.bits (omega arith) c.loop-bits.invariant in
    record { fits = omega arith }

pub loop-bits-smaller-then-fits : goal.loop-bits-smaller-then-fits
loop-bits-smaller-then-fits c = omega arith

pub loop-bits-preserved-then-fits : goal.loop-bits-preserved-then-fits
loop-bits-preserved-then-fits c =
    let b = c in
    left_taken (fits_at b.args.y) _ 4096 b.loop-bits.low b.loop-bits.step b.loop-bits.bits (omega arith) b.loop-bits.invariant (sym c.fits.ensures ∙ c.if-fits.true)

pub loop-bits-smaller : goal.loop-bits-smaller
loop-bits-smaller c = omega arith

pub loop-bits-preserved : goal.loop-bits-preserved
loop-bits-preserved c =
    let b = c in
    left_passed (fits_at b.args.y) _ 4096 b.loop-bits.low b.loop-bits.step b.loop-bits.bits (omega arith) b.loop-bits.invariant (sym c.fits.ensures ∙ c.if-fits.false)

pub returns : goal.returns
returns c = left_none (fits_at c.args.y) _ 4096 c.loop-bits.low c.loop-bits.step c.loop-bits.bits (omega arith) c.loop-bits.invariant
