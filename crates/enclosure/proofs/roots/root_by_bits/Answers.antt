use Rattle.std.proofs.Common.{◌+◌, ◌/◌, ◌^◌, ◌≤◌, refl, le_refl, arith, le→leb}
use lib.Ieee.{in_float}
use Rattle.enclosure.specs.Doubles.{root_below}
use Rattle.enclosure.specs.laws.Climb.{left_next, left_taken, left_passed, left_none}
use Rattle.enclosure.proofs.roots.root_by_bits.Invariants.{small}
use Rattle.enclosure.proofs.roots.root_by_bits.Goals as goal
use Rattle.enclosure.proofs.roots.root_by_bits.Goals.{In-loop-bits}

pub loop-bits-init : goal.loop-bits-init
unfolding root_below
loop-bits-init c = (le_refl 53, record { step = refl; room = le_refl (2 ^ 53); same = refl })

pub overflow_sub-bits : goal.overflow_sub-bits
overflow_sub-bits c = omega arith

next : (c : In-loop-bits) → c.loop-bits.low + c.loop-bits.step / 2 ≤ 2 ^ 53
next c = left_next (small c.args.m) _ (2 ^ 53) c.loop-bits.low c.loop-bits.step c.loop-bits.bits (omega arith) c.loop-bits.invariant.1

pub overflow_add-next : goal.overflow_add-next
overflow_add-next c = let h = next c in record { fits = omega arith }

pub int_to_float-x : goal.int_to_float-x
unfolding in_float
int_to_float-x c = le→leb _ (2 ^ 53) (next (goal.at.int_to_float-x c).In-loop-bits)

pub loop-bits-smaller-then-x-m : goal.loop-bits-smaller-then-x-m
loop-bits-smaller-then-x-m c = omega arith

pub loop-bits-preserved-then-x-m : goal.loop-bits-preserved-then-x-m
loop-bits-preserved-then-x-m c =
    let b = c in
    (omega arith, left_taken (small b.args.m) _ (2 ^ 53) b.loop-bits.low b.loop-bits.step b.loop-bits.bits (omega arith) b.loop-bits.invariant.1 c.if-x-m.true)

pub loop-bits-smaller : goal.loop-bits-smaller
loop-bits-smaller c = omega arith

pub loop-bits-preserved : goal.loop-bits-preserved
loop-bits-preserved c =
    let b = c in
    (omega arith, left_passed (small b.args.m) _ (2 ^ 53) b.loop-bits.low b.loop-bits.step b.loop-bits.bits (omega arith) b.loop-bits.invariant.1 c.if-x-m.false)

pub returns : goal.returns
returns c = left_none (small c.args.m) _ (2 ^ 53) c.loop-bits.low c.loop-bits.step c.loop-bits.bits (omega arith) c.loop-bits.invariant.1
