use Rattle.std.specs.Prelude.{◌≡◌, refl}
use Rattle.std.proofs.Common.{arith}
use Rattle.sweep.specs.declared.sweeps.Falls.{Falls}
use Rattle.sweep.specs.Points.{point_at, points, column_grid}
use Rattle.sweep.specs.Sweep.{falls_of}
use Rattle.sweep.specs.laws.Steps.{down_taken, down_passed}
use Rattle.sweep.proofs.sweeps.sweep_down.Goals as goal

pub loop-next-init : goal.loop-next-init
loop-next-init c = (omega arith, refl)

pub overflow_add-next : goal.overflow_add-next
overflow_add-next c = omega arith

pub bounds-down_re-i : goal.bounds-down_re-i
bounds-down_re-i c = omega arith

pub bounds-down_im-i : goal.bounds-down_im-i
bounds-down_im-i c = omega arith

pub bounds-fall_re-i : goal.bounds-fall_re-i
bounds-fall_re-i c = omega arith

pub bounds-fall_im-i : goal.bounds-fall_im-i
bounds-fall_im-i c = omega arith

pub loop-next-smaller-then-p-i : goal.loop-next-smaller-then-p-i
loop-next-smaller-then-p-i c = omega arith

pub loop-next-preserved-then-p-i : goal.loop-next-preserved-then-p-i
loop-next-preserved-then-p-i c =
    let d = c in
    let q = d in
    let l = q.loop-next in
    let m = q in
    let a = m.args in
    let G = column_grid m.clamped-m.result a.parents.now a.above.now a.below.now in
    let s : Falls = record { down = points l.down_re l.down_im; fall = points l.fall_re l.fall_im } in (
      omega arith,
      down_taken (point_at a.z_re.now a.z_im.now) G (point_at a.rise_re.now a.rise_im.now) (point_at a.before_re.now a.before_im.now) s l.next q.parent_of-p.result d.down_at-d.result c.seen_through-f.result
          l.invariant.1 q.parent_of-p.ensures d.if-p-i.true d.down_at-d.ensures (c.seen_through-f.ensures m.clamped-m.result a.parents.now),
    )

pub loop-next-smaller : goal.loop-next-smaller
loop-next-smaller c = omega arith

pub loop-next-preserved : goal.loop-next-preserved
loop-next-preserved c =
    let q = c in
    let l = q.loop-next in
    let m = q in
    let a = m.args in
    let G = column_grid m.clamped-m.result a.parents.now a.above.now a.below.now in
    let s : Falls = record { down = points l.down_re l.down_im; fall = points l.fall_re l.fall_im } in (
      omega arith,
      down_passed (point_at a.z_re.now a.z_im.now) G (point_at a.rise_re.now a.rise_im.now) (point_at a.before_re.now a.before_im.now) s l.next
          l.invariant.1 (rw q.parent_of-p.ensures at c.if-p-i.false),
    )

pub returns : goal.returns
unfolding falls_of
returns c =
    let l = c.loop-next in
    let i : l.next ≡ c.clamped-m.result = omega arith in
    rw (← c.clamped-m.ensures) (rw i at l.invariant.1)
