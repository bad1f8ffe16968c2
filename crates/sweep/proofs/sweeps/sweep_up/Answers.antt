use Rattle.std.specs.Prelude.{◌≡◌, refl, min}
use Rattle.std.proofs.Common.{◌∙◌, arith}
use Rattle.sweep.specs.declared.sweeps.Rises.{Rises}
use Rattle.tree.specs.Limits.{max_buses}
use Rattle.sweep.specs.Points.{point_at, points, column_grid}
use Rattle.sweep.specs.Sweep.{rises_of}
use Rattle.sweep.specs.laws.Steps.{up_handed, up_passed}
use Rattle.sweep.proofs.sweeps.sweep_up.Goals as goal

pub loop-i-init : goal.loop-i-init
loop-i-init c = (omega arith, refl)

pub overflow_sub-i : goal.overflow_sub-i
overflow_sub-i c = omega arith

pub bounds-before_re-i : goal.bounds-before_re-i
bounds-before_re-i c = omega arith

pub bounds-before_im-i : goal.bounds-before_im-i
bounds-before_im-i c = omega arith

pub bounds-rise_re-i : goal.bounds-rise_re-i
bounds-rise_re-i c = omega arith

pub bounds-rise_im-i : goal.bounds-rise_im-i
bounds-rise_im-i c = omega arith

pub bounds-up_re-p : goal.bounds-up_re-p
bounds-up_re-p c = omega arith

pub bounds-up_im-p : goal.bounds-up_im-p
bounds-up_im-p c = omega arith

pub loop-i-smaller-then-p-i : goal.loop-i-smaller-then-p-i
loop-i-smaller-then-p-i c = omega arith

pub loop-i-preserved-then-p-i : goal.loop-i-preserved-then-p-i
loop-i-preserved-then-p-i c =
    let b = c in
    let d = b in
    let l = d.loop-i in
    let a = d.args in
    let G = column_grid (min a.n max_buses) a.parents.now a.above.now a.below.now in
    let s : Rises = record { up = points l.up_re l.up_im; rise = points l.rise_re l.rise_im; before = points l.before_re l.before_im } in (
      omega arith,
      up_handed (point_at a.z_re.now a.z_im.now) G s l.i d.parent_of-p.result b.point_at-here.result c.point_at-was.result c.seen_through-r.result c.add-sum.result
          (omega arith) d.parent_of-p.ensures b.if-p-i.true b.point_at-here.ensures c.point_at-was.ensures
          (c.seen_through-r.ensures (min a.n max_buses) a.parents.now) c.add-sum.ensures
          ∙ l.invariant.1,
    )

pub loop-i-smaller : goal.loop-i-smaller
loop-i-smaller c = omega arith

pub loop-i-preserved : goal.loop-i-preserved
loop-i-preserved c =
    let l = c.loop-i in
    let a = c.args in
    let G = column_grid (min a.n max_buses) a.parents.now a.above.now a.below.now in
    let s : Rises = record { up = points l.up_re l.up_im; rise = points l.rise_re l.rise_im; before = points l.before_re l.before_im } in (
      omega arith,
      up_passed (point_at a.z_re.now a.z_im.now) G s l.i (omega arith) (rw c.parent_of-p.ensures at c.if-p-i.false) ∙ l.invariant.1,
    )

pub returns : goal.returns
unfolding rises_of
returns c =
    let l = c.loop-i in
    let i : l.i ≡ 0 = omega arith in
    rw (i, c.clamped-i.ensures) at l.invariant.1
