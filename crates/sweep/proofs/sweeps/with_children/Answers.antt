use Rattle.std.specs.Prelude.{refl}
use Rattle.std.proofs.Common.{sym, ◌∙◌, ap, arith}
use Rattle.enclosure.specs.Doubles.{added}
use Rattle.sweep.specs.Points.{number_at, point_at}
use Rattle.sweep.specs.Sweep.{child_of, with_children}
use Rattle.sweep.specs.laws.Steps.{over_added, over_passed, over_past}
use Rattle.sweep.proofs.sweeps.with_children.Goals as goal

pub loop-i-init : goal.loop-i-init
loop-i-init c = refl

pub overflow_sub-i : goal.overflow_sub-i
overflow_sub-i c = omega arith

pub loop-i-smaller-then-is_child : goal.loop-i-smaller-then-is_child
loop-i-smaller-then-is_child c = omega arith

pub loop-i-preserved-then-is_child : goal.loop-i-preserved-then-is_child
loop-i-preserved-then-is_child c =
    let l = c.loop-i in
    let a = c.args in
    over_added added (child_of (number_at a.parents.now) a.b) (point_at a.rise_re.now a.rise_im.now) l.total l.i c.add-total.result (omega arith)
    (sym c.is_child.ensures ∙ c.if-is_child.true)
    (c.add-total.ensures ∙ ap (added l.total) c.point_at-more.ensures)
    ∙ l.invariant

pub loop-i-smaller : goal.loop-i-smaller
loop-i-smaller c = omega arith

pub loop-i-preserved : goal.loop-i-preserved
loop-i-preserved c =
    let l = c.loop-i in
    let a = c.args in
    over_passed added (child_of (number_at a.parents.now) a.b) (point_at a.rise_re.now a.rise_im.now) l.total l.i (omega arith)
    (sym c.is_child.ensures ∙ c.if-is_child.false)
    ∙ l.invariant

pub returns : goal.returns
unfolding with_children
returns c =
    let l = c.loop-i in
    let a = c.args in
    sym (over_past added (number_at a.parents.now) (point_at a.rise_re.now a.rise_im.now) l.total a.b l.i (omega arith))
    ∙ l.invariant
