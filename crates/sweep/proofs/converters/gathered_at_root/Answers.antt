use Rattle.std.specs.Prelude.{◌≡◌}
use Rattle.std.proofs.Common.{sym, ap, ap₂, ◌∙◌, arith}
use Rattle.enclosure.specs.Doubles.{added, doubles}
use Rattle.tree.specs.Converters.{gathered, to_root}
use Rattle.tree.specs.laws.Converters.{gathered_more}
use Rattle.sweep.specs.Points.{point_at, column_grid}
use Rattle.sweep.proofs.converters.gathered_at_root.Goals as goal

pub loop-i-init : goal.loop-i-init
loop-i-init c = (omega arith, c.nothing-total.ensures)

pub overflow_add-i : goal.overflow_add-i
overflow_add-i c = omega arith

pub loop-i-smaller : goal.loop-i-smaller
loop-i-smaller c = omega arith

pub loop-i-preserved : goal.loop-i-preserved
loop-i-preserved c =
    let a = c.args in
    let l = c.loop-i in
    let G = column_grid a.n a.parents.now a.above.now a.below.now in
    let z = point_at a.re.now a.im.now in (
      omega arith,
      c.add-total.ensures
          ∙ ap₂ added l.invariant.1 (c.to_root-x.ensures a.n ∙ ap (to_root doubles G l.i) c.point_at.ensures)
          ∙ sym (gathered_more doubles z G l.i),
    )

pub returns : goal.returns
returns c =
    let a = c.args in
    let G = column_grid a.n a.parents.now a.above.now a.below.now in
    let i : c.loop-i.i ≡ a.n = omega arith in
    c.loop-i.invariant.1 ∙ ap (gathered doubles (point_at a.re.now a.im.now) G) i
