use Rattle.std.specs.Prelude.{◌<◌}
use Rattle.std.proofs.Common.{sym, arith}
use Rattle.enclosure.specs.Doubles.{doubles}
use Rattle.tree.specs.laws.Converters.{to_root_more, to_root_end}
use Rattle.sweep.specs.Points.{number_at, column_grid}
use Rattle.sweep.proofs.converters.+to_root.Goals as goal

pub parent_of-parent-requires : goal.parent_of-parent-requires
parent_of-parent-requires t c = tt

pub number_at-requires : goal.number_at-requires
number_at-requires t c = tt

pub number_at-requires-then-parent-b : goal.number_at-requires-then-parent-b
number_at-requires-then-parent-b t c = tt

pub scale-up-requires : goal.scale-up-requires
scale-up-requires t c = tt

pub to_root-requires : goal.to_root-requires
to_root-requires t c =
    (omega (arith, c.if-parent-b.true), tt)

pub returns-then-parent-b : goal.returns-then-parent-b
returns-then-parent-b t c =
    let a = c.args in
    let p = c.parent_of-parent in
    let h : number_at a.parents.now a.b < a.b = omega (arith, p.ensures, c.if-parent-b.true) in
    λ n. rw (to_root_more doubles (column_grid n a.parents.now a.above.now a.below.now) a.b a.x h, ← p.ensures, ← c.number_at.ensures, ← c.number_at-then-parent-b.ensures, ← c.scale-up.ensures) (c.to_root.ensures n)

pub returns : goal.returns
returns t c =
    let a = c.args in
    λ n. sym (to_root_end doubles (column_grid n a.parents.now a.above.now a.below.now) a.b a.x (omega (arith, c.parent_of-parent.ensures, c.if-parent-b.false)))
