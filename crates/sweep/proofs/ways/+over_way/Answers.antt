use Rattle.std.specs.Prelude.{◌<◌}
use Rattle.std.proofs.Common.{sym, arith}
use Rattle.tree.specs.laws.Ways.{over_way_child, over_way_parent, over_way_here, over_way_stuck_child, over_way_stuck_parent}
use Rattle.sweep.specs.Points.{number_at}
use Rattle.sweep.specs.Crossings.{factor_at}
use Rattle.sweep.proofs.ways.+over_way.Goals as goal

pub returns-then-p-j : goal.returns-then-p-j
returns-then-p-j t c =
    let w = c in
    let q = w in
    let a = q.args in
    let h : number_at a.parents.now a.j < a.j = omega (arith, q.parent_of-p.ensures, w.if-p-j.true) in
    rw (over_way_child (number_at a.parents.now) (factor_at a.up.now) (factor_at a.down.now) a.least a.b a.j q.if-b-j.true h, ← q.parent_of-p.ensures, ← w.over_way-rest.ensures, ← c.factor_at.ensures)
    c.floored.ensures

pub returns-then-b-j : goal.returns-then-b-j
returns-then-b-j t c =
    let a = c.args in
    sym (over_way_stuck_child (number_at a.parents.now) (factor_at a.up.now) (factor_at a.down.now) a.least a.b a.j c.if-b-j.true (omega (arith, c.parent_of-p.ensures, c.if-p-j.false)))

pub returns-then-p-b : goal.returns-then-p-b
returns-then-p-b t c =
    let w = c in
    let q = w in
    let a = q.args in
    let h : number_at a.parents.now a.b < a.b = omega (arith, q.parent_of-p-then-j-b.ensures, w.if-p-b.true) in
    rw (over_way_parent (number_at a.parents.now) (factor_at a.up.now) (factor_at a.down.now) a.least a.b a.j q.if-j-b.true h, ← q.parent_of-p-then-j-b.ensures, ← w.over_way-rest-then-p-b.ensures, ← c.factor_at-then-p-b.ensures)
    c.floored-then-p-b.ensures

pub returns-else-p-b : goal.returns-else-p-b
returns-else-p-b t c =
    let a = c.args in
    sym (over_way_stuck_parent (number_at a.parents.now) (factor_at a.up.now) (factor_at a.down.now) a.least a.b a.j c.if-j-b.true (omega (arith, c.parent_of-p-then-j-b.ensures, c.if-p-b.false)))

pub returns-else-j-b : goal.returns-else-j-b
returns-else-j-b t c =
    let a = c.args in
    sym (over_way_here (number_at a.parents.now) (factor_at a.up.now) (factor_at a.down.now) a.least a.b a.j (omega (arith, c.if-j-b.false, c.if-b-j.false)))
