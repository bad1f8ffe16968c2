-- `gathered_at_root` meets its contract. The invariant: the currents of the buses so far, each carried to bus 0.
use Rattle.std.specs.Prelude.{◌≡◌, ◌-◌, ◌≤◌}
use Rattle.enclosure.specs.Doubles.{doubles}
use Rattle.tree.specs.Converters.{gathered}
use Rattle.sweep.specs.Points.{point_at, column_grid}
use Rattle.sweep.proofs.converters.gathered_at_root.Given as goal

abbrev pub invariant-loop-i : goal.invariant-loop-i
invariant-loop-i l =
    (l.i ≤ l.n) × (l.total ≡ gathered doubles (point_at l.re l.im) (column_grid l.n l.parents l.above l.below) l.i)

abbrev pub decreases-loop-i : goal.decreases-loop-i
decreases-loop-i l = l.n - l.i
