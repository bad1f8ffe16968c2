-- `sweep_up` is the sweep of its definition. The invariant: what is still to be done makes the whole.
use Rattle.std.specs.Prelude.{◌≡◌, ◌≤◌, min}
use Rattle.tree.specs.Limits.{max_buses}
use Rattle.sweep.specs.Points.{point_at, points, no_points, column_grid}
use Rattle.sweep.specs.Sweep.{up_from}
use Rattle.sweep.proofs.sweeps.sweep_up.Given as goal

-- what is still to be done makes the whole
abbrev pub invariant-loop-i : goal.invariant-loop-i
invariant-loop-i l =
    (l.i ≤ max_buses)
    × (up_from (point_at l.z_re l.z_im) (column_grid (min l.n max_buses) l.parents l.above l.below) (record { up = points l.up_re l.up_im; rise = points l.rise_re l.rise_im; before = points l.before_re l.before_im }) l.i
    ≡ up_from (point_at l.z_re l.z_im) (column_grid (min l.n max_buses) l.parents l.above l.below) (record { up = points l.initial.up_re l.initial.up_im; rise = no_points; before = no_points }) l.initial.i)

abbrev pub decreases-loop-i : goal.decreases-loop-i
decreases-loop-i l = l.i
