-- `sweep_down` is the sweep of its definition. The invariant: the buses so far are done.
use Rattle.std.specs.Prelude.{◌≡◌, ◌-◌, ◌≤◌}
use Rattle.sweep.specs.declared.sweeps.Falls.{Falls}
use Rattle.sweep.specs.Points.{point_at, points, column_grid}
use Rattle.sweep.specs.Sweep.{fall_to}
use Rattle.sweep.proofs.sweeps.sweep_down.Given as goal

-- the buses below `next` are done
abbrev pub invariant-loop-next : goal.invariant-loop-next
invariant-loop-next l =
    (l.next ≤ l.m)
    × (◌≡◌ {A = Falls} (record { down = points l.down_re l.down_im; fall = points l.fall_re l.fall_im })
    (fall_to (point_at l.z_re l.z_im) (column_grid l.m l.parents l.above l.below) (point_at l.rise_re l.rise_im) (point_at l.before_re l.before_im) l.next))

abbrev pub decreases-loop-next : goal.decreases-loop-next
decreases-loop-next l = l.m - l.next
