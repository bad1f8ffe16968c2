-- `with_children` adds what its definition adds. The invariant: what is still to be added makes the whole.
use Rattle.std.specs.Prelude.{◌≡◌}
use Rattle.enclosure.specs.Doubles.{added}
use Rattle.tree.specs.Grid.{sum_over}
use Rattle.sweep.specs.Points.{number_at, point_at}
use Rattle.sweep.specs.Sweep.{child_of}
use Rattle.sweep.proofs.sweeps.with_children.Given as goal

-- what is still to be added makes the whole
abbrev pub invariant-loop-i : goal.invariant-loop-i
invariant-loop-i l =
    sum_over added (child_of (number_at l.parents) l.b) (point_at l.rise_re l.rise_im) l.total l.i ≡ sum_over added (child_of (number_at l.parents) l.b) (point_at l.rise_re l.rise_im) l.initial.total l.top

abbrev pub decreases-loop-i : goal.decreases-loop-i
decreases-loop-i l = l.i
