-- `study_changes` is safe and ends. The measure is how many changes are left.
use Rattle.std.specs.Prelude.{◌-◌, ◌≤◌}
use Rattle.bench.proofs.changes.study_changes.Given as goal

abbrev pub invariant-loop-i : goal.invariant-loop-i
invariant-loop-i l = l.i ≤ l.k

abbrev pub decreases-loop-i : goal.decreases-loop-i
decreases-loop-i l = l.k - l.i
