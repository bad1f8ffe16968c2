-- `with_numbers` meets its contract. The invariant: adding the numbers that are left gives what adding all gave at first. The measure is how
-- many are left.
use Rattle.std.specs.Prelude.{◌≡◌, ◌-◌, ◌≤◌, length, drop}
use Rattle.bench.specs.Reports.{numbers_added}
use Rattle.bench.proofs.with_numbers.Given as goal

abbrev pub invariant-loop-i : goal.invariant-loop-i
invariant-loop-i l = (l.i ≤ length l.table) × (numbers_added l.total (drop l.i l.table) ≡ numbers_added l.start l.table)

abbrev pub decreases-loop-i : goal.decreases-loop-i
decreases-loop-i l = length l.table - l.i
