-- `reports` meets its contract. The invariant: the table and the total of the reports so far. The measure is how many are left.
use Rattle.std.specs.Prelude.{◌≡◌, ◌-◌, ◌≤◌, length}
use Rattle.network.specs.Network.{network}
use Rattle.bench.specs.Reports.{reported_times}
use Rattle.bench.proofs.reports.Given as goal

abbrev pub invariant-loop-i : goal.invariant-loop-i
invariant-loop-i l = (l.i ≤ l.k) × (length l.table ≡ length l.initial.table) × (reported_times (network l.s) l.initial.table l.i ≡ (l.table, l.total))

abbrev pub decreases-loop-i : goal.decreases-loop-i
decreases-loop-i l = l.k - l.i
