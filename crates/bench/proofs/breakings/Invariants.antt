-- `breakings` meets its contract. The invariant: the table and the total of the calls so far. The measure is how many are left.
use Rattle.std.specs.Prelude.{◌≡◌, ◌-◌, ◌≤◌, length}
use Rattle.network.specs.Network.{network}
use Rattle.bench.specs.Breakings.{broken_times}
use Rattle.bench.proofs.breakings.Given as goal

abbrev pub invariant-loop-i : goal.invariant-loop-i
invariant-loop-i l = (l.i ≤ l.k) × (length l.table ≡ length l.initial.table) × (broken_times (network l.s) l.n l.delay l.initial.table l.i ≡ (l.table, l.total))

abbrev pub decreases-loop-i : goal.decreases-loop-i
decreases-loop-i l = l.k - l.i
