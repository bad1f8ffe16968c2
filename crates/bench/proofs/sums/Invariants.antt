-- `sums` meets its contract. The invariant: the answers so far are added up.
use Rattle.std.specs.Prelude.{◌≡◌, ◌-◌, ◌≤◌}
use Rattle.network.specs.Network.{network}
use Rattle.bench.specs.Queries.{sums_of}
use Rattle.bench.proofs.sums.Given as goal

abbrev pub invariant-loop-i : goal.invariant-loop-i
invariant-loop-i l = (l.i ≤ l.k) × (l.total ≡ sums_of (network l.s) l.n l.i)

abbrev pub decreases-loop-i : goal.decreases-loop-i
decreases-loop-i l = l.k - l.i
