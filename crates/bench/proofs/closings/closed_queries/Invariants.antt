-- `closed_queries` meets its contract. The invariant: the answers so far are added up. The measure is how many are left.
use Rattle.std.specs.Prelude.{◌≡◌, ◌+◌, ◌-◌, ◌≤◌}
use Rattle.network.specs.Network.{network}
use Rattle.network.specs.Grounds.{after_close}
use Rattle.bench.specs.Queries.{sums_of}
use Rattle.bench.proofs.closings.closed_queries.Given as goal

abbrev pub invariant-loop-i : goal.invariant-loop-i
invariant-loop-i l = (l.i ≤ l.k) × (l.total ≡ sums_of (after_close (network l.s)) (l.last + 1) l.i)

abbrev pub decreases-loop-i : goal.decreases-loop-i
decreases-loop-i l = l.k - l.i
