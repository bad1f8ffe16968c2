-- `writes` meets its contract. The invariant: what the turns so far have written. The measure is how many are left.
use Rattle.std.specs.Prelude.{◌≡◌, ◌-◌, ◌≤◌, length}
use Rattle.network.specs.Network.{network}
use Rattle.bench.specs.Writes.{written_times}
use Rattle.bench.proofs.writes.Given as goal

abbrev pub invariant-loop-i : goal.invariant-loop-i
invariant-loop-i l = (l.i ≤ l.k) × (length l.buffer ≡ length l.initial.buffer) × (written_times (network l.s) l.initial.buffer l.i ≡ (l.buffer, l.length))

abbrev pub decreases-loop-i : goal.decreases-loop-i
decreases-loop-i l = l.k - l.i
