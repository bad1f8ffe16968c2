-- `withdraw` meets its contract. The invariant: without the record at place i the array has what it had at first without that at the place.
use Rattle.std.specs.Prelude.{◌≡◌, ◌-◌, ◌≤◌, length, take}
use Rattle.tree.specs.Limits.{max_sources}
use Rattle.network.specs.Network.{removed}
use Rattle.network.proofs.Changing.{with_array}
use Rattle.network.proofs.calls.withdraw.Given as goal

abbrev pub invariant-loop-i : goal.invariant-loop-i
invariant-loop-i l =
    (l.i ≤ l.last) × (length l.next.sources ≡ max_sources) × (l.next ≡ with_array l.initial.next l.next.sources)
    × (removed l.i (take l.n l.next.sources) ≡ removed l.j (take l.n l.initial.next.sources))

abbrev pub decreases-loop-i : goal.decreases-loop-i
decreases-loop-i l = l.last - l.i
