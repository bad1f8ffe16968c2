-- `way_columns` fills both columns with the records so far.
use Rattle.std.specs.Prelude.{◌-◌, ◌≤◌}
use Rattle.sweep.specs.laws.Columns.{FilledTo}
use Rattle.network.specs.Network.{bus_at}
use Rattle.network.proofs.bus_grounds.way_columns.Given as goal

abbrev pub invariant-loop-k : goal.invariant-loop-k
invariant-loop-k l =
    (l.k ≤ l.n) × (FilledTo 0 (λ j. (bus_at l.buses j).parent) l.k l.parents × FilledTo 0 (λ j. (bus_at l.buses j).kind) l.k l.kinds)

abbrev pub decreases-loop-k : goal.decreases-loop-k
decreases-loop-k l = l.n - l.k
