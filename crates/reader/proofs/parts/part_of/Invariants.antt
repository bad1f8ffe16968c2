-- `part_of` meets its contract. The invariant: the rows from the beginning come to what the additions so far and the rows behind them do.
use Rattle.std.specs.Prelude.{◌≡◌, ℕ, ◌+◌, ◌-◌, ◌≤◌, ◌<◌, length, drop}
use Rattle.network.specs.Network.{Network}
use Rattle.network.specs.Additions.{max_additions, listed}
use Rattle.reader.specs.File.{rows, read_from}
use Rattle.reader.specs.Parts.{added_then}
use Rattle.reader.proofs.parts.part_of.Given as goal

abbrev pub invariant-loop-at : goal.invariant-loop-at
invariant-loop-at l =
    (length l.additions.entries ≡ max_additions) × (l.additions.count ≤ max_additions) × (l.from + l.additions.count ≤ l.at) × (l.at ≤ length l.text + 2)
    × ((i : ℕ) (n : Network) → 0 < i → read_from i n (rows (drop l.from l.text)) ≡ added_then (λ j m. read_from j m (rows (drop l.at l.text))) i n (listed l.additions))

abbrev pub decreases-loop-at : goal.decreases-loop-at
decreases-loop-at l = length l.text + 2 - l.at
