-- `read_records` meets its contract. The invariant: the rows that are left give the outcome of all.
use Rattle.std.specs.Prelude.{◌≡◌, ◌+◌, ◌-◌, ◌≤◌, length, drop}
use Rattle.network.specs.Network.{network}
use Rattle.reader.specs.File.{rows, read_from}
use Rattle.reader.proofs.read_records.Given as goal

abbrev pub invariant-loop-at : goal.invariant-loop-at
invariant-loop-at l =
    (1 ≤ l.row) × (l.row ≤ l.at) × (l.at ≤ length l.text + 2) × (read_from 1 (network l.initial.study) (rows (drop l.from l.text)) ≡ read_from l.row (network l.study) (rows (drop l.at l.text)))

abbrev pub decreases-loop-at : goal.decreases-loop-at
decreases-loop-at l = length l.text + 2 - l.at
