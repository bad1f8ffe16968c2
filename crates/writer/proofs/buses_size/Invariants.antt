-- `buses_size` meets its contract. The invariant: the size so far and what the rows that are left take make the whole. That no row has
-- more than 213 bytes keeps the sum in range. The measure is how many rows are left.
use Rattle.std.specs.Prelude.{◌≡◌, ◌+◌, ◌-◌, ◌≤◌, length, take}
use Rattle.reader.specs.File.{letter_b}
use Rattle.writer.specs.Text.{bus_numbers, record_rows}
use Rattle.writer.proofs.NextRow.{rows_from}
use Rattle.writer.proofs.buses_size.Given as goal

abbrev pub invariant-loop-i : goal.invariant-loop-i
invariant-loop-i l = (l.i ≤ l.total) × (l.size + length (rows_from letter_b bus_numbers l.buses l.total l.i) ≡ length (record_rows letter_b bus_numbers (take l.total l.buses)))

abbrev pub decreases-loop-i : goal.decreases-loop-i
decreases-loop-i l = l.total - l.i
