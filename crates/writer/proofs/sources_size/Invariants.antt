-- `sources_size` meets its contract. The invariant: the size so far and what the rows that are left take make the whole. That no row has
-- more than 255 bytes keeps the sum in range. The measure is how many rows are left.
use Rattle.std.specs.Prelude.{◌≡◌, ◌+◌, ◌-◌, ◌≤◌, length, take}
use Rattle.reader.specs.File.{letter_p}
use Rattle.writer.specs.Text.{source_numbers, record_rows}
use Rattle.writer.proofs.NextRow.{rows_from}
use Rattle.writer.proofs.sources_size.Given as goal

abbrev pub invariant-loop-i : goal.invariant-loop-i
invariant-loop-i l = (l.i ≤ l.total) × (l.size + length (rows_from letter_p source_numbers l.sources l.total l.i) ≡ length (record_rows letter_p source_numbers (take l.total l.sources)))

abbrev pub decreases-loop-i : goal.decreases-loop-i
decreases-loop-i l = l.total - l.i
