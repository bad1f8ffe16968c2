-- `lay_buses` meets its contract. The invariant: laying the rows that are left gives what laying all of them gives, and there is
-- room for them. The measure is how many rows are left.
use Rattle.std.specs.Prelude.{◌≡◌, ◌+◌, ◌-◌, ◌≤◌, length, take}
use Rattle.reader.specs.File.{letter_b}
use Rattle.writer.specs.Text.{bus_numbers, record_rows}
use Rattle.writer.specs.laws.Laying.{laid}
use Rattle.writer.proofs.NextRow.{rows_from}
use Rattle.writer.proofs.lay_buses.Given as goal

abbrev pub invariant-loop-i : goal.invariant-loop-i
invariant-loop-i l =
    (l.i ≤ l.total) × (length l.buffer ≡ length l.initial.buffer) × (l.to + length (rows_from letter_b bus_numbers l.buses l.total l.i) ≤ length l.initial.buffer)
    × (laid (l.buffer, l.to) (rows_from letter_b bus_numbers l.buses l.total l.i) ≡ laid (l.initial.buffer, l.at) (record_rows letter_b bus_numbers (take l.total l.buses)))

abbrev pub decreases-loop-i : goal.decreases-loop-i
decreases-loop-i l = l.total - l.i
