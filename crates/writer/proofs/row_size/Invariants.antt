-- `row_size` meets its contract. The invariant: the size so far and what the numbers that are left take make the whole. The measure is
-- how many numbers are left.
use Rattle.std.specs.Prelude.{◌≡◌, ◌+◌, ◌-◌, ◌≤◌, length, drop}
use Rattle.writer.proofs.NextRow.{numbers_text}
use Rattle.writer.proofs.row_size.Given as goal

abbrev pub invariant-loop-i : goal.invariant-loop-i
invariant-loop-i l = (l.i ≤ length l.numbers) × (l.size + length (numbers_text (drop l.i l.numbers)) ≡ 3 + length (numbers_text l.numbers))

abbrev pub decreases-loop-i : goal.decreases-loop-i
decreases-loop-i l = length l.numbers - l.i
