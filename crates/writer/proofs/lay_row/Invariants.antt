-- `lay_row` meets its contract. The invariant: laying the numbers that are left, and CRLF, gives what laying all of them gives after
-- the letter; and there is room for them. The measure is how many numbers are left.
use Rattle.std.specs.Prelude.{◌≡◌, [], ◌∷◌, ◌++◌, ◌+◌, ◌-◌, ◌^◌, ◌≤◌, ◌<◌, length, drop}
use Rattle.reader.specs.File.{cr, lf}
use Rattle.writer.specs.laws.Laying.{laid}
use Rattle.writer.proofs.NextRow.{numbers_text}
use Rattle.writer.proofs.lay_row.Given as goal

abbrev pub invariant-loop-i : goal.invariant-loop-i
invariant-loop-i l =
    (l.i ≤ length l.numbers) × (length l.initial.buffer < 2 ^ 64) × (length l.buffer ≡ length l.initial.buffer) × (l.to + length (numbers_text (drop l.i l.numbers)) + 2 ≤ length l.buffer)
    × (laid (l.buffer, l.to) (numbers_text (drop l.i l.numbers) ++ (cr ∷ lf ∷ [])) ≡ laid (l.initial.buffer, l.initial.to) (numbers_text l.numbers ++ (cr ∷ lf ∷ [])))

abbrev pub decreases-loop-i : goal.decreases-loop-i
decreases-loop-i l = length l.numbers - l.i
