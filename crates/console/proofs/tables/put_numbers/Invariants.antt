-- `console::tables::put_numbers` meets its contract. The invariant: putting the numbers that are left gives what putting all gave at first.
-- The measure is how many are left. Assumes nothing.
use Rattle.std.specs.Prelude.{◌≡◌, ◌-◌, ◌≤◌, length, drop}
use Rattle.printing.specs.Line.{after_text}
use Rattle.console.specs.Answers.{numbers_text}
use Rattle.console.proofs.tables.put_numbers.Given as goal

abbrev pub invariant-loop-i : goal.invariant-loop-i
invariant-loop-i l =
    (l.i ≤ length l.numbers) × (after_text (l.line, l.to) (numbers_text (drop l.i l.numbers)) ≡ after_text (l.initial.line, l.at) (numbers_text l.numbers))

abbrev pub decreases-loop-i : goal.decreases-loop-i
decreases-loop-i l = length l.numbers - l.i
