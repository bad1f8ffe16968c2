-- `console::tables::fill_table` meets its contract. The invariant: the numbers that were passed are 7. The measure is the number of
-- numbers that are left. Assumes nothing.
use Rattle.std.specs.Prelude.{◌≡◌, ◌-◌, ◌≤◌, length, take, replicate}
use Rattle.console.specs.Answers.{table_filler}
use Rattle.console.proofs.tables.fill_table.Given as goal

abbrev pub invariant-loop-i : goal.invariant-loop-i
invariant-loop-i l = (length l.table ≡ length l.initial.table) × (l.i ≤ length l.table) × (take l.i l.table ≡ replicate l.i table_filler)

abbrev pub decreases-loop-i : goal.decreases-loop-i
decreases-loop-i l = length l.table - l.i
