-- `console::calls::fill` meets its contract. The invariant: the bytes that were passed are the filler. The measure is the number of bytes
-- that are left. Assumes nothing.
use Rattle.std.specs.Prelude.{◌≡◌, ◌-◌, ◌≤◌, length, take, replicate}
use Rattle.console.specs.Answers.{filler}
use Rattle.console.proofs.calls.fill.Given as goal

abbrev pub invariant-loop-i : goal.invariant-loop-i
invariant-loop-i l = (length l.lent ≡ length l.initial.lent) × (l.i ≤ length l.lent) × (take l.i l.lent ≡ replicate l.i filler)

abbrev pub decreases-loop-i : goal.decreases-loop-i
decreases-loop-i l = length l.lent - l.i
