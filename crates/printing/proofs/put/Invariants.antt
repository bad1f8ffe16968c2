-- `printing::put` meets its contract. The invariant: putting the bytes that are left gives what putting all of them gave at first.
-- The measure is the number of bytes that are left. Assumes nothing.
use Rattle.std.proofs.Common.{◌≡◌, ◌-◌, ◌≤◌, length, drop}
use Rattle.printing.specs.Line.{after_text}
use Rattle.printing.proofs.put.Given as goal

abbrev pub invariant-loop-i : goal.invariant-loop-i
invariant-loop-i l = (l.i ≤ length l.bytes) × (after_text (l.line, l.to) (drop l.i l.bytes) ≡ after_text (l.initial.line, l.at) l.bytes)

abbrev pub decreases-loop-i : goal.decreases-loop-i
decreases-loop-i l = length l.bytes - l.i
