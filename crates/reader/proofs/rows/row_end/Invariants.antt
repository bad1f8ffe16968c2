-- `row_end` meets its contract. The invariant: no CRLF so far.
use Rattle.std.specs.Prelude.{◌≡◌, ◌+◌, ◌-◌, ◌≤◌, length, drop}
use Rattle.reader.specs.Stretches.{at_crlf, before}
use Rattle.reader.proofs.rows.row_end.Given as goal

abbrev pub invariant-loop-i : goal.invariant-loop-i
invariant-loop-i l = (l.i ≤ length l.text) × (l.i + before at_crlf (drop l.i l.text) ≡ l.at + before at_crlf (drop l.at l.text))

abbrev pub decreases-loop-i : goal.decreases-loop-i
decreases-loop-i l = length l.text - l.i
