-- `field_end` meets its contract. The invariant: no comma so far.
use Rattle.std.specs.Prelude.{◌≡◌, ◌+◌, ◌-◌, ◌≤◌, length, drop}
use Rattle.reader.specs.Stretches.{at_comma, before}
use Rattle.reader.proofs.fields.field_end.Given as goal

abbrev pub invariant-loop-i : goal.invariant-loop-i
invariant-loop-i l = (l.i ≤ length l.row) × (l.i + before at_comma (drop l.i l.row) ≡ l.at + before at_comma (drop l.at l.row))

abbrev pub decreases-loop-i : goal.decreases-loop-i
decreases-loop-i l = length l.row - l.i
