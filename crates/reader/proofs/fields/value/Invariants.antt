-- `value` meets its contract. The invariant: the digits so far make the number.
use Rattle.std.specs.Prelude.{◌≡◌, ◌-◌, ◌^◌, ◌≤◌, ◌<◌, length, drop}
use Rattle.reader.specs.File.{digits, digits_value}
use Rattle.reader.proofs.fields.value.Given as goal

abbrev pub invariant-loop-i : goal.invariant-loop-i
invariant-loop-i l = (l.i ≤ length l.field) × (l.n < 2 ^ 32) × (digits l.field ≡ digits (drop l.i l.field)) × (digits_value 0 l.field ≡ digits_value l.n (drop l.i l.field))

abbrev pub decreases-loop-i : goal.decreases-loop-i
decreases-loop-i l = length l.field - l.i
