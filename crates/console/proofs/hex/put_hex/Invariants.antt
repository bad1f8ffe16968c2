-- `console::hex::put_hex` meets its contract. The invariant: putting the digits of the bytes that are left gives what putting those of
-- all gave at first. The measure is the number of bytes that are left. Assumes nothing.
use Rattle.std.specs.Prelude.{◌≡◌, ◌-◌, ◌≤◌, length, drop}
use Rattle.printing.specs.Line.{after_text}
use Rattle.console.specs.Answers.{hex_text}
use Rattle.console.proofs.hex.put_hex.Given as goal

abbrev pub invariant-loop-i : goal.invariant-loop-i
invariant-loop-i l =
    (l.i ≤ length l.bytes) × (after_text (l.line, l.to) (hex_text (drop l.i l.bytes)) ≡ after_text (l.initial.line, l.at) (hex_text l.bytes))

abbrev pub decreases-loop-i : goal.decreases-loop-i
decreases-loop-i l = length l.bytes - l.i
