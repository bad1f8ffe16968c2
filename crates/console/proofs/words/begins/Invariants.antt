-- `console::words::begins` is the test of its definition. The invariant: what is left of the word decides. Assumes nothing.
use Rattle.std.specs.Prelude.{◌≡◌, ◌≤◌, ◌-◌, length, drop}
use Rattle.console.specs.Lines.{begins_with}
use Rattle.console.proofs.words.begins.Given as goal

abbrev pub invariant-loop-i : goal.invariant-loop-i
invariant-loop-i l = (length l.word ≤ length l.line) × ((l.i ≤ length l.word) × (begins_with l.word l.line ≡ begins_with (drop l.i l.word) (drop l.i l.line)))

abbrev pub decreases-loop-i : goal.decreases-loop-i
decreases-loop-i l = length l.word - l.i
