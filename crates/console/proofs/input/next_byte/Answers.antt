-- `console::input::next_byte` meets its contract: a byte that is left, or the first of the block filled anew. Assumes nothing.
use Rattle.std.specs.Prelude.{◌≡◌, refl, false}
use Rattle.std.proofs.Common.{sym, ◌∙◌, true≢false, arith}
use Rattle.console.specs.Lines.{byte_left}
use Rattle.console.specs.laws.Lines.{byte_left_law, past_filled, past_block, step_held}
use Rattle.console.proofs.input.next_byte.Goals as goal
use Rattle.console.proofs.input.next_byte.Goals.{then-at-cursor+else-at-lt-BLOCK, else-at-cursor}

pub returns-then-at-lt-BLOCK : goal.returns-then-at-lt-BLOCK
returns-then-at-lt-BLOCK g c =
    let inside = c.if-at-cursor.true in
    let left = byte_left_law _ inside c.if-at-lt-BLOCK.true in
    record { left = λ e. (step_held _ _ _ (omega (arith, inside)), refl); refilled = λ e. absurd (true≢false (sym left ∙ e)) }

pub returns : goal.returns
returns g c =
    let cursor = c.args.cursor in
    let none : byte_left cursor ≡ false =
    elim c.if-at-cursor.branch [ then-at-cursor+else-at-lt-BLOCK w ↦ past_block cursor w.if-at-lt-BLOCK.false | else-at-cursor w ↦ past_filled cursor w.if-at-cursor.false ] in
    record { left = λ e. absurd (true≢false (sym e ∙ none)); refilled = λ e. c.first_byte.ensures }
