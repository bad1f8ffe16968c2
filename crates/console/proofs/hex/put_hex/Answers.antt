use Rattle.std.specs.Prelude.{◌≡◌, refl, List, ℕ, suc, ◌+◌, ◌<◌, length, drop, get_or}
use Rattle.std.proofs.Common.{sym, ◌∙◌, arith, add-one, drop_of_length-le, drop-cons}
use Rattle.printing.specs.Line.{Line, after_text}
use Rattle.printing.specs.laws.Line.{after_both}
use Rattle.console.specs.Answers.{hex_byte, hex_text}
use Rattle.console.proofs.hex.put_hex.Goals as goal

-- the digits of one byte more
next-digits : (l m : Line) (bytes : List ℕ) (i : ℕ) → i < length bytes → after_text l (hex_byte (get_or bytes i 0)) ≡ m
    → after_text m (hex_text (drop (i + 1) bytes)) ≡ after_text l (hex_text (drop i bytes))
unfolding hex_text
next-digits l m bytes i h e =
    rw (add-one i, drop-cons bytes i 0 h)
    (sym (after_both l m (hex_byte (get_or bytes i 0)) (hex_text (drop (suc i) bytes)) e refl))

pub loop-i-init : goal.loop-i-init
loop-i-init c = (omega arith, refl)

pub loop-i-preserved : goal.loop-i-preserved
loop-i-preserved c =
    let l = c.loop-i in
    let bytes = c.args.bytes.now in
    let h = c.loop-i-test.true in
    (omega arith, next-digits (l.line, l.to) (c.put_byte-to.new.line, c.put_byte-to.result) bytes l.i h c.put_byte-to.ensures ∙ l.invariant.1)

pub returns : goal.returns
unfolding after_text hex_text
returns c =
    let l = c.loop-i in
    let bytes = c.args.bytes.now in
    sym l.invariant.1 ∙ rw (drop_of_length-le bytes c.loop-i-test.false)
