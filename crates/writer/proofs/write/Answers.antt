-- `write` meets its contract: a refusal lays nothing, and an accepted call has room for the text.
use Rattle.std.specs.Prelude.{◌≡◌, length}
use Rattle.std.proofs.Common.{sym, ◌∙◌}
use Rattle.network.specs.Network.{network}
use Rattle.writer.specs.Text.{text_of}
use Rattle.writer.specs.Writing.{write_number}
use Rattle.writer.specs.laws.Laying.{laid_first, laid_length}
use Rattle.writer.specs.laws.WriteCases.{write_room, write_refused, write_accepted}
use Rattle.writer.specs.laws.ReadBackLaw.{promised}
use Rattle.writer.proofs.write.Goals as goal

pub returns-then-number-ne0 : goal.returns-then-number-ne0
returns-then-number-ne0 c =
    let a = c.args in
    let n = network a.s in
    let number = c.write_number-number in
    let l = write_refused n a.buffer.now (λ z. c.if-number-ne0.true (number.ensures ∙ z)) in
    record { number = number.ensures; length = sym l.0; buffer = sym l.1; promise = promised n a.buffer.now _ _ _ number.ensures (sym l.0) (sym l.1) }

pub lay_text-length-requires : goal.lay_text-length-requires
lay_text-length-requires c =
    let a = c.args in
    let number = c.write_number-number in
    write_room (network a.s) (length a.buffer.now) (sym number.ensures ∙ c.if-number-ne0.false)

pub shape_of-buffer : goal.shape_of-buffer
shape_of-buffer c =
    let a = c.args in
    laid_length a.buffer.now 0 (text_of (network a.s)) c.lay_text-length.ensures

pub returns : goal.returns
returns c =
    let a = c.args in
    let n = network a.s in
    let number = c.write_number-number in
    let free : write_number n (length a.buffer.now) ≡ 0 = sym number.ensures ∙ c.if-number-ne0.false in
    let text = laid_first a.buffer.now (text_of n) (write_room n (length a.buffer.now) free) c.lay_text-length.ensures in
    let l = write_accepted n a.buffer.now free in
    let size = text.1 ∙ sym l.0 in
    let after = text.0 ∙ sym l.1 in
    record { number = number.ensures; length = size; buffer = after; promise = promised n a.buffer.now _ _ _ number.ensures size after }
