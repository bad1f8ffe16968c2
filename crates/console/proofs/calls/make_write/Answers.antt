-- `console::calls::make_write` has its effect, with room and without, and keeps the study. Assumes nothing.
use Rattle.std.specs.Prelude.{◌≡◌, refl, ℕ, ◌-◌, get_or, replicate}
use Rattle.std.proofs.Common.{ap, ◌∙◌, take_at, arith}
use borrow.Rule.Slice.PartMut.{mid_len}
use Rattle.network.specs.Network.{network}
use Rattle.writer.specs.Writing.{write_number, write_length, after_write}
use Rattle.console.specs.Answers.{filler}
use Rattle.console.specs.Effects.{exactly, write_by}
use Rattle.console.specs.laws.EffectsLaw.{numbers_taken, numbers_wrong, write_parts, room_lent, room_refused}
use Rattle.console.proofs.calls.make_write.Goals as goal

pub returns-then-count-text : goal.returns-then-count-text
returns-then-count-text c =
    let done = c.write_into-done in
    let a = c.args in
    let n = network a.s in
    let v = c.numbers_of-n.result.values in
    let room = get_or v 0 0 in
    let all : room - 0 ≡ room = omega arith in
    let lent = mid_len 0 room a.text.now c.if-count-text.true ∙ all in
    let first = take_at _ _ room (done.auto.lent ∙ lent) in
    let parts = write_parts n room _ _ _ (done.ensures.number ∙ ap (write_number n) lent) (done.ensures.length ∙ ap (write_length n) lent) (first ∙ done.ensures.lent ∙ ap (λ (k : ℕ). after_write n (replicate k filler)) lent) in
    record { study = refl; effect = λ table h. parts ∙ room_lent n v (omega arith) ∙ numbers_taken (exactly 1) (write_by n) n _ _ c.numbers_of-n.ensures _ c.takes.ensures c.if-takes.true }

pub returns-then-takes : goal.returns-then-takes
returns-then-takes c =
    let n = network c.args.s in
    record { study = c.failed.ensures.study; effect = λ table h. c.failed.ensures.effect _ ∙ room_refused n c.numbers_of-n.result.values (omega arith) ∙ numbers_taken (exactly 1) (write_by n) n _ _ c.numbers_of-n.ensures _ c.takes.ensures c.if-takes.true }

pub returns : goal.returns
returns c =
    let n = network c.args.s in
    record { study = c.failed-2.ensures.study; effect = λ table h. c.failed-2.ensures.effect _ ∙ numbers_wrong (exactly 1) (write_by n) n _ _ c.numbers_of-n.ensures _ c.takes.ensures c.if-takes.false _ c.reason_of.ensures }
