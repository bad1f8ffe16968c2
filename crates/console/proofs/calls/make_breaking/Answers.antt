-- `console::calls::make_breaking` has its effect, with room and without, and keeps the study. Assumes nothing.
use Rattle.std.specs.Prelude.{◌≡◌, refl, ℕ, ◌-◌, get_or, replicate}
use Rattle.std.proofs.Common.{ap, ◌∙◌, take_at, arith}
use borrow.Rule.Slice.PartMut.{mid_len}
use Rattle.network.specs.Network.{network}
use Rattle.network.specs.Tables.{table_after}
use Rattle.breaking.specs.Breaking.{breaking_number}
use Rattle.breaking.specs.Doubles.{part_at, table_of}
use Rattle.console.specs.Answers.{table_filler}
use Rattle.console.specs.Effects.{exactly, breaking_by}
use Rattle.console.specs.laws.EffectsLaw.{numbers_taken, numbers_wrong, breaking_parts, table_lent, table_refused}
use Rattle.console.proofs.calls.make_breaking.Goals as goal

pub returns-then-count-table : goal.returns-then-count-table
returns-then-count-table c =
    let done = c.break_into-done in
    let a = c.args in
    let n = network a.s in
    let v = c.numbers_of-n.result.values in
    let room = get_or v 2 0 in
    let all : room - 0 ≡ room = omega arith in
    let lent = mid_len 0 room a.table.now c.if-count-table.true ∙ all in
    let first = take_at _ _ room (done.auto.table ∙ lent) in
    let parts = breaking_parts n (get_or v 0 0) (get_or v 1 0) room _ _ _ (done.ensures.number ∙ ap (breaking_number n (get_or v 0 0) (get_or v 1 0)) lent) done.ensures.figure
    (first ∙ done.ensures.table ∙ ap (λ (k : ℕ). table_after done.result.number (table_of (part_at n (get_or v 0 0) (get_or v 1 0)) n.sources) (replicate k table_filler)) lent) in
    record { study = refl; effect = λ text h. parts ∙ table_lent n v (omega arith) ∙ numbers_taken (exactly 3) (breaking_by n) n _ _ c.numbers_of-n.ensures _ c.takes.ensures c.if-takes.true }

pub returns-then-takes : goal.returns-then-takes
returns-then-takes c =
    let n = network c.args.s in
    record { study = c.failed.ensures.study; effect = λ text h. c.failed.ensures.effect _ ∙ table_refused n c.numbers_of-n.result.values (omega arith) ∙ numbers_taken (exactly 3) (breaking_by n) n _ _ c.numbers_of-n.ensures _ c.takes.ensures c.if-takes.true }

pub returns : goal.returns
returns c =
    let n = network c.args.s in
    record { study = c.failed-2.ensures.study; effect = λ text h. c.failed-2.ensures.effect _ ∙ numbers_wrong (exactly 3) (breaking_by n) n _ _ c.numbers_of-n.ensures _ c.takes.ensures c.if-takes.false _ c.reason_of.ensures }
