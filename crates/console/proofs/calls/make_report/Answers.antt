-- `console::calls::make_report` has its effect, with room and without, and keeps the study. Assumes nothing.
use Rattle.std.specs.Prelude.{◌≡◌, refl, ℕ, ◌-◌, length, get_or, replicate}
use Rattle.std.proofs.Common.{ap, ◌∙◌, take_at, arith}
use borrow.Rule.Slice.PartMut.{mid_len}
use Rattle.network.specs.Network.{network}
use Rattle.network.specs.Report.{report_number, reported}
use Rattle.network.specs.Tables.{table_after}
use Rattle.console.specs.Answers.{table_filler}
use Rattle.console.specs.Effects.{exactly, report_by}
use Rattle.console.specs.laws.EffectsLaw.{numbers_taken, numbers_wrong, report_within, report_over, report_parts, report_lent, report_refused}
use Rattle.console.proofs.calls.make_report.Goals as goal

pub returns-then-count-table : goal.returns-then-count-table
returns-then-count-table c =
    let done = c.report_into-number in
    let a = c.args in
    let n = network a.s in
    let v = c.numbers_of-n.result.values in
    let room = get_or v 0 0 in
    let all : room - 0 ≡ room = omega arith in
    let within = report_within room (length a.table.now) c.if-count-table.true in
    let lent = mid_len 0 room a.table.now within.1 ∙ all in
    let first = take_at _ _ room (done.auto.table ∙ lent) in
    let parts = report_parts n room _ _ (done.ensures.number ∙ ap (report_number n) lent)
    (first ∙ done.ensures.table ∙ ap (λ (k : ℕ). table_after done.result (reported n) (replicate k table_filler)) lent) in
    record { study = refl; effect = λ text h. parts ∙ report_lent n v within.0 ∙ numbers_taken (exactly 1) (report_by n) n _ _ c.numbers_of-n.ensures _ c.takes.ensures c.if-takes.true }

pub returns-then-takes : goal.returns-then-takes
returns-then-takes c =
    let n = network c.args.s in
    record { study = c.failed.ensures.study; effect = λ text h. c.failed.ensures.effect _ ∙ report_refused n c.numbers_of-n.result.values (report_over _ (length c.args.table.now) c.if-count-table.false (omega (arith, h))) ∙ numbers_taken (exactly 1) (report_by n) n _ _ c.numbers_of-n.ensures _ c.takes.ensures c.if-takes.true }

pub returns : goal.returns
returns c =
    let n = network c.args.s in
    record { study = c.failed-2.ensures.study; effect = λ text h. c.failed-2.ensures.effect _ ∙ numbers_wrong (exactly 1) (report_by n) n _ _ c.numbers_of-n.ensures _ c.takes.ensures c.if-takes.false _ c.reason_of.ensures }
