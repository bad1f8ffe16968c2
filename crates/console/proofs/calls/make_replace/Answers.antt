-- `console::calls::make_replace` has its effect, with so many numbers or without. Assumes nothing.
use Rattle.std.specs.Prelude.{Bool, ◌&&◌, get_or}
use Rattle.std.proofs.Common.{◌∙◌, ap, ap₂}
use Rattle.network.specs.Network.{network}
use Rattle.network.specs.Grounds.{replace_number, after_replace}
use Rattle.network.specs.declared.study.Source.{Source}
use Rattle.console.specs.Effects.{ground, replace_count_ok, replace_by}
use Rattle.console.specs.laws.EffectsLaw.{numbers_taken, numbers_wrong}
use Rattle.console.proofs.calls.make_replace.Goals as goal

pub returns-then-n-replace_count_ok : goal.returns-then-n-replace_count_ok
returns-then-n-replace_count_ok c =
    let so-many = ap (λ (b : Bool). c.numbers_of-n.result.ok && b) c.replace_count_ok.ensures in
    let n = network c.args.s in
    let place = get_or c.numbers_of-n.result.values 0 0 in
    let done = c.replace.ensures in
    let of-record = ap (λ (r : Source). ground (replace_number n place r) (after_replace n place r)) c.source_behind.ensures in
    λ text. c.answered.ensures text ∙ ap₂ ground done.number done.network ∙ of-record ∙ numbers_taken replace_count_ok (replace_by n) n _ _ c.numbers_of-n.ensures _ so-many c.if-n-replace_count_ok.true

pub returns : goal.returns
returns c =
    let so-many = ap (λ (b : Bool). c.numbers_of-n.result.ok && b) c.replace_count_ok.ensures in
    let n = network c.args.s in
    λ text. c.failed.ensures.effect text ∙ numbers_wrong replace_count_ok (replace_by n) n _ _ c.numbers_of-n.ensures _ so-many c.if-n-replace_count_ok.false _ c.reason_of.ensures
