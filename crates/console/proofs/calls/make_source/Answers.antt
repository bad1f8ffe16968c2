-- `console::calls::make_source` has its effect, with so many numbers or without. Assumes nothing.
use Rattle.std.specs.Prelude.{Bool, ◌&&◌}
use Rattle.std.proofs.Common.{◌∙◌, ap, ap₂}
use Rattle.network.specs.Network.{network}
use Rattle.network.specs.Grounds.{source_number, after_source}
use Rattle.network.specs.declared.study.Source.{Source}
use Rattle.reader.specs.File.{source_count_ok}
use Rattle.console.specs.Effects.{ground, source_by}
use Rattle.console.specs.laws.EffectsLaw.{numbers_taken, numbers_wrong}
use Rattle.console.proofs.calls.make_source.Goals as goal

pub returns-then-n-source_count_ok : goal.returns-then-n-source_count_ok
returns-then-n-source_count_ok c =
    let so-many = ap (λ (b : Bool). c.numbers_of-n.result.ok && b) c.source_count_ok.ensures in
    let n = network c.args.s in
    let done = c.add_source.ensures in
    let of-record = ap (λ (r : Source). ground (source_number n r) (after_source n r)) c.source_of.ensures in
    λ text. c.answered.ensures text ∙ ap₂ ground done.number done.network ∙ of-record ∙ numbers_taken source_count_ok (source_by n) n _ _ c.numbers_of-n.ensures _ so-many c.if-n-source_count_ok.true

pub returns : goal.returns
returns c =
    let so-many = ap (λ (b : Bool). c.numbers_of-n.result.ok && b) c.source_count_ok.ensures in
    let n = network c.args.s in
    λ text. c.failed.ensures.effect text ∙ numbers_wrong source_count_ok (source_by n) n _ _ c.numbers_of-n.ensures _ so-many c.if-n-source_count_ok.false _ c.reason_of.ensures
