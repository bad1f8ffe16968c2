-- `console::calls::make_query` has its effect, with one number or without, and keeps the study. Assumes nothing.
use Rattle.std.specs.Prelude.{refl}
use Rattle.std.proofs.Common.{◌∙◌, ap}
use Rattle.network.specs.Network.{network}
use Rattle.network.specs.declared.query.Found.{Found}
use Rattle.console.specs.Answers.{found_line}
use Rattle.console.specs.Effects.{exactly, Effect, query_by}
use Rattle.console.specs.laws.EffectsLaw.{numbers_taken, numbers_wrong, found_given_law}
use Rattle.console.proofs.calls.make_query.Goals as goal

pub returns-then-takes : goal.returns-then-takes
returns-then-takes c =
    let n = network c.args.s in
    let found = c.query-found.ensures in
    let same = found_given_law _ n _ found.number found.amperes found.verdict in
    let line = ap {B = Effect} (λ (f : Found). record { answer = found_line f; network = n }) same in
    record { study = refl; effect = λ text. line ∙ numbers_taken (exactly 1) (query_by n) n _ _ c.numbers_of-n.ensures _ c.takes.ensures c.if-takes.true }

pub returns : goal.returns
returns c =
    let n = network c.args.s in
    record { study = c.failed.ensures.study; effect = λ text. c.failed.ensures.effect text ∙ numbers_wrong (exactly 1) (query_by n) n _ _ c.numbers_of-n.ensures _ c.takes.ensures c.if-takes.false _ c.reason_of.ensures }
