-- `console::calls::make_withdraw` has its effect, with one number or without. Assumes nothing.
use Rattle.std.proofs.Common.{◌∙◌, ap₂}
use Rattle.network.specs.Network.{network}
use Rattle.console.specs.Effects.{exactly, ground, withdraw_by}
use Rattle.console.specs.laws.EffectsLaw.{numbers_taken, numbers_wrong}
use Rattle.console.proofs.calls.make_withdraw.Goals as goal

pub returns-then-takes : goal.returns-then-takes
returns-then-takes c =
    let n = network c.args.s in
    let done = c.withdraw.ensures in
    λ text. c.answered.ensures text ∙ ap₂ ground done.number done.network ∙ numbers_taken (exactly 1) (withdraw_by n) n _ _ c.numbers_of-n.ensures _ c.takes.ensures c.if-takes.true

pub returns : goal.returns
returns c =
    let n = network c.args.s in
    λ text. c.failed.ensures.effect text ∙ numbers_wrong (exactly 1) (withdraw_by n) n _ _ c.numbers_of-n.ensures _ c.takes.ensures c.if-takes.false _ c.reason_of.ensures
