-- `console::calls::make_close` has its effect. Assumes nothing.
use Rattle.std.proofs.Common.{◌∙◌, ap₂}
use Rattle.console.specs.Effects.{ground}
use Rattle.console.proofs.calls.make_close.Goals as goal

pub returns : goal.returns
returns c = λ text. c.answered.ensures text ∙ ap₂ ground c.close.ensures.number c.close.ensures.network
