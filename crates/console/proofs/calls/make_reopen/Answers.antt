-- `console::calls::make_reopen` has its effect. Assumes nothing.
use Rattle.std.proofs.Common.{◌∙◌, ap₂}
use Rattle.console.specs.Effects.{ground}
use Rattle.console.proofs.calls.make_reopen.Goals as goal

pub returns : goal.returns
returns c = λ text. c.answered.ensures text ∙ ap₂ ground c.reopen.ensures.number c.reopen.ensures.network
