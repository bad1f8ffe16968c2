-- `console::answer` has the effect of its line, too long or not. Assumes nothing.
use Rattle.std.proofs.Common.{◌∙◌}
use Rattle.network.specs.Network.{network}
use Rattle.console.specs.laws.EffectsLaw.{line_long, line_call}
use Rattle.console.proofs.answer.Goals as goal

pub returns-then-line-gt-LINE_BYTES : goal.returns-then-line-gt-LINE_BYTES
returns-then-line-gt-LINE_BYTES c =
    let a = c.args in
    λ h k. c.failed.ensures.effect _ ∙ line_long (network a.s) a.line.now c.if-line-gt-LINE_BYTES.true

pub returns : goal.returns
returns c =
    let a = c.args in
    λ h k. c.make_call.ensures h k ∙ line_call (network a.s) a.line.now c.if-line-gt-LINE_BYTES.false
