-- `closed_after` meets its contract, by whether the study can be closed.
use Rattle.std.proofs.Common.{ap, sym, ◌∙◌}
use Rattle.network.specs.Network.{network}
use Rattle.reader.specs.File.{accepted_as}
use Rattle.reader.proofs.Taking.{close_accepted, close_refused}
use Rattle.reader.proofs.closed_after.Goals as goal

pub returns-then-last-ne0 : goal.returns-then-last-ne0
returns-then-last-ne0 c =
    let a = c.args in
    c.refused.ensures ∙ sym (close_refused a.row (network a.s) _ c.close-last.ensures.number c.if-last-ne0.true)

pub returns : goal.returns
returns c =
    let a = c.args in
    let e = c.close-last.ensures in
    ap accepted_as e.network ∙ sym (close_accepted a.row (network a.s) (sym e.number ∙ c.if-last-ne0.false))
