-- `write_number` meets its contract: 22 is tried first, then 30.
use Rattle.std.proofs.Common.{sym, ◌∙◌, arith, ltb-true, ltb-false}
use Rattle.network.specs.Network.{network}
use Rattle.writer.specs.laws.WriteCases.{open_number, short_number, no_ground}
use Rattle.writer.proofs.write_number.Goals as goal

pub returns-then-open : goal.returns-then-open
returns-then-open c =
    let a = c.args in
    let closed = c.is_closed-open in
    sym (open_number (network a.s) a.room (sym closed.ensures ∙ c.if-open.true))

pub returns-then-short : goal.returns-then-short
returns-then-short c =
    let a = c.args in
    let closed = c.is_closed-open in
    let size = c.text_size in
    sym (short_number (network a.s) a.room (sym closed.ensures ∙ c.if-open.false) (omega (arith, size.ensures, ltb-true, ltb-false)))

pub returns : goal.returns
returns c =
    let a = c.args in
    let closed = c.is_closed-open in
    let size = c.text_size in
    sym (no_ground (network a.s) a.room (sym closed.ensures ∙ c.if-open.false) (omega (arith, size.ensures, ltb-true, ltb-false)))
