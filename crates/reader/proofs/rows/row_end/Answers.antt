use Rattle.std.specs.Prelude.{refl}
use Rattle.std.proofs.Common.{sym, ◌∙◌, arith}
use Rattle.reader.specs.Stretches.{at_crlf}
use Rattle.reader.specs.laws.Stretches.{before_none, before_more, before_end}
use Rattle.reader.proofs.rows.row_end.Goals as goal

pub loop-i-init : goal.loop-i-init
loop-i-init c = (omega (arith, c.requires), refl)

pub returns-then-ends_row : goal.returns-then-ends_row
returns-then-ends_row c =
    let l = c.loop-i in
    let e = before_none at_crlf c.args.text.now l.i c.loop-i-test.true (sym c.ends_row.ensures ∙ c.if-ends_row.true) in
    (omega (arith, l.invariant.1), omega arith)

pub loop-i-preserved : goal.loop-i-preserved
loop-i-preserved c =
    let l = c.loop-i in
    let e = before_more at_crlf c.args.text.now l.i c.loop-i-test.true (sym c.ends_row.ensures ∙ c.if-ends_row.false) in
    (omega arith, omega (arith, l.invariant.1))

pub returns : goal.returns
returns c =
    let l = c.loop-i in
    let e = before_end at_crlf c.args.text.now l.i c.loop-i-test.false in
    (omega (arith, l.invariant.1), omega arith)
