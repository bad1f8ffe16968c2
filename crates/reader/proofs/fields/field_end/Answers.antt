use Rattle.std.specs.Prelude.{refl}
use Rattle.std.proofs.Common.{◌∙◌, arith, eq-eqb, ne_eqb}
use Rattle.reader.specs.Stretches.{at_comma}
use Rattle.reader.specs.laws.Stretches.{before_none, before_more, before_end}
use Rattle.reader.proofs.Bytes.{comma_here}
use Rattle.reader.proofs.fields.field_end.Goals as goal

pub loop-i-init : goal.loop-i-init
loop-i-init c = (omega arith, refl)

pub returns-then-row-i-eq44 : goal.returns-then-row-i-eq44
returns-then-row-i-eq44 c =
    let l = c.loop-i in
    let row = c.args.row.now in
    let h = c.loop-i-test.true in
    let e = before_none at_comma row l.i h (comma_here row l.i h ∙ eq-eqb _ _ c.if-row-i-eq44.true) in
    (omega (arith, l.invariant.1), omega arith)

pub loop-i-preserved : goal.loop-i-preserved
loop-i-preserved c =
    let l = c.loop-i in
    let row = c.args.row.now in
    let h = c.loop-i-test.true in
    let e = before_more at_comma row l.i h (comma_here row l.i h ∙ ne_eqb _ _ c.if-row-i-eq44.false) in
    (omega arith, omega (arith, l.invariant.1))

pub returns : goal.returns
returns c =
    let l = c.loop-i in
    let e = before_end at_comma c.args.row.now l.i c.loop-i-test.false in
    (omega (arith, l.invariant.1), omega arith)
