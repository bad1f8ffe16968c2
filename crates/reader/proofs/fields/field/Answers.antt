-- `field` meets its contract: the bytes from the place to the end of the field are its stretch.
use Rattle.std.specs.Prelude.{◌≡◌, ◌-◌, drop}
use Rattle.std.proofs.Common.{arith}
use Rattle.reader.specs.Stretches.{at_comma, before}
use Rattle.reader.proofs.fields.field.Goals as goal

pub returns : goal.returns
returns c =
    let a = c.args in
    let e : c.field_end-end.result - a.at ≡ before at_comma (drop a.at a.row.now) = omega (arith, c.field_end-end.ensures.0) in
    rw e
