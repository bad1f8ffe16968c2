-- `printing::put_number` meets its contract: the digits are those that `io::decimal` gives. Assumes nothing.
use Rattle.printing.proofs.Digits.{decimal_digits}
use Rattle.printing.proofs.put_number.Goals as goal

pub returns : goal.returns
returns c =
    let a = c.args in
    let d = c.decimal-k in
    let e = decimal_digits d.result a.n c.ranges.n.fits d.ensures.len in
    cc
