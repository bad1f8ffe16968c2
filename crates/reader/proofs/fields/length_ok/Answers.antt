-- `length_ok` meets its contract, by the length of the field.
use Rattle.std.specs.Prelude.{◌≤◌, length}
use Rattle.std.proofs.Common.{arith, le-leb, ne_eqb}
use Rattle.std.proofs.lemmas.Bool.{lt-leb}
use Rattle.reader.specs.File.{length_ok}
use Rattle.reader.proofs.fields.length_ok.Goals as goal

pub returns-then-n-eq0 : goal.returns-then-n-eq0
unfolding length_ok
returns-then-n-eq0 c = rw c.if-n-eq0.true

pub returns-then-n-eq1 : goal.returns-then-n-eq1
unfolding length_ok
returns-then-n-eq1 c = rw c.if-n-eq1.true

pub returns-then-n-gt10 : goal.returns-then-n-gt10
unfolding length_ok
returns-then-n-gt10 c =
    let n = length c.args.field.now in
    let p : 1 ≤ n = omega arith in
    rw (le-leb 1 n p, lt-leb n 10 c.if-n-gt10.true)

pub returns : goal.returns
unfolding length_ok
returns c =
    let n = length c.args.field.now in
    let p : 1 ≤ n = omega (arith, c.if-n-eq0.false) in
    rw (le-leb 1 n p, le-leb n 10 c.if-n-gt10.false, ne_eqb n 1 c.if-n-eq1.false)
