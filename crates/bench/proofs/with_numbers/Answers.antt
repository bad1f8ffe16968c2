use Rattle.std.specs.Prelude.{◌≡◌, refl, List, ℕ, ◌+◌, ◌<◌, length, drop, get_or, Float}
use Rattle.std.specs.Float.{nan, binary64}
use Rattle.std.proofs.Common.{◌∙◌, arith, add-one, drop_of_length-le, drop-cons}
use Rattle.std.specs.Float.Ieee.{add}
use Rattle.bench.specs.Reports.{numbers_added}
use Rattle.bench.proofs.with_numbers.Goals as goal

-- one number more
next_number : (total : Float) (numbers : List Float) (i : ℕ) → i < length numbers
    → numbers_added (add binary64 total (get_or numbers i nan)) (drop (i + 1) numbers) ≡ numbers_added total (drop i numbers)
unfolding numbers_added
next_number total numbers i h = rw (add-one i, drop-cons numbers i nan h)

pub loop-i-init : goal.loop-i-init
loop-i-init c = (omega arith, refl)

pub loop-i-preserved : goal.loop-i-preserved
loop-i-preserved c =
    let l = c.loop-i in
    let table = c.args.table.now in
    (omega arith, next_number l.total table l.i c.loop-i-test.true ∙ l.invariant.1)

pub returns : goal.returns
unfolding numbers_added
returns c =
    let l = c.loop-i in
    let table = c.args.table.now in
    rw (drop_of_length-le table c.loop-i-test.false) at l.invariant.1
