use Rattle.std.specs.Prelude.{◌≡◌, refl, ◌+◌, ◌/◌, ◌%◌, length}
use Rattle.std.proofs.Common.{sym, ap, ◌∙◌, arith, mod-lt, length-set}
use Rattle.std.proofs.Math.Seq.{sets}
use Rattle.printing.specs.Printed.{decimal}
use Rattle.writer.specs.laws.Decimals.{decimal_some, decimal_one, decimal_last, decimal_longer}
use Rattle.writer.specs.laws.Laying.{laid, sets_last}
use Rattle.writer.proofs.lay_number.Goals as goal

pub overflow_add-end : goal.overflow_add-end
overflow_add-end c = omega arith

pub overflow_sub-to : goal.overflow_sub-to
overflow_sub-to c = omega (arith, decimal_some c.args.n)

pub loop-rest-init : goal.loop-rest-init
loop-rest-init c = (omega arith, refl, omega (arith, decimal_some c.args.n), omega (arith, decimal_some c.args.n), refl)

pub overflow_cast-buffer : goal.overflow_cast-buffer
overflow_cast-buffer c = omega (arith, mod-lt c.loop-rest.rest {m = 10} (omega arith))

pub overflow_add-buffer : goal.overflow_add-buffer
overflow_add-buffer c = omega (arith, mod-lt c.loop-rest.rest {m = 10} (omega arith))

pub overflow_sub-to-in-loop-rest : goal.overflow_sub-to-in-loop-rest
overflow_sub-to-in-loop-rest c = let l = c.loop-rest in omega (arith, decimal_longer l.rest (omega arith) (omega arith), decimal_some (l.rest / 10))

pub loop-rest-preserved : goal.loop-rest-preserved
loop-rest-preserved c =
    let a = c.args in
    let l = c.loop-rest in
    let longer = decimal_longer l.rest (omega arith) (omega arith) in
    let some = decimal_some (l.rest / 10) in
    let digit = 48 + l.rest % 10 in
    let place : a.at + length (decimal (l.rest / 10)) ≡ l.to = omega arith in
    let last = rw place at (sets_last l.buffer a.at (decimal (l.rest / 10)) digit) in (
      omega arith,
      length-set l.buffer l.to digit ∙ l.invariant.1,
      omega arith,
      omega arith,
      sym last ∙ ap (sets l.buffer a.at) (sym (decimal_last l.rest (omega arith) (omega arith))) ∙ l.invariant.4,
    )

pub returns : goal.returns
unfolding laid
returns c =
    let a = c.args in
    let l = c.loop-rest in
    let one = decimal_one l.rest (omega arith) in
    let here : l.to ≡ a.at = omega (arith, ap length one) in
    let same = sym l.invariant.4 ∙ ap (sets l.buffer a.at) one in
    rw (same, here, c.number_size.ensures)
