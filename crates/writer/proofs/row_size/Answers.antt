use Rattle.std.specs.Prelude.{List, ℕ, length, get_or}
use Rattle.std.proofs.Common.{ap, arith, drop_of_length-le}
use Rattle.printing.specs.laws.Printed.{decimal_length}
use Rattle.writer.proofs.NextRow.{numbers_text, next_number_length, numbers_most, ended_row_length}
use Rattle.writer.proofs.row_size.Goals as goal

pub overflow_add-size : goal.overflow_add-size
overflow_add-size c = omega (arith, c.number_size.ensures, decimal_length (get_or c.args.numbers.now c.loop-i.i 0))

pub overflow_add-size-in-loop-i : goal.overflow_add-size-in-loop-i
overflow_add-size-in-loop-i c =
    let numbers = c.args.numbers.now in
    let i = c.loop-i.i in
    omega (arith, next_number_length numbers i (omega arith), numbers_most numbers)

pub loop-i-preserved : goal.loop-i-preserved
loop-i-preserved c =
    let numbers = c.args.numbers.now in
    let i = c.loop-i.i in
    (omega arith, omega (arith, next_number_length numbers i (omega arith)))

pub returns : goal.returns
returns c letter =
    let numbers = c.args.numbers.now in
    let none = ap (λ (l : List ℕ). length (numbers_text l)) (drop_of_length-le numbers {i = c.loop-i.i} (omega arith)) in
    omega (arith, ended_row_length letter numbers)
