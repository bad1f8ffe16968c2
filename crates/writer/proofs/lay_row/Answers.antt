use Rattle.std.specs.Prelude.{refl, List, [], ◌∷◌, ◌++◌, ℕ, ◌+◌, ◌<◌, length, get_or, set}
use Rattle.std.proofs.Common.{sym, ap, ◌∙◌, arith, drop_of_length-le, length-set}
use Rattle.reader.specs.File.{cr, lf, comma}
use Rattle.printing.specs.Printed.{decimal}
use Rattle.writer.specs.laws.Laying.{laid, laid_byte, laid_two, laid_end, laid_length}
use Rattle.writer.proofs.NextRow.{numbers_text, next_number_length, next_number_laid, ended_row_length}
use Rattle.writer.proofs.lay_row.Goals as goal

pub loop-i-init : goal.loop-i-init
loop-i-init c =
    let a = c.args in
    let same = length-set a.buffer.now a.at a.letter in
    (omega arith, omega arith, refl, omega (arith, ended_row_length a.letter a.numbers.now), refl)

pub lay_number-to-requires : goal.lay_number-to-requires
lay_number-to-requires c =
    let l = c.loop-i in
    let numbers = c.args.numbers.now in
    omega (arith, next_number_length numbers l.i (omega arith), length-set l.buffer l.to comma)

pub loop-i-preserved : goal.loop-i-preserved
loop-i-preserved c =
    let a = c.args in
    let l = c.loop-i in
    let number = c.lay_number-to in
    let numbers = a.numbers.now in
    let digits = decimal (get_or numbers l.i 0) in
    let h : l.i < length numbers = omega arith in
    let long = next_number_length numbers l.i h in
    let same = laid_length (set l.buffer l.to comma) (l.to + 1) digits number.ensures ∙ length-set l.buffer l.to comma in
    let end = laid_end (set l.buffer l.to comma) (l.to + 1) digits number.ensures in (
      omega arith,
      omega arith,
      same ∙ l.invariant.2,
      omega arith,
      next_number_laid l.buffer number.new.buffer l.to number.result numbers l.i (cr ∷ lf ∷ []) h number.ensures ∙ l.invariant.4,
    )

pub bounds-buffer-to-3 : goal.bounds-buffer-to-3
bounds-buffer-to-3 c = omega (arith, length-set c.loop-i.buffer c.loop-i.to cr)

pub shape_of-buffer : goal.shape_of-buffer
shape_of-buffer c =
    let l = c.loop-i in
    let a = c.args in
    simp length-set (l.invariant.2 ∙ length-set a.buffer.now a.at a.letter)

pub returns : goal.returns
returns c =
    let l = c.loop-i in
    let a = c.args in
    let numbers = a.numbers.now in
    let crlf = cr ∷ lf ∷ [] in
    let none = drop_of_length-le numbers {i = l.i} (omega arith) in
    laid_byte a.buffer.now a.at a.letter (numbers_text numbers ++ crlf)
    ∙ sym l.invariant.4
    ∙ ap (λ (vs : List ℕ). laid (l.buffer, l.to) (numbers_text vs ++ crlf)) none
    ∙ laid_two l.buffer l.to cr lf
