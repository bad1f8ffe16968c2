use Rattle.std.specs.Prelude.{◌≡◌, refl, List, ℕ, suc, ◌+◌, ◌<◌, length, drop, get_or, Float}
use Rattle.std.specs.Float.{nan}
use Rattle.std.proofs.Common.{sym, ◌∙◌, arith, add-one, drop_of_length-le, drop-cons}
use Rattle.printing.specs.Printed.{whole_of, next_text}
use Rattle.printing.specs.Line.{Line, after_text}
use Rattle.printing.specs.laws.Line.{after_both}
use Rattle.console.specs.Answers.{numbers_text}
use Rattle.console.proofs.tables.put_numbers.Goals as goal

-- one number more
next_number : (l m : Line) (numbers : List Float) (i : ℕ) → i < length numbers → after_text l (next_text (whole_of (get_or numbers i nan))) ≡ m
    → after_text m (numbers_text (drop (i + 1) numbers)) ≡ after_text l (numbers_text (drop i numbers))
unfolding numbers_text
next_number l m numbers i h e =
    rw (add-one i, drop-cons numbers i nan h)
    (sym (after_both l m (next_text (whole_of (get_or numbers i nan))) (numbers_text (drop (suc i) numbers)) e refl))

pub loop-i-init : goal.loop-i-init
loop-i-init c = (omega arith, refl)

pub loop-i-preserved : goal.loop-i-preserved
loop-i-preserved c =
    let l = c.loop-i in
    let numbers = c.args.numbers.now in
    let h = c.loop-i-test.true in
    (omega arith, next_number (l.line, l.to) (c.put_whole-to.new.line, c.put_whole-to.result) numbers l.i h c.put_whole-to.ensures ∙ l.invariant.1)

pub returns : goal.returns
unfolding after_text numbers_text
returns c =
    let l = c.loop-i in
    let numbers = c.args.numbers.now in
    sym l.invariant.1 ∙ rw (drop_of_length-le numbers c.loop-i-test.false)
