use Rattle.std.specs.Prelude.{refl}
use Rattle.std.proofs.Common.{sym, ◌∙◌, arith}
use Rattle.console.specs.laws.Lines.{begins_short, begins_next, begins_other, begins_all}
use Rattle.console.proofs.words.begins.Goals as goal

pub returns-then-line-word : goal.returns-then-line-word
returns-then-line-word c = let a = c.args in sym (begins_short a.word.now a.line.now (omega arith))

pub loop-i-init : goal.loop-i-init
loop-i-init c = (omega arith, (omega arith, refl))

pub bounds-line-i : goal.bounds-line-i
bounds-line-i c = omega arith

pub bounds-word-i : goal.bounds-word-i
bounds-word-i c = omega arith

pub returns-then-line-i : goal.returns-then-line-i
returns-then-line-i c =
    let l = c.loop-i in
    let a = c.args in
    sym (l.invariant.1.1 ∙ begins_other a.word.now a.line.now l.i 0 (omega arith) (omega arith) c.if-line-i.true)

pub overflow_add-i : goal.overflow_add-i
overflow_add-i c = omega arith

pub loop-i-smaller : goal.loop-i-smaller
loop-i-smaller c = omega arith

pub loop-i-preserved : goal.loop-i-preserved
loop-i-preserved c =
    let l = c.loop-i in
    let a = c.args in
    (omega arith, (omega arith, l.invariant.1.1 ∙ begins_next a.word.now a.line.now l.i 0 (omega arith) (omega arith) c.if-line-i.false))

pub returns : goal.returns
returns c =
    let l = c.loop-i in
    let a = c.args in
    sym (l.invariant.1.1 ∙ begins_all a.word.now a.line.now l.i (omega arith))
