-- `console::words::after` meets its contract: the part goes up to the end, and past the end there is nothing. Assumes nothing.
use Rattle.std.specs.Prelude.{◌-◌, length, drop}
use Rattle.std.proofs.Common.{sym, ◌∙◌, arith, length-drop, drop_of_length-le, take_all}
use Rattle.std.proofs.Math.Seq.{drop-length}
use Rattle.console.proofs.words.after.Goals as goal

pub returns-then-at-end : goal.returns-then-at-end
returns-then-at-end c =
    let a = c.args in
    let n = length a.line.now in
    take_all (n - a.at) (drop a.at a.line.now) (omega (arith, length-drop a.at a.line.now))

pub returns : goal.returns
returns c =
    let a = c.args in
    let n = length a.line.now in
    take_all (n - n) (drop n a.line.now) (omega (arith, length-drop n a.line.now)) ∙ drop-length a.line.now
    ∙ sym (drop_of_length-le a.line.now {i = a.at} (omega arith))
