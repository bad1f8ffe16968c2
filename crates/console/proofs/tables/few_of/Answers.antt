-- `console::tables::few_of` meets its contract. Assumes nothing.
use Rattle.std.specs.Prelude.{List, ◌-◌, ◌*◌, length, take, drop, Float}
use Rattle.std.proofs.Common.{ap, ◌∙◌, arith, length-drop, take_all}
use Rattle.console.specs.Answers.{few, few_of}
use Rattle.console.proofs.tables.few_of.Goals as goal

pub returns : goal.returns
unfolding few_of
returns c =
    let a = c.args in
    let table = a.table.now in
    let n = length table in
    c.first_numbers.ensures ∙ ap (λ (l : List Float). take few l) (take_all (n - a.k * few) (drop (a.k * few) table) (omega (arith, length-drop (a.k * few) table)))
