-- `console::calls::break_into` meets its contract: the table that `breaking` is lent is filled. Assumes nothing.
use Rattle.std.specs.Prelude.{length, Float}
use Rattle.std.proofs.Common.{ap, ◌∙◌}
use Rattle.std.proofs.lemmas.List.{length-replicate}
use Rattle.network.specs.Network.{network}
use Rattle.network.specs.Tables.{table_after}
use Rattle.breaking.specs.Breaking.{breaking_number}
use Rattle.breaking.specs.Doubles.{part_at, table_of}
use Rattle.console.specs.Answers.{table_filler}
use Rattle.console.proofs.calls.break_into.Goals as goal

pub returns : goal.returns
returns c =
    let a = c.args in
    let n = network a.s in
    let filled = c.fill_table.ensures in
    let as_long = ap length filled ∙ length-replicate {A = Float} _ table_filler in
    let done = c.breaking.ensures in
    record { number = done.number ∙ ap (breaking_number n a.bus a.delay) as_long; figure = done.figure; table = done.table ∙ ap (table_after _ (table_of (part_at n a.bus a.delay) n.sources)) filled }
