-- `console::calls::report_into` meets its contract: the table that `report` is lent is filled. Assumes nothing.
use Rattle.std.specs.Prelude.{length, Float}
use Rattle.std.proofs.Common.{ap, ◌∙◌}
use Rattle.std.proofs.lemmas.List.{length-replicate}
use Rattle.network.specs.Network.{network}
use Rattle.network.specs.Report.{report_number, reported}
use Rattle.network.specs.Tables.{table_after}
use Rattle.console.specs.Answers.{table_filler}
use Rattle.console.proofs.calls.report_into.Goals as goal

pub returns : goal.returns
returns c =
    let a = c.args in
    let n = network a.s in
    let filled = c.fill_table.ensures in
    let as_long = ap length filled ∙ length-replicate {A = Float} _ table_filler in
    let done = c.report.ensures in
    record { number = done.number ∙ ap (report_number n) as_long; table = done.table ∙ ap (table_after _ (reported n)) filled }
