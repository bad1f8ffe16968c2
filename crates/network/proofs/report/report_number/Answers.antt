-- `report_number` meets its contract, by its three cases.
use Rattle.std.proofs.Common.{◌∙◌, arith}
use Rattle.std.proofs.lemmas.Bool.{not-true, not-false}
use Rattle.network.specs.laws.Report.{report_open, report_short, report_accepted}
use Rattle.network.proofs.report.report_number.Goals as goal

pub overflow_mul-needed : goal.overflow_mul-needed
overflow_mul-needed c = omega (arith, c.requires)

pub returns-then-not-closed : goal.returns-then-not-closed
returns-then-not-closed c = λ n e b. report_open n _ (e ∙ not-true _ c.if-not-closed.true-raw)

pub returns-then-room-needed : goal.returns-then-room-needed
returns-then-room-needed c = λ n e b. report_short n _ (e ∙ not-false _ c.if-not-closed.false-raw) (omega (arith, b, c.if-room-needed.true))

pub returns : goal.returns
returns c = λ n e b. report_accepted n _ (e ∙ not-false _ c.if-not-closed.false-raw) (omega (arith, b, c.if-room-needed.false))
