-- `console::tables::put_report` meets its contract: there is room for the number. Assumes nothing.
use Rattle.printing.specs.laws.Line.{first_is_text}
use Rattle.console.specs.laws.Answers.{decimal_fits}
use Rattle.console.proofs.tables.put_report.Goals as goal

pub returns : goal.returns
returns c = first_is_text _ _ c.requires (decimal_fits _) c.put_number.ensures
