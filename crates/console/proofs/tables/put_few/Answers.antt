-- `console::tables::put_few` meets its contract: the numbers are a few of the table, and there is room for them. Assumes nothing.
use Rattle.printing.specs.laws.Line.{first_is_text}
use Rattle.console.specs.laws.Answers.{few_fit}
use Rattle.console.proofs.tables.put_few.Goals as goal

pub returns : goal.returns
returns c =
    first_is_text _ _ c.requires.line_len (few_fit c.args.k c.args.table.now) (rw c.few_of.ensures at c.put_numbers.ensures)
