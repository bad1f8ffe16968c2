-- `console::answers::put_error` meets its contract: the three texts follow one another, and there is room for them. Assumes nothing.
use Rattle.printing.specs.laws.Line.{after_both, first_is_text}
use Rattle.console.specs.Answers.{error_line}
use Rattle.console.specs.laws.Answers.{error_fits}
use Rattle.console.proofs.answers.put_error.Goals as goal

pub returns : goal.returns
unfolding error_line
returns c =
    let two = after_both _ _ _ _ c.put-word.ensures c.put-at.ensures in
    first_is_text _ _ c.requires.line_len (error_fits c.args.reason.now c.requires.reason_len_bound) (after_both _ _ _ _ two c.put.ensures)
