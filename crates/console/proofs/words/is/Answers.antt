-- `console::words::is` is the test of its definition. Assumes nothing.
use Rattle.std.proofs.Common.{eq-eqb, ne_eqb}
use Rattle.console.proofs.words.is.Goals as goal

pub returns-then-line-word : goal.returns-then-line-word
returns-then-line-word c = rw (eq-eqb _ _ c.if-line-word.true) c.begins.ensures

pub returns : goal.returns
returns c = rw (ne_eqb _ _ c.if-line-word.false)
