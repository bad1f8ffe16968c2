-- `console::input::first_byte` gives the step at place 0 of the block. Assumes nothing.
use Rattle.std.proofs.Common.{rules}
use Rattle.console.specs.Lines.{step_at}
use Rattle.console.proofs.input.first_byte.Goals as goal

pub returns : goal.returns
unfolding step_at
returns c = search rules
