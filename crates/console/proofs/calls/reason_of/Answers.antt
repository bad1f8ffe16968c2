-- `console::calls::reason_of` is the choice of its definition. Assumes nothing.

use Rattle.console.proofs.calls.reason_of.Goals as goal

pub returns-then-n : goal.returns-then-n
returns-then-n c = rw c.if-n.true

pub returns : goal.returns
returns c = rw c.if-n.false
