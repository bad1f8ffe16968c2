-- `console::input::without_return` meets its contract, by its cases: a CR at the end, another byte there, a line that fills its room, none.
-- Assumes nothing.
use Rattle.std.proofs.Common.{lt-ltb, le-ltb, eq-eqb, ne_eqb}
use Rattle.console.specs.Lines.{without_return}
use Rattle.console.proofs.input.without_return.Goals as goal

pub returns-then-line-length-eq13 : goal.returns-then-line-length-eq13
unfolding without_return
returns-then-line-length-eq13 c = rw (lt-ltb _ _ c.if-length-gt0.true, lt-ltb _ _ c.if-length-lt-LINE_ROOM.true, eq-eqb _ _ c.if-line-length-eq13.true)

pub returns-else-line-length-eq13 : goal.returns-else-line-length-eq13
unfolding without_return
returns-else-line-length-eq13 c = rw (lt-ltb _ _ c.if-length-gt0.true, lt-ltb _ _ c.if-length-lt-LINE_ROOM.true, ne_eqb _ _ c.if-line-length-eq13.false)

pub returns-else-length-lt-LINE_ROOM : goal.returns-else-length-lt-LINE_ROOM
unfolding without_return
returns-else-length-lt-LINE_ROOM c = rw (lt-ltb _ _ c.if-length-gt0.true, le-ltb _ _ c.if-length-lt-LINE_ROOM.false)

pub returns-else-length-gt0 : goal.returns-else-length-gt0
unfolding without_return
returns-else-length-gt0 c = rw (le-ltb _ _ c.if-length-gt0.false)
