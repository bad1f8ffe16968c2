-- `enclosure::roots::is_root_below` meets its contract: what it says yes to is the root.
-- Assumes nothing.
use Rattle.std.proofs.Common.{◌+◌, sym, true≢false, arith, le→leb}
use lib.Ieee.{in_float}
use Rattle.enclosure.specs.laws.RootGuess.{root_guessed}
use Rattle.enclosure.proofs.roots.is_root_below.Goals as goal

pub int_to_float-a : goal.int_to_float-a
unfolding in_float
int_to_float-a c = le→leb c.args.n 9007199254740992 (omega arith)

pub int_to_float-b : goal.int_to_float-b
unfolding in_float
int_to_float-b c = le→leb (c.args.n + 1) 9007199254740992 (omega arith)

pub returns-then-b-m : goal.returns-then-b-m
returns-then-b-m c h = absurd (true≢false (sym h))

pub returns-then-a-m : goal.returns-then-a-m
returns-then-a-m c h = root_guessed c.args.m c.args.n c.if-n-lt9007199254740992.true c.if-a-m.true c.if-b-m.false

pub returns-else-a-m : goal.returns-else-a-m
returns-else-a-m c h = absurd (true≢false (sym h))

pub returns-else-n-lt9007199254740992 : goal.returns-else-n-lt9007199254740992
returns-else-n-lt9007199254740992 c h = absurd (true≢false (sym h))
