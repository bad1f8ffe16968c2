-- `console::hex::digit_of` meets its contract: the test is the one that the definition makes. Assumes nothing.
use Rattle.std.proofs.Common.{lt-ltb, le-ltb}
use Rattle.console.specs.Answers.{hex_digit}
use Rattle.console.proofs.hex.digit_of.Goals as goal

pub returns-then-half-lt10 : goal.returns-then-half-lt10
unfolding hex_digit
returns-then-half-lt10 c = simp (lt-ltb _ _ c.if-half-lt10.true)

pub returns : goal.returns
unfolding hex_digit
returns c = simp (le-ltb _ _ c.if-half-lt10.false)
