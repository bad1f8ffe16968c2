-- `console::hex::digit` is the digit of its definition, range by range. Assumes nothing.
use Rattle.std.proofs.Common.{arith}
use Rattle.console.specs.laws.Lines.{digit_number, digit_capital, digit_small, none_below, none_before_capitals, none_before_small, none_above}
use Rattle.console.proofs.hex.digit.Goals as goal

pub returns-then-x-lt48 : goal.returns-then-x-lt48
returns-then-x-lt48 c = none_below c.args.x (omega arith)

pub returns-then-x-le57 : goal.returns-then-x-le57
returns-then-x-le57 c = digit_number c.args.x (omega arith) (omega arith)

pub returns-then-x-lt65 : goal.returns-then-x-lt65
returns-then-x-lt65 c = none_before_capitals c.args.x (omega arith) (omega arith)

pub returns-then-x-le70 : goal.returns-then-x-le70
returns-then-x-le70 c = digit_capital c.args.x (omega arith) (omega arith)

pub returns-then-x-lt97 : goal.returns-then-x-lt97
returns-then-x-lt97 c = none_before_small c.args.x (omega arith) (omega arith)

pub returns-then-x-le102 : goal.returns-then-x-le102
returns-then-x-le102 c = digit_small c.args.x (omega arith) (omega arith)

pub returns : goal.returns
returns c = none_above c.args.x (omega arith)
