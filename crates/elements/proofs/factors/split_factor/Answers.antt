-- `elements::factors::split_factor` meets its contract: the table's rule, at ρ or at 200.
-- Assumes nothing.
use Rattle.std.proofs.Common.{ap, sym, ◌∙◌, arith}
use Rattle.std.proofs.Math.Nat.{min-eq_left, min-eq_right}
use Rattle.elements.specs.Factors.{split_of}
use Rattle.elements.specs.laws.SplitTable.{splits_rule}
use Rattle.elements.proofs.factors.split_factor.Goals as goal

pub returns-then-rho-lt200 : goal.returns-then-rho-lt200
returns-then-rho-lt200 c = splits_rule c.args.rho (omega arith) ∙ ap split_of (sym (min-eq_left (omega arith)))

pub returns-else-rho-lt200 : goal.returns-else-rho-lt200
returns-else-rho-lt200 c = splits_rule 200 (omega arith) ∙ ap split_of (sym (min-eq_right (omega arith)))
