-- `elements::factors::peak_factor` meets its contract: the table's rule, at i or at 230.
-- Assumes nothing.
use Rattle.std.proofs.Common.{ap, sym, ◌∙◌, arith}
use Rattle.std.proofs.Math.Nat.{min-eq_left, min-eq_right}
use Rattle.elements.specs.Factors.{peak_factor}
use Rattle.elements.specs.laws.PeakTable.{peaks_rule}
use Rattle.elements.proofs.factors.peak_factor.Goals as goal

pub returns-then-i-lt230 : goal.returns-then-i-lt230
returns-then-i-lt230 c = peaks_rule c.args.i (omega arith) ∙ ap peak_factor (sym (min-eq_left (omega arith)))

pub returns-else-i-lt230 : goal.returns-else-i-lt230
returns-else-i-lt230 c = peaks_rule 230 (omega arith) ∙ ap peak_factor (sym (min-eq_right (omega arith)))
