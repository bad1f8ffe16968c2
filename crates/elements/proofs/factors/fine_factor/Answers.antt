-- `elements::factors::fine_factor` computes its definition. Assumes nothing.
use Rattle.std.specs.Prelude.{ℕ, ◌-◌, ◌*◌, ◌%◌, ◌≤◌, ◌≡◌}
use Rattle.std.proofs.Common.{arith, mul-le-mul, lt_of_le_of_lt, lit<}
use Rattle.elements.specs.Factors.{peak_factor}
use Rattle.elements.specs.laws.PeakTable.{peak_factor_sized}
use Rattle.elements.specs.Doubles.{fine_factor}
use Rattle.elements.proofs.factors.fine_factor.Goals as goal

-- a part of an entry
few : (s i k : ℕ) → s ≤ 16 → k ≡ peak_factor i → s * k ≤ 32000
few s i k h e = rw e (mul-le-mul h (peak_factor_sized i).1)

pub overflow_mul-result : goal.overflow_mul-result
overflow_mul-result c = record { fits = lt_of_le_of_lt (few (16 - c.args.p % 16) _ _ (omega arith) c.peak_factor.ensures) (lit< tt) }

pub overflow_mul-result-2 : goal.overflow_mul-result-2
overflow_mul-result-2 c = record { fits = lt_of_le_of_lt (few (c.args.p % 16) _ _ (omega arith) c.peak_factor-2.ensures) (lit< tt) }

pub overflow_add-result : goal.overflow_add-result
overflow_add-result c =
    let a = few (16 - c.args.p % 16) _ _ (omega arith) c.peak_factor.ensures in
    let b = few (c.args.p % 16) _ _ (omega arith) c.peak_factor-2.ensures in
    record { fits = omega arith }

pub returns : goal.returns
unfolding fine_factor
returns c = rw (c.peak_factor.ensures, c.peak_factor-2.ensures)
