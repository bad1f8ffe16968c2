-- THE SIX WHOLE NUMBERS OF AMPERES ARE DETERMINED: no amperes are whole by two tables of them. Assumes nothing.
use Rattle.std.specs.Prelude.{ℕ, ◌^◌, ◌≤◌, ◌≡◌, Float}
use Rattle.std.proofs.Common.{sym, ◌∙◌, ap, arith, ltb-false, le-ltb}
use Rattle.std.specs.Float.Ieee.{lt}
use Rattle.enclosure.specs.Exact.{of_nat}
use Rattle.enclosure.specs.laws.WholeF64.{less_whole}
use Rattle.network.specs.declared.query.Amperes.{Amperes}
use Rattle.network.specs.Demand.{Figures, WholeAmperes}

-- whole numbers up to 2⁵³ are told apart as f64
not_less : (x : Float) (m n : ℕ) → m ≤ 2 ^ 53 → n ≤ 2 ^ 53 → x ≡ of_nat m → x ≡ of_nat n → n ≤ m
not_less x m n h k p q = ltb-false m n (sym (less_whole m n h k) ∙ ap (λ (y : Float). lt y (of_nat n)) (sym p ∙ q) ∙ less_whole n n k k ∙ le-ltb n n (omega arith))

pub whole_one : (x : Float) (m n : ℕ) → m ≤ 2 ^ 53 → n ≤ 2 ^ 53 → x ≡ of_nat m → x ≡ of_nat n → m ≡ n
whole_one x m n h k p q = omega (arith, not_less x m n h k p q, not_less x n m k h q p)

pub figures_one : (a : Amperes) (f g : Figures) → WholeAmperes a f → WholeAmperes a g → f ≡ g
figures_one a f g v w =
    rw (
      whole_one _ f.lower g.lower (omega (arith, v.lowers_small)) (omega (arith, w.lowers_small)) v.lower w.lower,
      whole_one _ f.upper g.upper (omega (arith, v.uppers_small)) (omega (arith, w.uppers_small)) v.upper w.upper,
      whole_one _ f.converters_lower g.converters_lower (omega (arith, v.lowers_small)) (omega (arith, w.lowers_small)) v.converters_lower w.converters_lower,
      whole_one _ f.converters_upper g.converters_upper (omega (arith, v.uppers_small)) (omega (arith, w.uppers_small)) v.converters_upper w.converters_upper,
      whole_one _ f.peak g.peak (omega (arith, v.peaks_small)) (omega (arith, w.peaks_small)) v.peak w.peak,
      whole_one _ f.converters_peak g.converters_peak (omega (arith, v.peaks_small)) (omega (arith, w.peaks_small)) v.converters_peak w.converters_peak,
    )
