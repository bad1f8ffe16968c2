-- Whole amperes below 2 ^ 53, as `query` gives them, are printed as themselves.
use Rattle.std.specs.Prelude.{◌≡◌, ℕ, ◌+◌, ◌-◌, ◌*◌, ◌/◌, ◌^◌, ◌<◌, ◌≤◌, true, false, nat_le, nat_lt, refl, Float}
use Rattle.std.proofs.Common.{sym, ap, ◌∙◌, true≢false, mul-one, mul-div_cancel, mul-lt-mul_of_pos_right, arith, lt-ltb}
use Rattle.std.specs.Float.{fin, nan, inf}
use Rattle.std.specs.Float.Ieee.{lt, to_unsigned, up, down}
use Rattle.std.specs.Float.Ieee.Fits.{down_pos}
use Rattle.std.specs.Float.Ieee.Exact.{HasValue}
use Rattle.enclosure.specs.Exact.{of_nat}
use Rattle.enclosure.specs.laws.Units.{exact}
use Rattle.network.specs.declared.query.Amperes.{Amperes}
use Rattle.network.specs.laws.Tests.{by_test}
use Rattle.network.specs.Demand as demand
use Rattle.network.specs.Demand.{Figures, verdict_on}
use Rattle.printing.specs.Printed.{whole_of, amount_of, amperes_text}
use Rattle.printing.specs.laws.Printed.{amount_on, figures_text}

value_whole : (x : Float) (n : ℕ) → n < 2 ^ 64 → HasValue x false n 1 → whole_of x ≡ n
unfolding lt to_unsigned
value_whole nan n h v = elim v [ ]
value_whole (inf _) n h v = elim v [ ]
value_whole (fin true m e) n h v = absurd (true≢false v.0)
value_whole (fin false m e) n h v =
    let size : m * up e ≡ n * down e = sym (mul-one (m * up e)) ∙ v.1 in
    let above = lt-ltb 0 (1 * 1 * down e + m * up e * 1) (omega (arith, down_pos e)) in
    let below = lt-ltb (m * up e * 1) (1 * 2 ^ 64 * down e) (omega (arith, mul-lt-mul_of_pos_right h (down_pos e))) in
    let part : m * up e / down e ≡ n = ap (λ (z : ℕ). z / down e) size ∙ mul-div_cancel n (down_pos e) in
    rw (above, below, part) (omega arith)

pub whole_printed : (n : ℕ) → n ≤ 2 ^ 53 → whole_of (of_nat n) ≡ n
whole_printed n h = value_whole (of_nat n) n (omega arith) (exact n h)

-- six amperes that are whole numbers
pub amperes_printed : (a : Amperes) (f : Figures) → demand.WholeAmperes a f → amperes_text a ≡ figures_text f
unfolding amperes_text figures_text
amperes_printed a f w =
    rw (
      w.lower,
      w.upper,
      w.converters_lower,
      w.converters_upper,
      w.peak,
      w.converters_peak,
      whole_printed f.lower (omega (arith, w.lowers_small)),
      whole_printed f.upper (omega (arith, w.uppers_small)),
      whole_printed f.converters_lower (omega (arith, w.lowers_small)),
      whole_printed f.converters_upper (omega (arith, w.uppers_small)),
      whole_printed f.peak (omega (arith, w.peaks_small)),
      whole_printed f.converters_peak (omega (arith, w.peaks_small)),
    )

-- and a verdict's amperes
pub amount_printed : (a : Amperes) (f : Figures) → demand.WholeAmperes a f → (rating peakRating : ℕ) → rating ≤ 2 ^ 53
    → whole_of (amount_of (verdict_on f rating peakRating)) ≡ amount_on f rating peakRating
unfolding lt to_unsigned
amount_printed a f w rating peakRating h =
    let L = f.lower + f.converters_lower in
    let U = f.upper + f.converters_upper in
    let P = f.peak + f.converters_peak in
    by_test (nat_lt peakRating P)
    (λ t. rw t (whole_printed (P - peakRating) (omega (arith, w.peaks_small))))
    (λ t. rw t
    (by_test (nat_lt rating L)
    (λ u. rw u (whole_printed (L - rating) (omega (arith, w.lowers_small))))
    (λ u. rw u
    (by_test (nat_le U rating)
    (λ v. rw v (whole_printed (rating - U) (omega arith)))
    (λ v. rw v refl)))))
