-- Document 01, "What a bus gets": demand 3 as one definition over a network, a bus and six amperes; and the verdict.
use Rattle.std.specs.Prelude.{ℕ, ◌+◌, ◌*◌, ◌^◌, ◌≤◌, ◌<◌, ◌-◌, ◌≡◌, cond, ltb, leb}
use Rattle.enclosure.specs.Exact.{of_nat, norm, Point}
use Rattle.elements.specs.Factors.{factor_c}
use Rattle.elements.specs.Peak.{PeakBound, peak_over, peak_under}
use Rattle.network.specs.declared.query.Amperes.{Amperes}
use Rattle.network.specs.Network.{Network, bus_at}
use Rattle.network.specs.Grid.{impedance_at, converters_at}
use Rattle.network.specs.declared.query.Verdict.{Verdict}
use Rattle.network.specs.declared.query.Verdict.TheVariants.{Within, Over, Close}

-- six whole numbers: lower and upper of the machines' part, the same of the converters' part, machines' peak, converters' peak
pub record Figures : Type 0 where
  pub lower : ℕ
  pub upper : ℕ
  pub converters_lower : ℕ
  pub converters_upper : ℕ
  pub peak : ℕ
  pub converters_peak : ℕ

-- "Six f64 amperes, each whole and below 2⁵³, none negative"; "L and U are the sums of the lower and of the upper bounds, P of the
-- peaks, each below 2⁵³ as well"
pub record WholeAmperes (a : Amperes) (f : Figures) : Type 0 where
  pub lower : a.lower.0 ≡ of_nat f.lower
  pub upper : a.upper.0 ≡ of_nat f.upper
  pub converters_lower : a.converters_lower.0 ≡ of_nat f.converters_lower
  pub converters_upper : a.converters_upper.0 ≡ of_nat f.converters_upper
  pub peak : a.peak.0 ≡ of_nat f.peak
  pub converters_peak : a.converters_peak.0 ≡ of_nat f.converters_peak
  pub lowers_small : f.lower + f.converters_lower < 2 ^ 53
  pub uppers_small : f.upper + f.converters_upper < 2 ^ 53
  pub peaks_small : f.peak + f.converters_peak < 2 ^ 53

-- "c and Un of b": c·Un, in hundredths of a volt
abbrev pub driving : Network → ℕ → ℕ
driving n b = factor_c n.tolerance (bus_at n.buses b).volts * (bus_at n.buses b).volts

-- "a bound n is at most I exactly when 3·n²·(R² + X²) ≤ (c·Un)², and at least I exactly when ≥ stands there": Z is (R + jX), over one
-- denominator, and v is c·Un in hundredths
abbrev pub NotAbove : ℕ → Point → ℕ → Type 0
NotAbove v Z i = 30000 * (i * i) * norm Z.re Z.im ≤ v * v * (Z.den * Z.den)

abbrev pub NotBelow : ℕ → Point → ℕ → Type 0
NotBelow v Z i = v * v * (Z.den * Z.den) ≤ 30000 * (i * i) * norm Z.re Z.im

-- at most 2 A plus a thousandth of the upper apart
abbrev pub Narrow : ℕ → ℕ → Type 0
Narrow lower upper = 1000 * upper ≤ 1000 * (lower + 2) + upper

-- the machines' two bounds and peak against the impedance Z
pub record MachinesHold (v : ℕ) (Z : Point) (lower upper peak : ℕ) : Type 0 where
  -- Z is a fraction, and "every machine has X above 0": so R/X is one too, and no comparison holds because there is nothing to compare
  pub proper : 0 < Z.den
  pub reactive : 0 < Z.im
  pub below : NotAbove v Z lower
  pub above : NotBelow v Z upper
  pub narrow : Narrow lower upper
  -- "The exact peaks are √2·I·(1.02 + 0.98/T(3R/X)), ..", with I² = (c·Un)²/(3·(R² + X²))
  pub crest : PeakBound peak (peak_over (v * v * (Z.den * Z.den)) Z.re Z.im) (peak_under (30000 * norm Z.re Z.im) Z.re Z.im)

-- the converters' two bounds and peak against their exact sum C, a fraction on the real axis: ".. and √2 times the converters' part"
pub record ConvertersHold (C : Point) (lower upper peak : ℕ) : Type 0 where
  pub proper : 0 < C.den
  pub real : C.im ≡ 0
  pub below : lower * C.den ≤ C.re
  pub above : C.re ≤ upper * C.den
  pub narrow : Narrow lower upper
  pub crest : PeakBound peak (2 * (C.re * C.re)) (C.den * C.den)

-- DEMAND 3, but for the sameness of networks alike in all but their converters (Promise)
pub record Demand (n : Network) (b : ℕ) (a : Amperes) : Type 0 where
  pub figures : Figures
  pub whole : WholeAmperes a figures
  pub machines : MachinesHold (driving n b) (impedance_at n b) figures.lower figures.upper figures.peak
  pub converters : ConvertersHold (converters_at n b) figures.converters_lower figures.converters_upper figures.converters_peak

-- six whole numbers as amperes
abbrev pub amperes_of : Figures → Amperes
amperes_of f = record {
  lower = record { 0 = of_nat f.lower };
  upper = record { 0 = of_nat f.upper };
  converters_lower = record { 0 = of_nat f.converters_lower };
  converters_upper = record { 0 = of_nat f.converters_upper };
  peak = record { 0 = of_nat f.peak };
  converters_peak = record { 0 = of_nat f.converters_peak };
}

-- "Over, by P − rated peak, if P exceeds it; otherwise over, by L − rating, if L exceeds it; within, with margin rating − U, if
-- U ≤ rating; otherwise close.": of six whole numbers and two ratings, with whatever stands for the three cases
abbrev pub judged : {X : Type 0} → (ℕ → X) → (ℕ → X) → X → Figures → ℕ → ℕ → X
judged over within close f rating peakRating =
    let L = f.lower + f.converters_lower in
    let U = f.upper + f.converters_upper in
    let P = f.peak + f.converters_peak in
    cond (ltb peakRating P) (over (P - peakRating))
    (cond (ltb rating L) (over (L - rating))
    (cond (leb U rating) (within (rating - U))
    close))

-- THE VERDICT, its amperes as f64; and at bus b of a network, by the two ratings there
abbrev pub verdict_on : Figures → ℕ → ℕ → Verdict
verdict_on = judged (λ excess. Over (of_nat excess)) (λ margin. Within (of_nat margin)) Close

abbrev pub verdict_at : Network → ℕ → Figures → Verdict
verdict_at n b f = verdict_on f (bus_at n.buses b).rating (bus_at n.buses b).peak_rating

-- each verdict's letter in the file: "W, O or C (within, over, close)"
abbrev pub letter_of : Verdict → ℕ
letter_of (Within x) = 87
letter_of (Over x) = 79
letter_of Close = 67
