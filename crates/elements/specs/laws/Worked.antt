-- Document 01, "Worked points": the starred points of the factors, as one table, ux by document 02, order 6; the generator unit; a feeder's
-- current and peak.
-- Assumes nothing.
use Rattle.std.specs.Prelude.{ℕ, ◌+◌, ◌*◌, ◌≤◌, ◌<◌, ◌≡◌, refl}
use Rattle.std.proofs.Common.{arith, lit<, lit≤}
use Rattle.enclosure.specs.Exact.{Point, sum, times, root_of, root_up}
use Rattle.elements.specs.Factors.{factor_c, sine_of, ux_of, split_of, t_over, t_under, numerator, denominator, peak_factor, ceiling}
use Rattle.elements.specs.Doubles.{fine_factor}
use Rattle.elements.specs.Peak.{PeakBound, NearMachinePeak, crest, peak_over, peak_under}
use Rattle.elements.specs.laws.Peak.{near_bound, peak_near}
use Rattle.elements.specs.Impedance.{transformer, split, feeder, generator}

pub record Starred : Type 0 where
  -- "Sine: 100→0, 90→4,359, 80→6,000, 70→7,142."
  pub sine_100 : sine_of 100 ≡ 0
  pub sine_90 : sine_of 90 ≡ 4359
  pub sine_80 : sine_of 80 ≡ 6000
  pub sine_70 : sine_of 70 ≡ 7142
  -- "so 6,000 and 1,000 give 5,916,079", where document 01 had 5,916
  pub ux_6000_1000 : ux_of 6000 1000 ≡ 5916079
  -- "f(0) = 1,000,000, f(10) = 995,037, f(42) = 921,982."
  pub f_0 : split_of 0 ≡ 1000000
  pub f_10 : split_of 10 ≡ 995037
  pub f_42 : split_of 42 ≡ 921982
  -- "K: 0→2,000, 1→1,972, 10→1,747, 42→1,298, 229→1,022, 230→1,021."
  pub k_0 : peak_factor 0 ≡ 2000
  pub k_1 : peak_factor 1 ≡ 1972
  pub k_10 : peak_factor 10 ≡ 1747
  pub k_42 : peak_factor 42 ≡ 1298
  pub k_229 : peak_factor 229 ≡ 1022
  pub k_230 : peak_factor 230 ≡ 1021

pub starred : Starred
unfolding sine_of ux_of split_of root_of root_up peak_factor ceiling t_over t_under numerator denominator
starred = record {
  sine_100 = refl;
  sine_90 = refl;
  sine_80 = refl;
  sine_70 = refl;
  ux_6000_1000 = refl;
  f_0 = refl;
  f_10 = refl;
  f_42 = refl;
  k_0 = refl;
  k_1 = refl;
  k_10 = refl;
  k_42 = refl;
  k_229 = refl;
  k_230 = refl;
}

-- "Document 000's generator unit (690 V, 950 kVA, xd 18 %, tolerance 10): near 15.63 + j101.18 Ω at 20 kV": R/X 0.15, power
-- factor 0.9; its transformer 20,000/690 V, 1,000 kVA, uk 6 %, uR 1 %
abbrev pair : Point
pair = sum (times (20000 * 20000) (690 * 690) (generator 10 690 690 950 18000 15 90)) (transformer 10 690 20000 1000 6000 1000)

pub pair_near : (1563 * pair.den ≤ 100 * pair.re) × (100 * pair.re < 1564 * pair.den) × (10118 * pair.den ≤ 100 * pair.im) × (100 * pair.im < 10119 * pair.den)
unfolding generator transformer factor_c sine_of ux_of root_of root_up
pair_near = (lit≤ tt, lit< tt, lit≤ tt, lit< tt)

-- "Feeder 500,000 kVA, ρ 10, 20,000 V, alone: I between 14,433 and 14,434; peak 35,641 to 36,356." I² is P/Q, (c·Un)²/(3·(R² + X²))
abbrev alone : Point
alone = feeder 6 20000 500000 10

abbrev P : ℕ
P = 110 * 20000 * (110 * 20000) * (alone.den * alone.den)

abbrev Q : ℕ
Q = 30000 * (alone.re * alone.re + alone.im * alone.im)

abbrev Peak : ℕ → Type 0
Peak n = PeakBound n (peak_over P alone.re alone.im) (peak_under Q alone.re alone.im)

pub alone_current : (14433 * 14433 * Q ≤ P) × (P ≤ 14434 * 14434 * Q)
unfolding feeder split factor_c split_of root_of
alone_current = (lit≤ tt, lit≤ tt)

-- both ends are peaks, and their neighbours outside are none
pub alone_peaks : Peak 35641 × (Peak 35640 → ⊥) × Peak 36356 × (Peak 36357 → ⊥)
unfolding feeder split factor_c split_of root_of crest peak_over peak_under t_over t_under numerator denominator
alone_peaks = (
  record { no_lower = lit≤ tt; near = λ m e. let q : m ≡ 35637 = omega arith in rw q (lit≤ tt) },
  λ b. not_le b.no_lower (lit< tt),
  record { no_lower = lit≤ tt; near = λ m e. let q : m ≡ 36352 = omega arith in rw q (lit≤ tt) },
  λ b. not_le (b.near 36353 refl) (lit< tt),
)
  where
    not_le : {a b : ℕ} → a ≤ b → b < a → ⊥
    not_le h l = omega arith

-- the same of the nearer peaks, 0.15 % and 1 A
abbrev Near : ℕ → Type 0
Near n = NearMachinePeak n (peak_over P alone.re alone.im) (peak_under Q alone.re alone.im)

pub alone_near : Near 35641 × (Near 35640 → ⊥) × Near 35694 × (Near 35695 → ⊥)
unfolding feeder split factor_c split_of root_of crest peak_over peak_under t_over t_under numerator denominator
alone_near = (
  record { no_lower = lit≤ tt; near = λ m e. let q : m ≡ 35640 = omega arith in rw q (lit≤ tt) },
  λ b. not_le b.no_lower (lit< tt),
  record { no_lower = lit≤ tt; near = λ m e. let q : m ≡ 35693 = omega arith in rw q (lit≤ tt) },
  λ b. not_le (b.near 35694 refl) (lit< tt),
)
  where
    not_le : {a b : ℕ} → a ≤ b → b < a → ⊥
    not_le h l = omega arith

-- the law gives one of them: V(160)/16,000·√2·I, rounded up
pub alone_peak : Peak 35661
unfolding feeder split factor_c split_of root_of fine_factor peak_factor ceiling t_over t_under numerator denominator
alone_peak =
    near_bound 10015 10000 35661 _ _ (lit< tt) (lit≤ tt)
    (peak_near P Q alone.re alone.im 160 35661 (record { below = lit≤ tt; cap = lit≤ tt; above = λ l. lit< tt })
    (lit≤ tt) (λ m e. let q : m ≡ 35660 = omega arith in rw q (lit≤ tt)))
