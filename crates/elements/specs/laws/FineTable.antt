-- Each of the sixteen steps between two entries of the peak table is no lower than 1.02 + 0.98/T, and how far above it: proved once over all
-- of them, by tests that are computed. Assumes nothing.
use Rattle.std.specs.Prelude.{ℕ, ◌+◌, ◌-◌, ◌*◌, ◌/◌, ◌%◌, min, ◌≤◌, ◌<◌, Bool, leb}
use Rattle.std.proofs.Common.{arith, le_refl, mul-le-mul, leb→le, lit≤}
use Rattle.elements.specs.Factors.{t_over, t_under, numerator, denominator, peak_factor, ceiling}
use Rattle.elements.specs.laws.PeakTable.{peak_factor_sized}
use Rattle.elements.specs.laws.EachBelow.{below}
use Rattle.elements.specs.Doubles.{fine_factor}

-- V(p) is above 0 and at most 32,000
pub fine_factor_sized : (p : ℕ) → (0 < fine_factor p) × (fine_factor p ≤ 32000)
unfolding fine_factor
fine_factor_sized p = go (p % 16) (omega arith) (peak_factor (min (p / 16) 230)) (peak_factor (min (p / 16 + 1) 230)) (peak_factor_sized (min (p / 16) 230)) (peak_factor_sized (min (p / 16 + 1) 230))
  where
    go : (s : ℕ) → s < 16 → (a b : ℕ) → (1020 ≤ a) × (a ≤ 2000) → (1020 ≤ b) × (b ≤ 2000) → (0 < (16 - s) * a + s * b) × ((16 - s) * a + s * b ≤ 32000)
    go s h a b k l =
        let x : (16 - s) * a ≤ (16 - s) * 2000 = mul-le-mul (le_refl (16 - s)) k.1 in
        let y : s * b ≤ s * 2000 = mul-le-mul (le_refl s) l.1 in
        let z : (16 - s) * 1020 ≤ (16 - s) * a = mul-le-mul (le_refl (16 - s)) k.0 in
        (omega arith, omega arith)

-- ---- the lower side: V(p)/16,000 is at least 1.02 + 0.98/T(3p/1,600)
high : ℕ → Bool
unfolding fine_factor peak_factor ceiling t_over t_under numerator denominator
high p = leb (160 * (102 * t_over (3 * p) 1600 + 98 * t_under 1600)) (fine_factor p * t_over (3 * p) 1600)

pub fine_high : (p : ℕ) → p < 3681 → 160 * (102 * t_over (3 * p) 1600 + 98 * t_under 1600) ≤ fine_factor p * t_over (3 * p) 1600
unfolding high
fine_high p h = leb→le (160 * (102 * t_over (3 * p) 1600 + 98 * t_under 1600)) (fine_factor p * t_over (3 * p) 1600) (below high 3681 tt p h)

-- ---- the upper side: for p below 3,680, V(p)/16,000 is at most 1.00149·(1.02 + 0.98/T(3·(p + 1.1)/1,600))
abbrev pub spread : ℕ
spread = 100149

narrow : ℕ → Bool
unfolding fine_factor peak_factor ceiling t_over t_under numerator denominator
narrow p = leb (100000 * fine_factor p * t_over (3 * (10 * p + 11)) 16000) (160 * spread * (102 * t_over (3 * (10 * p + 11)) 16000 + 98 * t_under 16000))

pub fine_near : (p : ℕ) → p < 3680
    → 100000 * fine_factor p * t_over (3 * (10 * p + 11)) 16000 ≤ 160 * spread * (102 * t_over (3 * (10 * p + 11)) 16000 + 98 * t_under 16000)
unfolding narrow
fine_near p h =
    leb→le (100000 * fine_factor p * t_over (3 * (10 * p + 11)) 16000) (160 * spread * (102 * t_over (3 * (10 * p + 11)) 16000 + 98 * t_under 16000))
    (below narrow 3680 tt p h)

-- at the table's end 0.98/T is left out
pub fine_near_last : 100000 * fine_factor 3680 ≤ 160 * spread * 102
unfolding fine_factor peak_factor ceiling t_over t_under numerator denominator
fine_near_last = lit≤ tt
