-- Document 01, "What a bus gets": the exact peak √2·I·(1.02 + 0.98/T(3R/X)) by its square, and what makes a whole number a peak; then,
-- beside document 01, what makes it a nearer one.
use Rattle.std.specs.Prelude.{ℕ, ◌+◌, ◌*◌, ◌≤◌, ◌≡◌}
use Rattle.elements.specs.Factors.{t_over, t_under}

-- ---- the exact peak. R and X stand over one denominator, which drops out: 1.02 + 0.98/T(3R/X) is crest R X / (100·tOver (3R) X)
unfoldable pub crest : ℕ → ℕ → ℕ
crest R X = 102 * t_over (3 * R) X + 98 * t_under X

-- "The exact peaks are √2·I·(1.02 + 0.98/T(3R/X)), ..": with I² = P/Q, E² is peakOver P R X / peakUnder Q R X
unfoldable pub peak_over : ℕ → ℕ → ℕ → ℕ
peak_over P R X = 2 * P * (crest R X * crest R X)

unfoldable pub peak_under : ℕ → ℕ → ℕ → ℕ
peak_under Q R X = Q * (100 * t_over (3 * R) X * (100 * t_over (3 * R) X))

-- "The square of an exact peak E is a fraction; a peak n is no lower when n² ≥ E², and not too far above when n ≤ 4 or
-- (n − 4)² ≤ 1.02²·E²." E² is e/v. (The converters' exact peak, √2·A/D, has e = 2·A² and v = D²)
pub record PeakBound (n e v : ℕ) : Type 0 where
  pub no_lower : e ≤ n * n * v
  pub near : (m : ℕ) → m + 4 ≡ n → 10000 * (m * m) * v ≤ 10404 * e

-- n is no lower than E and at most over/under times E plus 1 A, by squares, E² being e/v: n² ≥ E², and n = 0 or
-- (n − 1)² ≤ (over/under)²·E²
pub record NearPeak (over under n e v : ℕ) : Type 0 where
  pub no_lower : e ≤ n * n * v
  pub near : (m : ℕ) → m + 1 ≡ n → under * under * (m * m) * v ≤ over * over * e

-- the machines' peak: 0.15 % and 1 A
abbrev pub NearMachinePeak : ℕ → ℕ → ℕ → Type 0
NearMachinePeak = NearPeak 10015 10000

-- the converters' peak: a hundred-millionth and 1 A
abbrev pub NearConverterPeak : ℕ → ℕ → ℕ → Type 0
NearConverterPeak = NearPeak 100000001 100000000
