-- Document 02, order 3: fractions that are not negative, and sums of magnitudes that are known by their squares, compared "through
-- fractions". No root is defined.
use Rattle.std.specs.Prelude.{ℕ, zero, suc, ◌+◌, ◌*◌, ◌<◌, ◌≤◌}
use Rattle.enclosure.specs.Exact.{Point, norm}

-- top/under; under is above 0 in every fraction that is used
pub record Fraction : Type 0 where
  pub top : ℕ
  pub under : ℕ

-- x is at most y, by cross-multiplication
abbrev pub Most : Fraction → Fraction → Type 0
Most x y = x.top * y.under ≤ y.top * x.under

abbrev pub whole : ℕ → Fraction
whole n = record { top = n; under = 1 }

abbrev pub plus : Fraction → Fraction → Fraction
plus x y = record { top = x.top * y.under + y.top * x.under; under = x.under * y.under }

abbrev pub product : Fraction → Fraction → Fraction
product x y = record { top = x.top * y.top; under = x.under * y.under }

abbrev pub quotient : Fraction → Fraction → Fraction
quotient x y = record { top = x.top * y.under; under = x.under * y.top }

-- |x|²
abbrev pub size_square : Point → Fraction
size_square x = record { top = norm x.re x.im; under = x.den * x.den }

-- C, and w j times f j for each j below m: an "equally weighted sum of fractions"
abbrev pub total : ℕ → (ℕ → Fraction) → (ℕ → Fraction) → Fraction → Fraction
total zero w f C = C
total (suc m) w f C = plus (total m w f C) (product (w m) (f m))

-- ---- the sum of m magnitudes with the squares s j and the weights w j, and of C, which is a fraction itself
-- "it is at most a number when every equally weighted sum of fractions, not negative and with squares not above the magnitudes' squares,
-- is at most that number"
abbrev pub SumAtMost : ℕ → (ℕ → Fraction) → (ℕ → Fraction) → Fraction → Fraction → Type 0
SumAtMost m w s C N = (f : ℕ → Fraction) → ((j : ℕ) → j < m → (0 < (f j).under) × Most (product (f j) (f j)) (s j)) → Most (total m w f C) N

-- "it is at least a number when every such sum with squares not below them is at least that number"
abbrev pub SumAtLeast : ℕ → (ℕ → Fraction) → (ℕ → Fraction) → Fraction → Fraction → Type 0
SumAtLeast m w s C N = (f : ℕ → Fraction) → ((j : ℕ) → j < m → (0 < (f j).under) × Most (s j) (product (f j) (f j))) → Most N (total m w f C)
