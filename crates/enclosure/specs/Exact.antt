-- Exact numbers, on which every definition above rests: whole square roots, points of the closed first quadrant as fractions, and a
-- whole number as f64. An impedance R + jX stands as it is, an admittance G - jB as its two sizes G and B.
use Rattle.std.specs.Prelude.{ℕ, zero, suc, ◌+◌, ◌*◌, ◌/◌, Bool, true, false, cond, pos, ◌==◌, nat_le, Float}
use Rattle.std.specs.Float.{binary64}
use Rattle.std.specs.Float.Ieee.{of_int}

-- twice r, or one more
abbrev pub widen : ℕ → ℕ → ℕ
widen r x = elim (nat_le ((2 * r + 1) * (2 * r + 1)) x) [ true ↦ 2 * r + 1 | false ↦ 2 * r ]

unfoldable pub root_by : ℕ → ℕ → ℕ
root_by zero x = 0
root_by (suc n) x = elim (x == 0) [ true ↦ 0 | false ↦ widen (root_by n (x / 4)) x ]

-- the greatest n with n² ≤ x: two digits of x to the base 2 give one of the root
unfoldable pub root_of : ℕ → ℕ
unfolding root_by
root_of x = root_by x x

-- the least n with x ≤ n²
unfoldable pub root_up : ℕ → ℕ
root_up zero = 0
root_up (suc x) = suc (root_of x)

-- re/den and im/den; den is above 0 in every point that is used
pub record Point : Type 0 where
  pub re : ℕ
  pub im : ℕ
  pub den : ℕ

-- what is calculated with: exact points, or rounded ones
pub record Ops (A : Type 0) : Type 0 where
  pub none : A
  pub empty : A → Bool
  pub add : A → A → A
  pub inverse : A → A
  pub scale : ℕ → ℕ → A → A

abbrev pub nothing : Point
nothing = record { re = 0; im = 0; den = 1 }

abbrev pub is_nothing : Point → Bool
is_nothing x = x.re + x.im == 0

abbrev pub sum : Point → Point → Point
sum x y = record { re = x.re * y.den + y.re * x.den; im = x.im * y.den + y.im * x.den; den = x.den * y.den }

-- p/q of a point
abbrev pub times : ℕ → ℕ → Point → Point
times p q x = record { re = x.re * p; im = x.im * p; den = x.den * q }

-- 1/(R + jX) is G - jB, kept as G and B; the inverse of nothing is nothing
abbrev pub turned : Point → Point
turned x = record { re = x.re * x.den; im = x.im * x.den; den = x.re * x.re + x.im * x.im }

unfoldable pub inverse : Point → Point
inverse x = cond (is_nothing x) nothing (turned x)

abbrev pub exact : Ops Point
exact = record { none = nothing; empty = is_nothing; add = sum; inverse = inverse; scale = times }

abbrev pub norm : ℕ → ℕ → ℕ
norm a b = a * a + b * b

-- ---- a whole number as f64
abbrev pub of_nat : ℕ → Float
of_nat n = of_int binary64 (pos n)
