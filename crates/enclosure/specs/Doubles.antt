-- The calculation in f64, one definition for each function of src/. How near each is to the exact operation is proved in laws/F64Errors
-- and laws/WholeBounds.
use Rattle.std.specs.Prelude.{ℕ, zero, suc, ◌+◌, ◌-◌, ◌*◌, ◌/◌, ◌^◌, min, Bool, cond, from_bits, Float}
use Rattle.std.specs.Float.{binary64}
use Rattle.std.specs.Float.Ieee.{add, mul, div, eq, le}
use Rattle.enclosure.specs.Exact.{of_nat, Ops}
use Rattle.enclosure.specs.declared.Complex.{Complex}
use Rattle.enclosure.specs.declared.Bounds.{Bounds}

-- a whole number as f64, 2 ^ 53 for any more: past that f64 has not every whole number
abbrev pub of_whole : ℕ → Float
of_whole n = of_nat (min n (2 ^ 53))

abbrev pub nought : Float
nought = from_bits binary64 0

-- no current, no admittance
abbrev pub none : Complex
none = record { re = nought; im = nought }

-- two whole numbers as a point
unfoldable pub whole_point : ℕ → ℕ → Complex
whole_point a b = record { re = of_nat a; im = of_nat b }

unfoldable pub added : Complex → Complex → Complex
added x y = record { re = add binary64 x.re y.re; im = add binary64 x.im y.im }

unfoldable pub empty : Complex → Bool
empty z = eq (add binary64 z.re z.im) nought

-- the square of the size, in f64
abbrev pub square : Complex → Float
square z = add binary64 (mul binary64 z.re z.re) (mul binary64 z.im z.im)

-- one over z, in f64; nothing for nothing
unfoldable pub inverted : Complex → Complex
inverted z = cond (eq (square z) nought) z (record { re = div binary64 z.re (square z); im = div binary64 z.im (square z) })

abbrev pub ratio : ℕ → ℕ → Float
ratio p q = div binary64 (of_nat p) (of_nat q)

-- p/q of z, in f64
unfoldable pub scaled : ℕ → ℕ → Complex → Complex
scaled p q z = record { re = mul binary64 z.re (ratio p q); im = mul binary64 z.im (ratio p q) }

abbrev pub doubles : Ops Complex
doubles = record { none = none; empty = empty; add = added; inverse = inverted; scale = scaled }

-- ---- a whole number found bit by bit: the greatest that passes a test, where what passes stays below what does not
unfoldable pub climb : (ℕ → Bool) → ℕ → ℕ → ℕ
climb test zero low = low
climb test (suc k) low = climb test k (cond (test (low + 2 ^ k)) (low + 2 ^ k) low)

-- the square of a whole number, in f64
abbrev pub squared : ℕ → Float
squared n = mul binary64 (of_nat n) (of_nat n)

-- the greatest whole number below 2 ^ 53 whose square, in f64, is at most m
unfoldable pub root_below : Float → ℕ
root_below m = climb (λ r. le (squared r) m) 53 0

-- ---- whole bounds of √(p/q)·|z|. The margin of one part in 2 ^ 30 covers every rounding; nothing has the bounds 0 and 0
unfoldable pub size_below : ℕ → ℕ → ℕ → Complex → ℕ
size_below margin p q z = root_below (mul binary64 (square z) (ratio (p * margin) (q * 1073741824)))

unfoldable pub lower_of : ℕ → ℕ → Complex → ℕ
lower_of p q z = cond (empty z) 0 (size_below 1073741823 p q z)

unfoldable pub upper_of : ℕ → ℕ → Complex → ℕ
upper_of p q z = cond (empty z) 0 (size_below 1073741825 p q z + 1)

abbrev pub bounds_of : ℕ → ℕ → Complex → Bounds
bounds_of p q z = record { lower = lower_of p q z; upper = upper_of p q z }

-- ---- products of many factors, and a magnitude from its square
abbrev pub unity : Float
unity = from_bits binary64 4607182418800017408

-- 2 ^ -120: far below what any figure shows, far above what f64 loses
abbrev pub faintest : Float
faintest = from_bits binary64 4066750463515557888

-- x·y, and no less than `least`
unfoldable pub floored : Float → Float → Float → Float
floored least x y = cond (le (mul binary64 x y) least) least (mul binary64 x y)

-- one root for both bounds, with a margin of one part in 2 ^ 16: √x is at most r + 1 and at least `under_root r`
unfoldable pub root_fine : Float → ℕ
root_fine x = root_below (mul binary64 x (ratio 65537 65536))

abbrev pub under_root : ℕ → ℕ
under_root r = r - r / 16384 - 1
