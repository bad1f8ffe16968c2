-- Document 01, "Factors": c, the sine, f, T and the peak table's K, and ux by document 02, order 6; defined on all numbers. That each is the
-- least or the greatest that the documents say is proved in laws/Factors and laws/PeakTable.
use Rattle.std.specs.Prelude.{ℕ, ◌+◌, ◌-◌, ◌*◌, ◌/◌, zero, suc, ◌^◌, cond, leb, eqb}
use Rattle.enclosure.specs.Exact.{root_of, root_up}

-- "c: 110/100 above 1,000 V; up to and including 1,000 V, 105/100 at tolerance 6 and 110/100 at 10." In hundredths; a
-- tolerance other than 6 counts as 10
unfoldable pub factor_c : ℕ → ℕ → ℕ
factor_c tolerance volts = cond (leb volts 1000) (cond (eqb tolerance 6) 105 110) 110

-- "Sine: the least s with s² ≥ 10⁸ − 10⁴·p², p the power factor; sin = s/10,000."
unfoldable pub sine_of : ℕ → ℕ
sine_of p = root_up (100000000 - 10000 * (p * p))

-- "ux is now in millionths of a percent: the greatest w with w² ≤ (uk² − uR²)·10⁶", where uk and uR are in thousandths of a percent
unfoldable pub ux_of : ℕ → ℕ → ℕ
ux_of uk u_r = root_of ((uk * uk - u_r * u_r) * 1000000)

-- "f: the greatest whole number with f²·(10,000 + ρ²) ≤ 10¹⁶; X = Z·f/10⁶, R = X·ρ/100."
unfoldable pub split_of : ℕ → ℕ
split_of ρ = root_of (10000000000000000 / (10000 + ρ * ρ))

-- m!·d^m: the denominator of (n/d)^m/m!, and of the sum that ends with it
unfoldable pub denominator : ℕ → ℕ → ℕ
denominator zero d = 1
denominator (suc m) d = denominator m d * (suc m * d)

-- the sum of (n/d)^k/k! for k = 0 to m, over `denominator m d`
unfoldable pub numerator : ℕ → ℕ → ℕ → ℕ
numerator zero n d = 1
numerator (suc m) n d = numerator m n d * (suc m * d) + n ^ suc m

-- "T(y): the sum of y^k/k! for k = 0 to 24, the term for k = 0 being 1." T(n/d) is tOver n d / tUnder d
unfoldable pub t_over : ℕ → ℕ → ℕ
t_over n d = numerator 24 n d

unfoldable pub t_under : ℕ → ℕ
t_under d = denominator 24 d

-- the least whole number not below a/b
unfoldable pub ceiling : ℕ → ℕ → ℕ
ceiling a zero = 0
ceiling a (suc c) = (a + c) / suc c

-- "Peak table, i = 0..230: K(i) = 1,020 + the least whole number not below 980/T(3i/100)."
unfoldable pub peak_factor : ℕ → ℕ
peak_factor i = 1020 + ceiling (980 * t_under 100) (t_over (3 * i) 100)
