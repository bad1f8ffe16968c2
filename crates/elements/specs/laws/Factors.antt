-- The factors are what documents 01 and 02 say: c by its three cases, the least s, the greatest w, the greatest f. Assumes nothing.
use Rattle.std.specs.Prelude.{ℕ, ◌+◌, ◌-◌, ◌*◌, ◌/◌, ◌≤◌, ◌<◌, ◌≡◌}
use Rattle.std.proofs.Common.{arith, le_trans, mul-le-mul, mul-le-mul_right, div-mul-le_self, le-div_iff_mul-le, le-leb}
use Rattle.std.proofs.lemmas.Bool.{lt-leb}
use Rattle.enclosure.specs.Exact.{root_of}
use Rattle.enclosure.specs.laws.Root.{root_is, root_le, root_below_law, root_greatest, root_up_reaches, root_up_least}
use Rattle.elements.specs.Factors.{factor_c, sine_of, ux_of, split_of}

pub factor_c_above : (tolerance volts : ℕ) → 1000 < volts → factor_c tolerance volts ≡ 110
unfolding factor_c
factor_c_above tolerance volts h = rw (lt-leb volts 1000 h)

pub factor_c_six : (volts : ℕ) → volts ≤ 1000 → factor_c 6 volts ≡ 105
unfolding factor_c
factor_c_six volts h = rw (le-leb volts 1000 h)

pub factor_c_ten : (volts : ℕ) → volts ≤ 1000 → factor_c 10 volts ≡ 110
unfolding factor_c
factor_c_ten volts h = rw (le-leb volts 1000 h)

pub sine_reaches : (p : ℕ) → 100000000 ≤ sine_of p * sine_of p + 10000 * (p * p)
unfolding sine_of
sine_reaches p = omega (arith, root_up_reaches (100000000 - 10000 * (p * p)))

pub sine_least : (p s : ℕ) → 100000000 ≤ s * s + 10000 * (p * p) → sine_of p ≤ s
unfolding sine_of
sine_least p s h = root_up_least (100000000 - 10000 * (p * p)) s (omega arith)

pub sine_most : (p : ℕ) → sine_of p ≤ 10000
sine_most p = sine_least p 10000 (omega arith)

pub ux_fits : (uk u_r : ℕ) → u_r ≤ uk → ux_of uk u_r * ux_of uk u_r + u_r * u_r * 1000000 ≤ uk * uk * 1000000
unfolding ux_of
ux_fits uk u_r l = omega (arith, (root_is ((uk * uk - u_r * u_r) * 1000000)).low, mul-le-mul l l)

pub ux_greatest : (uk u_r w : ℕ) → w * w + u_r * u_r * 1000000 ≤ uk * uk * 1000000 → w ≤ ux_of uk u_r
unfolding ux_of
ux_greatest uk u_r w h = root_greatest ((uk * uk - u_r * u_r) * 1000000) w (omega arith)

pub ux_most : (uk u_r : ℕ) → ux_of uk u_r ≤ 1000 * uk
unfolding ux_of
ux_most uk u_r = omega (arith, root_below_law ((uk * uk - u_r * u_r) * 1000000) (1000 * uk + 1) (omega arith))

pub ux_none : (uk u_r : ℕ) → uk ≤ u_r → ux_of uk u_r ≡ 0
unfolding ux_of
ux_none uk u_r l = omega (arith, root_below_law ((uk * uk - u_r * u_r) * 1000000) 1 (omega (arith, mul-le-mul l l)))

pub split_fits : (ρ : ℕ) → split_of ρ * split_of ρ * (10000 + ρ * ρ) ≤ 10000000000000000
unfolding split_of
split_fits ρ =
    le_trans (mul-le-mul_right (10000 + ρ * ρ) (root_is (10000000000000000 / (10000 + ρ * ρ))).low) (div-mul-le_self 10000000000000000 (10000 + ρ * ρ))

pub split_greatest : (ρ f : ℕ) → f * f * (10000 + ρ * ρ) ≤ 10000000000000000 → f ≤ split_of ρ
unfolding split_of
split_greatest ρ f h = root_greatest (10000000000000000 / (10000 + ρ * ρ)) f ((le-div_iff_mul-le {k = 10000 + ρ * ρ} (omega arith)).1 h)

pub split_most : (ρ : ℕ) → split_of ρ ≤ 1000000
split_most ρ = root_le (split_of ρ) 1000000 (omega (arith, split_fits ρ))

-- ---- for the code: the product of two numbers of 16 bits, and the root of a number of 64
pub product_most : {a b : ℕ} → a < 65536 → b < 65536 → a * b ≤ 65535 * 65535
product_most {a} {b} h k =
    let l : a ≤ 65535 = omega arith in
    let m : b ≤ 65535 = omega arith in
    mul-le-mul l m

pub root_fits : {x r : ℕ} → r ≡ root_of x → x < 18446744073709551616 → r < 4294967296
root_fits {x} {r} e h = rw e (root_below_law x 4294967296 h)
