-- How large the factors can be. Assumes nothing.
use Rattle.std.specs.Prelude.{ℕ, ◌+◌, ◌*◌, ◌≤◌, ◌<◌, refl, Bool, true, false, cond, [], ◌∷◌, leb, eqb}
use Rattle.std.proofs.Common.{arith, mul-le-mul, lit≤}
use Rattle.algebra.specs.Reading.{from, read}
use Rattle.enclosure.specs.laws.Root.{root_le}
use Rattle.elements.specs.Factors.{factor_c, sine_of, ux_of, split_of}
use Rattle.elements.specs.Impedance.{apart}
use Rattle.elements.specs.laws.Factors.{sine_most, ux_most, split_fits, split_most}

-- R and X of an impedance of 10⁸ are at most 10⁸ each
pub split_re_most : (ρ : ℕ) → split_of ρ * ρ ≤ 100000000
split_re_most ρ = root_le (split_of ρ * ρ) 100000000 (go (split_of ρ) (split_fits ρ))
  where
    go : (f : ℕ) → f * f * (10000 + ρ * ρ) ≤ 10000000000000000 → f * ρ * (f * ρ) ≤ 100000000 * 100000000
    go f h = from (f ∷ ρ ∷ []) h (search read depth 40 fits 20000) refl

pub split_im_most : (ρ : ℕ) → split_of ρ * 100 ≤ 100000000
split_im_most ρ = omega (arith, split_most ρ)

pub factor_c_sized : (tolerance volts : ℕ) → (100 < factor_c tolerance volts) × (factor_c tolerance volts ≤ 110)
unfolding factor_c
factor_c_sized tolerance volts = go (leb volts 1000) (eqb tolerance 6)
  where
    go : (s t : Bool) → (100 < cond s (cond t 105 110) 110) × (cond s (cond t 105 110) 110 ≤ 110)
    go true true = (lit≤ tt, lit≤ tt)
    go true false = (lit≤ tt, lit≤ tt)
    go false t = (lit≤ tt, lit≤ tt)

-- ux in document 01's range of uk
pub ux_few : (uk u_r : ℕ) → uk ≤ 30000 → ux_of uk u_r ≤ 30000000
ux_few uk u_r h = omega (arith, ux_most uk u_r)

-- xd·sin, in 10⁻⁹
pub saturation_most : (xd p : ℕ) → xd ≤ 100000 → xd * sine_of p ≤ 1000000000
saturation_most xd p h = mul-le-mul h (sine_most p)

-- the same of a unit, |xd − xT|·sin in 10⁻¹²; |xd − xT| is at most the larger of the two
apart_most : (a b k : ℕ) → a ≤ k → b ≤ k → apart a b ≤ k
apart_most a b k h l = omega arith

-- and against xd: at most 1.31·10⁹·xd with the 10¹² that it is added to
pub unit_saturation_over : (xd uk u_r p : ℕ) → 1000 ≤ xd → uk ≤ 30000 → 1000000000000 + apart (1000 * xd) (ux_of uk u_r) * sine_of p ≤ 1310000000 * xd
unit_saturation_over xd uk u_r p h k = go (ux_of uk u_r) (ux_few uk u_r k)
  where
    go : (ux : ℕ) → ux ≤ 30000000 → 1000000000000 + apart (1000 * xd) ux * sine_of p ≤ 1310000000 * xd
    go ux l = let m : apart (1000 * xd) ux ≤ 1000 * xd + 30000000 = omega arith in omega (arith, mul-le-mul m (sine_most p))

pub unit_saturation_most : (xd uk u_r p : ℕ) → xd ≤ 100000 → uk ≤ 30000 → apart (1000 * xd) (ux_of uk u_r) * sine_of p ≤ 1000000000000
unit_saturation_most xd uk u_r p h k = mul-le-mul (apart_most (1000 * xd) (ux_of uk u_r) 100000000 (omega arith) (omega (arith, ux_few uk u_r k))) (sine_most p)
