-- How large and how small the exact impedance of a power station unit is, from its calculated form: what ElementSizes has for the other
-- machines. Over plain numbers in document 02's ranges. Assumes nothing.
use Rattle.std.specs.Prelude.{ℕ, ◌+◌, ◌*◌, ◌^◌, ◌≤◌, ◌<◌, refl, [], ◌∷◌}
use Rattle.std.proofs.Common.{le_refl, le_trans, mul-le-mul, lit<, lit≤, arith}
use Rattle.std.proofs.Math.Nat.{mul-pos}
use Rattle.algebra.specs.Reading.{from, from_over, read, ◌⊹◌, ◌⋆◌}
use Rattle.enclosure.specs.Exact.{Point}
use Rattle.elements.specs.Factors.{factor_c, sine_of, ux_of}
use Rattle.elements.specs.laws.FactorSizes.{factor_c_sized, ux_few, unit_saturation_over}
use Rattle.elements.specs.Impedance.{apart, station_unit}
use Rattle.elements.specs.laws.ImpedanceErrors.{reduced_unit, unit_same, unit_proper}
use Rattle.tree.specs.laws.AdmittanceSizes.{AtMost, AtLeast, most_same, least_same}
use Rattle.network.specs.laws.ElementSizes.{Machine, machine_most}

-- what a record of a unit gives
pub record UnitRange (Un Ur k_va xd ρ low high kVAT uk u_r : ℕ) : Type 0 where
  pub volts : 100 ≤ Un
  pub volts_most : Un ≤ 420000
  pub rated : 81 ≤ Ur
  pub kva : 10 ≤ k_va
  pub kva_most : k_va ≤ 1000000
  pub xd_least : 1000 ≤ xd
  pub xd_most : xd ≤ 100000
  pub ratio : ρ ≤ 200
  pub low_some : 0 < low
  pub low_most : low ≤ 462000
  pub high_some : 0 < high
  pub transformer : 10 ≤ kVAT
  pub uk_most : uk ≤ 30000
  pub u_r_most : u_r ≤ 30000

-- ---- the calculated form, D being |1,000·xd − ux|·s
module _ (c D Un Ur k_va xd ρ low kVAT u_r ux : ℕ) where
  reduced_proper : 0 < Ur → 0 < k_va → 0 < kVAT → 0 < (reduced_unit c D Un Ur k_va xd ρ low kVAT u_r ux).den
  reduced_proper r v t = mul-pos (mul-pos (mul-pos (mul-pos (mul-pos (lit< tt) v) (mul-pos (mul-pos (lit< tt) r) r)) t) (lit< tt)) (omega arith)

  -- the generator alone keeps it at Un²/2 ^ 37 ohms
  reduced_square : 100 < c → 1000000000000 + D ≤ 1310000000 * xd → k_va ≤ 1000000 → AtLeast (Un * Un) (2 ^ 38) (reduced_unit c D Un Ur k_va xd ρ low kVAT u_r ux)
  reduced_square hc hD hv =
      from (c ∷ D ∷ Un ∷ Ur ∷ k_va ∷ xd ∷ ρ ∷ low ∷ kVAT ∷ u_r ∷ ux ∷ [])
      (20 * (Un * Un * k_va * (Ur * Ur) * kVAT) ⋆ hD
      ⊹ 20 * 1310000000 * (xd * (Un * Un) * (Ur * Ur) * kVAT) ⋆ hv
      ⊹ 2 ^ 38 * 1000 * (xd * (Un * Un) * (Ur * Ur) * kVAT) ⋆ hc)
      (search read depth 40 fits 20000) refl

  reduced_short : c ≤ 110 → Un ≤ 420000 → 81 ≤ Ur → 10 ≤ k_va → xd ≤ 100000 → ρ ≤ 200 → low ≤ 462000 → 10 ≤ kVAT → u_r ≤ 30000 → ux ≤ 30000000
      → AtMost 1 (2 ^ 60) (reduced_unit c D Un Ur k_va xd ρ low kVAT u_r ux)
  reduced_short hc hn hr hv hx hρ hl ht hR hX =
      from (c ∷ D ∷ Un ∷ Ur ∷ k_va ∷ xd ∷ ρ ∷ low ∷ kVAT ∷ u_r ∷ ux ∷ [])
      (10 * kVAT * (Ur * Ur) ⋆ mul-le-mul (mul-le-mul (mul-le-mul (mul-le-mul hρ (le_refl 1)) hx) (mul-le-mul hn hn)) hc
      ⊹ 1000 * kVAT * (Ur * Ur) ⋆ mul-le-mul (mul-le-mul hx (mul-le-mul hn hn)) hc
      ⊹ 1000 * k_va ⋆ mul-le-mul (mul-le-mul (mul-le-mul hR (mul-le-mul hl hl)) (mul-le-mul hn hn)) hc
      ⊹ k_va ⋆ mul-le-mul (mul-le-mul (mul-le-mul hX (mul-le-mul hl hl)) (mul-le-mul hn hn)) hc
      ⊹ 5000000000000 * 2 ^ 60 * kVAT * (Ur * Ur) ⋆ hv
      ⊹ 5000000000000 * 2 ^ 60 * k_va ⋆ mul-le-mul ht (mul-le-mul hr hr))
      (search read depth 40 fits 20000) refl

-- what keeps the square away from 0 keeps the impedance away from it too
least_of_square : (U : ℕ) (z : Point) → 100 ≤ U → AtLeast (U * U) (2 ^ 38) z → AtLeast U machine_most z
least_of_square U z h k = from_over (U ∷ z.re ∷ z.im ∷ z.den ∷ []) 100 (lit< tt) (k ⊹ 2 * U * z.den ⋆ h) (search read depth 40 fits 20000) refl

-- ---- the literal form
module _ (tolerance Un Ur k_va xd ρ powerFactor low high kVAT uk u_r : ℕ) (r : UnitRange Un Ur k_va xd ρ low high kVAT uk u_r) where
  proper : 0 < (reduced_unit (factor_c tolerance Un) (apart (1000 * xd) (ux_of uk u_r) * sine_of powerFactor) Un Ur k_va xd ρ low kVAT u_r (ux_of uk u_r)).den
  proper = reduced_proper (factor_c tolerance Un) _ Un Ur k_va xd ρ low kVAT u_r (ux_of uk u_r) (le_trans (lit≤ tt) r.rated) (le_trans (lit≤ tt) r.kva) (le_trans (lit≤ tt) r.transformer)

  pub unit_square : AtLeast (Un * Un) (2 ^ 38) (station_unit tolerance Un Ur k_va xd ρ powerFactor low high kVAT uk u_r)
  unit_square =
      least_same (Un * Un) (2 ^ 38) _ _ proper (unit_same tolerance Un Ur k_va xd ρ powerFactor low high kVAT uk u_r)
      (reduced_square (factor_c tolerance Un) _ Un Ur k_va xd ρ low kVAT u_r (ux_of uk u_r) (factor_c_sized tolerance Un).0 (unit_saturation_over xd uk u_r powerFactor r.xd_least r.uk_most) r.kva_most)

  short : AtMost 1 (2 ^ 60) (station_unit tolerance Un Ur k_va xd ρ powerFactor low high kVAT uk u_r)
  short =
      most_same 1 (2 ^ 60) _ _ proper (unit_same tolerance Un Ur k_va xd ρ powerFactor low high kVAT uk u_r)
      (reduced_short (factor_c tolerance Un) _ Un Ur k_va xd ρ low kVAT u_r (ux_of uk u_r) (factor_c_sized tolerance Un).1 r.volts_most r.rated r.kva r.xd_most r.ratio r.low_most r.transformer r.u_r_most
      (ux_few uk u_r r.uk_most))

  reactive : 0 < (station_unit tolerance Un Ur k_va xd ρ powerFactor low high kVAT uk u_r).im
  unfolding station_unit
  reactive =
      mul-pos (more _ _ (mul-pos (mul-pos (mul-pos (mul-pos some_xd (lit< tt)) (mul-pos some_rated some_rated)) (mul-pos r.high_some r.high_some)) (mul-pos (lit< {m = 0} {n = 100000000} tt) (mul-pos (lit< {m = 0} {n = 1000} tt) some_power))))
      (mul-pos (mul-pos (mul-pos some_volts some_volts) (mul-pos r.low_some r.low_some)) (mul-pos (lit< tt) (le_trans (lit≤ tt) (factor_c_sized tolerance Un).0)))
    where
      more : (a b : ℕ) → 0 < a → 0 < a + b
      more a b h = omega arith

      some_power : 0 < kVAT
      some_power = le_trans (lit≤ tt) r.transformer

      some_xd : 0 < xd
      some_xd = le_trans (lit≤ tt) r.xd_least

      some_rated : 0 < Ur
      some_rated = le_trans (lit≤ tt) r.rated

      some_volts : 0 < Un
      some_volts = le_trans (lit≤ tt) r.volts

  pub unit_machine : Machine Un (station_unit tolerance Un Ur k_va xd ρ powerFactor low high kVAT uk u_r)
  unit_machine = record {
    proper = unit_proper tolerance Un Ur k_va xd ρ powerFactor low high kVAT uk u_r (le_trans (lit≤ tt) r.rated) (le_trans (lit≤ tt) r.kva) r.low_some r.high_some (le_trans (lit≤ tt) r.transformer);
    reactive = reactive;
    short = short;
    least = least_of_square Un _ r.volts unit_square;
  }
