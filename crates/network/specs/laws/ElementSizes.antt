-- How large and how small the exact impedances and admittances of accepted records are: the bounds that the calculation in f64 asks for,
-- and those that keep every figure below 2⁵³. Over plain numbers in document 01's ranges. Assumes nothing.
use Rattle.std.specs.Prelude.{ℕ, ◌+◌, ◌*◌, ◌^◌, ◌≤◌, ◌<◌, [], ◌∷◌}
use Rattle.std.proofs.Math.Path.{refl}
use Rattle.std.proofs.Common.{arith, le_refl, le_trans, lt_of_not-le, mul-le-mul, lit<, lit≤}
use Rattle.std.proofs.Math.Nat.{mul-pos}
use Rattle.algebra.specs.Reading.{poly, from, from_over, read, ◌⊹◌, ◌⋆◌}
use Rattle.enclosure.specs.laws.Root.{below_of_squares}
use Rattle.enclosure.specs.Exact.{Point, times, exact}
use Rattle.elements.specs.Factors.{factor_c, sine_of, ux_of, split_of}
use Rattle.elements.specs.laws.Factors.{ux_most, ux_greatest, split_greatest}
use Rattle.elements.specs.laws.FactorSizes.{split_re_most, split_im_most, factor_c_sized, saturation_most}
use Rattle.elements.specs.Impedance.{line, correct_t, short_circuit, transformer, split, feeder, motor, generator}
use Rattle.tree.specs.Grid.{times_square}
use Rattle.tree.specs.laws.AdmittanceSizes.{AtMost, AtLeast}
use Rattle.tree.specs.laws.TreeBounds.{Impedance}

-- (re + im)·Un of what is seen through one branch is at most 6.72·10¹² V·S, that of one machine at most 8.59·10⁹ V·S: as many
-- of both as the laws cover together keep it at `seen_most` or less (Claim)
abbrev pub branch_most : ℕ
branch_most = 6720000000000

abbrev pub machine_most : ℕ
machine_most = 8589934592

-- ---- a line
module _ (r x metres circuits : ℕ) (hr : r ≤ 100000) (hx : x ≤ 100000) (some : 0 < r + x) (m₀ : 1 ≤ metres) (m₁ : metres ≤ 200000) (c₀ : 1 ≤ circuits) (c₁ : circuits ≤ 8) where
  pub line_impedance : Impedance (line r x metres circuits)
  unfolding line
  line_impedance = record {
    proper = omega arith;
    some = from (r ∷ x ∷ metres ∷ []) (mul-pos some m₀) (search read depth 40 fits 20000) refl;
    fine = omega arith;
    short = from (r ∷ x ∷ metres ∷ circuits ∷ []) (metres ⋆ hr ⊹ metres ⋆ hx ⊹ 200000 ⋆ m₁ ⊹ 40000000000 * 1000000 ⋆ c₀) (search read depth 40 fits 20000) refl;
  }

  pub line_least : (U : ℕ) → U ≤ 420000 → AtLeast U branch_most (line r x metres circuits)
  unfolding line
  line_least U hu = from (r ∷ x ∷ metres ∷ circuits ∷ U ∷ []) (2000000 * circuits ⋆ hu ⊹ 840000000000 ⋆ c₁ ⊹ 6720000000000 ⋆ mul-pos some m₀) (search read depth 40 fits 20000) refl

-- ---- a transformer: in millionths, ux and uR together are at least uk
reactance_least : (uk u_r ux : ℕ) → uk * uk * 1000000 < (ux + 1) * (ux + 1) + u_r * u_r * 1000000 → 1000 * uk ≤ ux + 1000 * u_r
reactance_least uk u_r ux h =
    omega (arith, below_of_squares (1000 * uk) (ux + 1000 * u_r + 1) (le_trans (squared uk (ux + 1) u_r h) (poly (u_r ∷ ux ∷ []) (search read depth 40 fits 20000) refl)))
  where
    squared : (a b c : ℕ) → a * a * 1000000 < b * b + c * c * 1000000 → 1000 * a * (1000 * a) < b * b + 1000 * c * (1000 * c)
    squared a b c l = omega arith

ux_next : (uk u_r : ℕ) → u_r < uk → uk * uk * 1000000 < (ux_of uk u_r + 1) * (ux_of uk u_r + 1) + u_r * u_r * 1000000
ux_next uk u_r h =
    lt_of_not-le (λ (l : (ux_of uk u_r + 1) * (ux_of uk u_r + 1) + u_r * u_r * 1000000 ≤ uk * uk * 1000000). omega (arith, ux_greatest uk u_r (ux_of uk u_r + 1) l))

-- volts U of a bus, rated volts v near them, an impedance of s/d ohms with s at least k·v²
apart_by : (P U v d s k D : ℕ) → 9 * U ≤ 10 * v → d ≤ D → k * (v * v) ≤ s → 20 * D ≤ 9 * P * k * 90 → 90 ≤ v → 2 * (U * d) ≤ P * s
apart_by P U v d s k D h1 h2 h3 h4 h5 =
    from_over (P ∷ U ∷ v ∷ d ∷ s ∷ k ∷ D ∷ []) 9 (lit< tt) (2 * d ⋆ h1 ⊹ 20 * v ⋆ h2 ⊹ 9 * P ⋆ h3 ⊹ v ⋆ h4 ⊹ 9 * P * k * v ⋆ h5) (search read depth 40 fits 20000) refl

module _ (c own k_va uk u_r ux : ℕ) (hc : (100 < c) × (c ≤ 110)) (o₀ : 90 ≤ own) (o₁ : own ≤ 462000) (v₀ : 10 ≤ k_va) (v₁ : k_va ≤ 1000000) (k₀ : 100 ≤ uk) (k₁ : uk ≤ 30000) (hr : u_r < uk) (hx : ux ≤ 1000 * uk) (sum : 1000 * uk ≤ ux + 1000 * u_r) where
  abbrev body : Point
  body = correct_t c ux (times (own * own) (1000 * k_va) (short_circuit u_r ux))

  large : 100000 ≤ 1000 * u_r + ux
  large = omega arith

  correct₀ : 9500000 * 101 ≤ 9500000 * c
  correct₀ = omega arith

  correct₁ : 9500000 * c ≤ 9500000 * 110
  correct₁ = omega arith

  saturated : 1000000000 + 6 * ux ≤ 1180000000
  saturated = omega arith

  rated₁ : 1000 * k_va ≤ 1000 * 1000000
  rated₁ = omega arith

  den_most : 100000000 * (1000 * k_va) * (1000000000 + 6 * ux) ≤ 100000000 * (1000 * 1000000) * 1180000000
  den_most = mul-le-mul (mul-le-mul (le_refl 100000000) rated₁) saturated

  body_impedance : Impedance body
  body_impedance = record {
    proper = omega arith;
    some = from (c ∷ own ∷ u_r ∷ ux ∷ []) (mul-le-mul (mul-le-mul large (mul-le-mul o₀ o₀)) hc.0) (search read depth 40 fits 20000) refl;
    fine = le_trans den_most (lit≤ tt);
    short =
        from (c ∷ own ∷ k_va ∷ u_r ∷ ux ∷ [])
        (mul-le-mul (mul-le-mul r₁ (mul-le-mul o₁ o₁)) correct₁ ⊹ mul-le-mul (mul-le-mul x₁ (mul-le-mul o₁ o₁)) correct₁ ⊹ 1152921504606846976 * 100000000 * 1000 * 1000000000 ⋆ v₀)
        (search read depth 40 fits 20000) refl;
  }
    where
      r₁ : 1000 * u_r ≤ 30000000
      r₁ = omega arith

      x₁ : ux ≤ 30000000
      x₁ = omega arith

  -- seen from its own side, and from the parent's side, where v is the rated volts there
  body_least : (U : ℕ) → 9 * U ≤ 10 * own → AtLeast U branch_most body
  body_least U h =
      apart_by branch_most U own (100000000 * (1000 * k_va) * (1000000000 + 6 * ux)) _ (100000 * (9500000 * 101)) (100000000 * (1000 * 1000000) * 1180000000) h den_most
      (from (c ∷ own ∷ u_r ∷ ux ∷ []) (own * own ⋆ mul-le-mul large correct₀) (search read depth 40 fits 20000) refl) (lit≤ tt) o₀

  body_least_above : (U v : ℕ) → 9 * U ≤ 10 * v → 90 ≤ v → AtLeast U branch_most (times_square exact v own body)
  body_least_above U v h v₀ =
      from (U ∷ v ∷ c ∷ own ∷ k_va ∷ u_r ∷ ux ∷ [])
      (own * own ⋆ apart_by branch_most U v (100000000 * (1000 * k_va) * (1000000000 + 6 * ux)) ((1000 * u_r + ux) * (9500000 * c) * (v * v)) (100000 * (9500000 * 101)) (100000000 * (1000 * 1000000) * 1180000000) h den_most
      (from (c ∷ v ∷ u_r ∷ ux ∷ []) (v * v ⋆ mul-le-mul large correct₀) (search read depth 40 fits 20000) refl) (lit≤ tt) v₀)
      (search read depth 40 fits 20000) refl

module _ (tolerance lower own k_va uk u_r : ℕ) (o₀ : 90 ≤ own) (o₁ : own ≤ 462000) (v₀ : 10 ≤ k_va) (v₁ : k_va ≤ 1000000) (k₀ : 100 ≤ uk) (k₁ : uk ≤ 30000) (hr : u_r < uk) where
  sum : 1000 * uk ≤ ux_of uk u_r + 1000 * u_r
  sum = reactance_least uk u_r (ux_of uk u_r) (ux_next uk u_r hr)

  pub transformer_impedance : Impedance (transformer tolerance lower own k_va uk u_r)
  unfolding transformer
  transformer_impedance = body_impedance (factor_c tolerance lower) own k_va uk u_r (ux_of uk u_r) (factor_c_sized tolerance lower) o₀ o₁ v₀ v₁ k₀ k₁ hr (ux_most uk u_r) sum

  pub transformer_least : (U : ℕ) → 9 * U ≤ 10 * own → AtLeast U branch_most (transformer tolerance lower own k_va uk u_r)
  unfolding transformer
  transformer_least = body_least (factor_c tolerance lower) own k_va uk u_r (ux_of uk u_r) (factor_c_sized tolerance lower) o₀ o₁ v₀ v₁ k₀ k₁ hr (ux_most uk u_r) sum

  pub transformer_least_above : (U v : ℕ) → 9 * U ≤ 10 * v → 90 ≤ v → AtLeast U branch_most (times_square exact v own (transformer tolerance lower own k_va uk u_r))
  unfolding transformer
  transformer_least_above = body_least_above (factor_c tolerance lower) own k_va uk u_r (ux_of uk u_r) (factor_c_sized tolerance lower) o₀ o₁ v₀ v₁ k₀ k₁ hr (ux_most uk u_r) sum

-- ---- a machine: not shorter than keeps its admittance times U at machineMost, and at most 2 ^ 60 ohms
pub record Machine (U : ℕ) (z : Point) : Type 0 where
  pub proper : 0 < z.den
  pub reactive : 0 < z.im
  pub short : AtMost 1 (2 ^ 60) z
  pub least : AtLeast U machine_most z

split_least : (ρ : ℕ) → ρ ≤ 200 → 447213 ≤ split_of ρ
split_least ρ h = split_greatest ρ 447213 (go (ρ * ρ) (mul-le-mul h h))
  where
    go : (x : ℕ) → x ≤ 200 * 200 → 447213 * 447213 * (10000 + x) ≤ 10000000000000000
    go x h = omega arith

-- an impedance n/d, split: a and b are f·ρ and f·100
split_machine : (U v n d a b k D N : ℕ) → 0 < d → 0 < n → 9 * U ≤ 10 * v → 90 ≤ v → 44721300 ≤ b → a ≤ 100000000 → b ≤ 100000000 → k * (v * v) ≤ n → d ≤ D → n ≤ N * d → N * 2 ≤ 2 ^ 60
    → 20 * (100000000 * D) ≤ 9 * machine_most * (44721300 * k) * 90 → Machine U (record { re = a * n; im = b * n; den = 100000000 * d })
split_machine U v n d a b k D N d₀ n₀ h₁ h₂ b₀ a₁ b₁ hk hd hN hs h₃ = record {
  proper = mul-pos (lit< tt) d₀;
  reactive = mul-pos (le_trans (lit≤ tt) b₀) n₀;
  short =
      from (n ∷ d ∷ a ∷ b ∷ N ∷ []) (n ⋆ a₁ ⊹ n ⋆ b₁ ⊹ 200000000 ⋆ hN ⊹ 100000000 * d ⋆ hs) (search read depth 40 fits 20000) refl;
  least =
      apart_by machine_most U v (100000000 * d) (a * n + b * n) (44721300 * k) (100000000 * D) h₁ (mul-le-mul (le_refl 100000000) hd)
      (from (v ∷ n ∷ a ∷ b ∷ k ∷ []) (n ⋆ b₀ ⊹ 44721300 ⋆ hk) (search read depth 40 fits 20000) refl) h₃ h₂;
}

pub feeder_machine : (tolerance Un k_va ρ : ℕ) → 100 ≤ Un → Un ≤ 420000 → 1000 ≤ k_va → k_va ≤ 100000000 → ρ ≤ 200 → Machine Un (feeder tolerance Un k_va ρ)
unfolding feeder split
feeder_machine tolerance Un k_va ρ u₀ u₁ v₀ v₁ hρ = go (factor_c tolerance Un) (factor_c_sized tolerance Un)
  where
    f₀ : 44721300 ≤ split_of ρ * 100
    f₀ = omega (arith, split_least ρ hρ)

    go : (c : ℕ) → (100 < c) × (c ≤ 110) → Machine Un (times (c * (Un * Un)) (100 * (1000 * k_va)) (record { re = split_of ρ * ρ; im = split_of ρ * 100; den = 100000000 }))
    go c hc =
        split_machine Un Un (c * (Un * Un)) (100 * (1000 * k_va)) (split_of ρ * ρ) (split_of ρ * 100) 101 (100 * (1000 * 100000000)) 200000
        (omega arith) (mul-pos (le_trans (lit≤ tt) hc.0) (mul-pos (le_trans (lit≤ tt) u₀) (le_trans (lit≤ tt) u₀)))
        (omega arith) (le_trans (lit≤ tt) u₀) f₀ (split_re_most ρ) (split_im_most ρ)
        (mul-le-mul hc.0 (le_refl (Un * Un))) (omega arith)
        (from (c ∷ Un ∷ k_va ∷ []) (mul-le-mul hc.1 (mul-le-mul u₁ u₁) ⊹ 20000000000 ⋆ v₀) (search read depth 40 fits 20000) refl) (lit≤ tt) (lit≤ tt)

pub motor_machine : (U Ur k_va ratio ρ : ℕ) → 9 * U ≤ 10 * Ur → 90 ≤ Ur → Ur ≤ 462000 → 1 ≤ k_va → k_va ≤ 100000 → 10 ≤ ratio → ratio ≤ 100 → ρ ≤ 200 → Machine U (motor Ur k_va ratio ρ)
unfolding motor split
motor_machine U Ur k_va ratio ρ h u₀ u₁ v₀ v₁ r₀ r₁ hρ =
    split_machine U Ur (10 * (Ur * Ur)) (ratio * (1000 * k_va)) (split_of ρ * ρ) (split_of ρ * 100) 10 (100 * (1000 * 100000)) 300000000
    (mul-pos (le_trans (lit≤ tt) r₀) (omega arith)) (mul-pos (lit< tt) (mul-pos some some)) h u₀ (omega (arith, split_least ρ hρ)) (split_re_most ρ) (split_im_most ρ)
    (le_refl (10 * (Ur * Ur))) (mul-le-mul r₁ (mul-le-mul (le_refl 1000) v₁))
    (from (Ur ∷ k_va ∷ ratio ∷ []) (10 ⋆ mul-le-mul u₁ u₁ ⊹ 300000000000 ⋆ mul-le-mul r₀ v₀) (search read depth 40 fits 20000) refl) (lit≤ tt) (lit≤ tt)
  where
    some : 0 < Ur
    some = le_trans (lit≤ tt) u₀

pub generator_machine : (tolerance Un Ur k_va xd ρ p : ℕ) → 100 ≤ Un → Un ≤ 420000 → 90 ≤ Ur → Ur ≤ 462000 → 10 ≤ k_va → k_va ≤ 1000000 → 1000 ≤ xd → xd ≤ 100000 → ρ ≤ 200
    → Machine Un (generator tolerance Un Ur k_va xd ρ p)
unfolding generator
generator_machine tolerance Un Ur k_va xd ρ p u₀ u₁ r₀ r₁ v₀ v₁ x₀ x₁ hρ = go (factor_c tolerance Un) (xd * sine_of p) (factor_c_sized tolerance Un) (saturation_most xd p x₁)
  where
    go : (c s : ℕ) → (100 < c) × (c ≤ 110) → s ≤ 1000000000
        → Machine Un (times (Un * (10000000 * c)) (Ur * (1000000000 + s)) (times (Ur * Ur) (1000 * k_va) (record { re = xd * ρ; im = xd * 100; den = 10000000 })))
    go c s hc hs = record {
      proper = mul-pos (mul-pos (lit< tt) (omega arith)) (mul-pos rated (omega arith));
      reactive = mul-pos (mul-pos (omega arith) (mul-pos rated rated)) (mul-pos (le_trans (lit≤ tt) u₀) (omega arith));
      short =
          from (Un ∷ Ur ∷ k_va ∷ xd ∷ ρ ∷ c ∷ s ∷ [])
          (mul-le-mul (mul-le-mul (mul-le-mul x₁ hρ) (mul-le-mul r₁ r₁)) (mul-le-mul u₁ c₁) ⊹ mul-le-mul (mul-le-mul (mul-le-mul x₁ (le_refl 100)) (mul-le-mul r₁ r₁)) (mul-le-mul u₁ c₁)
          ⊹ 1152921504606846976 * 10000000 * 1000 * 1000000000 ⋆ mul-le-mul v₀ r₀)
          (search read depth 40 fits 20000) refl;
      least =
          from (Un ∷ Ur ∷ k_va ∷ xd ∷ ρ ∷ c ∷ s ∷ [])
          (20000000000 * Un * Ur ⋆ mul-le-mul v₁ total
          ⊹ 8589934592 * (Ur * Ur) * Un * 1000000000 ⋆ mul-le-mul x₀ hc.0
          ⊹ 500000000000000000000000 * Un * Ur ⋆ r₀)
          (search read depth 40 fits 20000) refl;
    }
      where
        rated : 0 < Ur
        rated = le_trans (lit≤ tt) r₀

        c₁ : 10000000 * c ≤ 10000000 * 110
        c₁ = omega arith

        total : 1000000000 + s ≤ 2000000000
        total = omega arith
