-- What acceptance gives of a network for the share of one machine in a fault current: how large a machine's admittance and the driving
-- voltage can be, how far rated ratios are from nominal ones where only transformers count, and that a share fits an f64.
-- Assumes nothing.
use Rattle.std.specs.Prelude.{ℕ, ◌+◌, ◌*◌, ◌^◌, ◌≤◌, ◌<◌, ◌≡◌, refl, true, false, [], ◌∷◌, length}
use Rattle.std.proofs.Common.{sym, inl, inr, le_refl, le_trans, lt_of_not-le, mul-le-mul, mul-pos, lit<, lit≤, ne_eqb, arith}
use Rattle.std.proofs.Math.Logic.{⊎_elim}
use Rattle.std.proofs.Math.Nat.{min-eq_left}
use Rattle.algebra.specs.Reading.{poly, from, from_over, read, ◌⊹◌, ◌⋆◌}
use Rattle.enclosure.specs.Exact.{Point, times, is_nothing}
use Rattle.enclosure.specs.laws.Root.{below_of_squares}
use Rattle.elements.specs.Factors.{factor_c, sine_of, split_of}
use Rattle.elements.specs.laws.Factors.{sine_most, split_greatest}
use Rattle.elements.specs.laws.FactorSizes.{factor_c_sized}
use Rattle.elements.specs.Impedance.{split, feeder, motor, generator}
use Rattle.tree.specs.Grid.{parent_of}
use Rattle.tree.specs.laws.AdmittanceSizes.{AtLeast, Low, most_inverse}
use Rattle.tree.specs.laws.TreeBounds.{tenths}
use Rattle.network.specs.Network.{Network, max_transformers, bus_at, source_at, if_transformer, transformers_of}
use Rattle.network.specs.SourceKinds.{is_machine, has_generator, impedance_of}
use Rattle.network.specs.RoundedSourceKinds.{volts_seen, kva_seen}
use Rattle.network.specs.Grid.{above_of, below_of, admittance_of, grid_of}
use Rattle.network.specs.Demand.{driving}
use Rattle.network.specs.laws.Rebuilt.{Rebuilt}
use Rattle.network.specs.laws.SourceKinds.{machine_cases, generator_cases}
use Rattle.network.specs.laws.Ways.{way_more}
use Rattle.network.specs.laws.AcceptedRecords.{bus_volts, bus_parent, bus_kind, bus_depth, line_volts, transformer_volts, source_kind_ok_law, source_bus, feeder_ranges, generator_ranges, motor_ranges, unit_ranges, unit_volts}
use Rattle.network.specs.laws.AcceptedTree.{volts_of, rated, rated_three, rated_high, unit_range, machine_bounded, machine_reactive}
use Rattle.network.specs.laws.StationUnitSizes.{unit_square}

-- ---- the impedance of a machine, kind by kind: R + X is at least Un²/2 ^ 37 ohms
-- R + X of an impedance of 10⁸ that is split is 10⁸ or more, but for what rounding f down takes
split_sum : (ρ : ℕ) → ρ ≤ 200 → 99999700 ≤ split_of ρ * ρ + split_of ρ * 100
split_sum ρ h = go (split_of ρ) (below_of_squares 100000000 ((split_of ρ + 1) * (100 + ρ)) (le_trans next (poly (split_of ρ ∷ ρ ∷ []) (search read depth 40 fits 20000) refl)))
  where
    -- f + 1 is too large
    next : 100000000 * 100000000 < (split_of ρ + 1) * (split_of ρ + 1) * (10000 + ρ * ρ)
    next =
        lt_of_not-le
        (λ (l : (split_of ρ + 1) * (split_of ρ + 1) * (10000 + ρ * ρ) ≤ 100000000 * 100000000). omega (arith, split_greatest ρ (split_of ρ + 1) (le_trans l (lit≤ tt))))

    go : (f : ℕ) → 100000000 < (f + 1) * (100 + ρ) → 99999700 ≤ f * ρ + f * 100
    go f k = from (f ∷ ρ ∷ []) (k ⊹ h) (search read depth 40 fits 20000) refl

feeder_square : (tolerance Un k_va ρ : ℕ) → k_va ≤ 100000000 → ρ ≤ 200 → AtLeast (Un * Un) (2 ^ 38) (feeder tolerance Un k_va ρ)
unfolding feeder split
feeder_square tolerance Un k_va ρ v₁ hρ = go (factor_c tolerance Un) (split_of ρ * ρ) (split_of ρ * 100) (factor_c_sized tolerance Un).0 (split_sum ρ hρ)
  where
    go : (c a b : ℕ) → 100 < c → 99999700 ≤ a + b → AtLeast (Un * Un) (2 ^ 38) (times (c * (Un * Un)) (100 * (1000 * k_va)) (record { re = a; im = b; den = 100000000 }))
    go c a b hc hs =
        from (c ∷ a ∷ b ∷ Un ∷ k_va ∷ []) (20000000000000 * (Un * Un) ⋆ v₁ ⊹ 2 ^ 38 * (Un * Un) ⋆ mul-le-mul hs hc) (search read depth 40 fits 20000) refl

motor_square : (U Ur k_va ratio ρ : ℕ) → 9 * U ≤ 10 * Ur → k_va ≤ 100000 → ratio ≤ 100 → ρ ≤ 200 → AtLeast (U * U) (2 ^ 38) (motor Ur k_va ratio ρ)
unfolding motor split
motor_square U Ur k_va ratio ρ h v₁ r₁ hρ = go (split_of ρ * ρ) (split_of ρ * 100) (split_sum ρ hρ)
  where
    go : (a b : ℕ) → 99999700 ≤ a + b → AtLeast (U * U) (2 ^ 38) (times (10 * (Ur * Ur)) (ratio * (1000 * k_va)) (record { re = a; im = b; den = 100000000 }))
    go a b hs =
        from_over (a ∷ b ∷ U ∷ Ur ∷ k_va ∷ ratio ∷ []) 81 (lit< tt)
        (200000000000 * (ratio * k_va) ⋆ mul-le-mul h h ⊹ 20000000000000 * (Ur * Ur) ⋆ mul-le-mul r₁ v₁ ⊹ 810 * 2 ^ 38 * (Ur * Ur) ⋆ hs)
        (search read depth 40 fits 20000) refl

generator_square : (tolerance Un Ur k_va xd ρ p : ℕ) → 9 * Un ≤ 10 * Ur → k_va ≤ 1000000 → 1000 ≤ xd → AtLeast (Un * Un) (2 ^ 38) (generator tolerance Un Ur k_va xd ρ p)
unfolding generator
generator_square tolerance Un Ur k_va xd ρ p h v₁ x₀ = go (factor_c tolerance Un) (sine_of p) (factor_c_sized tolerance Un).0 (sine_most p)
  where
    go : (c s : ℕ) → 100 < c → s ≤ 10000
        → AtLeast (Un * Un) (2 ^ 38) (times (Un * (10000000 * c)) (Ur * (1000000000 + xd * s)) (times (Ur * Ur) (1000 * k_va) (record { re = xd * ρ; im = xd * 100; den = 10000000 })))
    go c s hc hs =
        from_over (Un ∷ Ur ∷ k_va ∷ xd ∷ ρ ∷ c ∷ s ∷ []) 9 (lit< tt)
        (20000000000 * (Un * Ur * k_va * (1000000000 + xd * s)) ⋆ h
        ⊹ 200000000000 * (Un * (Ur * Ur) * (1000000000 + xd * s)) ⋆ v₁
        ⊹ 200000000000000000 * (Un * (Ur * Ur)) ⋆ (1000000 ⋆ x₀ ⊹ xd ⋆ hs)
        ⊹ 9 * 2 ^ 38 * 1000000000 * (Un * (Ur * Ur) * xd) ⋆ hc)
        (search read depth 40 fits 20000) refl

-- ---- a machine of an accepted network
module _ {n : Network} (r : Rebuilt n) (j : ℕ) (l : j < length n.sources) (m : is_machine (source_at n.sources j) ≡ true) where
  machine_square : AtLeast (volts_of n (source_at n.sources j).bus * volts_of n (source_at n.sources j).bus) (2 ^ 38) (impedance_of n.tolerance (volts_of n (source_at n.sources j).bus) (source_at n.sources j))
  unfolding impedance_of
  machine_square =
      ⊎_elim
      (λ (k : (source_at n.sources j).kind ≡ 1). let f = feeder_ranges r j l k in rw k (feeder_square n.tolerance _ _ _ f.k_va_most f.ratio))
      (⊎_elim
      (λ (k : (source_at n.sources j).kind ≡ 2). let f = generator_ranges r j l k in rw k (generator_square n.tolerance _ _ _ _ _ (source_at n.sources j).f5 (rated r j l m k).least f.k_va_most f.xd))
      (⊎_elim
      (λ (k : (source_at n.sources j).kind ≡ 3). let f = motor_ranges r j l k in rw k (motor_square _ _ _ _ _ (rated_three r j l m k).least f.k_va_most f.start_most f.ratio))
      (λ (k : (source_at n.sources j).kind ≡ 5). rw k (unit_square n.tolerance _ _ _ _ _ (source_at n.sources j).f5 _ _ _ _ _ (unit_range r j l m k)))))
      (machine_cases (source_at n.sources j) (source_kind_ok_law r j l) m)

  -- THE SIZE OF A MACHINE'S ADMITTANCE times the square of its bus's nominal volts: 2.75·10¹¹ VA at the most
  pub machine_volts_square : ((admittance_of n (source_at n.sources j)).re + (admittance_of n (source_at n.sources j)).im) * (volts_of n (source_at n.sources j).bus * volts_of n (source_at n.sources j).bus) ≤ 2 ^ 38 * (admittance_of n (source_at n.sources j)).den
  machine_volts_square = most_inverse _ (2 ^ 38) _ machine_square

  -- it is a fraction, not nothing, and from 2 ^ -108 to 2 ^ 108 S
  pub machine_proper : 0 < (admittance_of n (source_at n.sources j)).den
  machine_proper = (machine_bounded r j l m).proper

  pub machine_some : is_nothing (admittance_of n (source_at n.sources j)) ≡ false
  machine_some = go (admittance_of n (source_at n.sources j)) (machine_reactive r j l m)
    where
      go : (y : Point) → 0 < y.im → is_nothing y ≡ false
      go y h = ne_eqb (y.re + y.im) 0 (λ e. omega arith)

  pub machine_least : (admittance_of n (source_at n.sources j)).den ≤ 2 ^ 108 * ((admittance_of n (source_at n.sources j)).re + (admittance_of n (source_at n.sources j)).im)
  machine_least = go (admittance_of n (source_at n.sources j)) (machine_reactive r j l m) (machine_bounded r j l m).least
    where
      go : (y : Point) → 0 < y.im → Low (2 ^ 60) y → y.den ≤ 2 ^ 108 * (y.re + y.im)
      go y h (inl e) = absurd (omega arith)
      go y h (inr g) = le_trans g (mul-le-mul (lit≤ tt) (le_refl (y.re + y.im)))

  pub machine_most_law : (admittance_of n (source_at n.sources j)).re + (admittance_of n (source_at n.sources j)).im ≤ 2 ^ 108 * (admittance_of n (source_at n.sources j)).den
  machine_most_law = go _ _ (machine_bounded r j l m).most
    where
      go : (s d : ℕ) → s * 1 ≤ 2 ^ 100 * d → s ≤ 2 ^ 108 * d
      go s d h = from (s ∷ d ∷ []) h (search read depth 40 fits 20000) refl

-- ---- a generator's rated volts and kVA, as a bus of U nominal volts sees them: both are multiplied by `scale`, which is 1 or the low volts
-- of its unit
pub record SeenRating (U volts kva : ℕ) : Type 0 where
  pub scale : ℕ
  pub volts_some : 0 < volts
  pub volts_few : volts ≤ 2 ^ 53
  pub volts_most : 100 * volts ≤ 121 * (scale * U)
  pub kva_some : 0 < kva
  pub kva_few : 100 * kva ≤ 2 ^ 53
  pub kva_least : 10 * scale ≤ kva

generator_seen : (U volts kva : ℕ) → 100 ≤ U → U ≤ 420000 → 9 * U ≤ 10 * volts → 10 * volts ≤ 11 * U → 10 ≤ kva → kva ≤ 1000000 → SeenRating U volts kva
generator_seen U volts kva u₀ u₁ v₀ v₁ k₀ k₁ = record {
  scale = 1;
  volts_some = omega arith;
  volts_few = omega arith;
  volts_most = omega arith;
  kva_some = omega arith;
  kva_few = omega arith;
  kva_least = omega arith;
}

unit_seen : (U volts kva low high : ℕ) → U ≤ 420000 → 0 < volts → 0 < high → 10 * volts ≤ 11 * low → 10 * high ≤ 11 * U → 0 < low → low ≤ 462000 → 10 ≤ kva → kva ≤ 1000000
    → SeenRating U (volts * high) (kva * low)
unit_seen U volts kva low high u₁ v₀ h₀ v₁ h₁ l₀ l₁ k₀ k₁ = record {
  scale = low;
  volts_some = mul-pos v₀ h₀;
  volts_few = le_trans (mul-le-mul few_volts few_high) (lit≤ tt);
  volts_most = from (U ∷ volts ∷ low ∷ high ∷ []) (mul-le-mul v₁ h₁) (search read depth 40 fits 20000) refl;
  kva_some = mul-pos (le_trans (lit≤ tt) k₀) l₀;
  kva_few = le_trans (mul-le-mul (le_refl 100) (mul-le-mul k₁ l₁)) (lit≤ tt);
  kva_least = mul-le-mul k₀ (le_refl low);
}
  where
    few_volts : volts ≤ 508200
    few_volts = omega arith

    few_high : high ≤ 462000
    few_high = omega arith

module _ {n : Network} (r : Rebuilt n) (j : ℕ) (l : j < length n.sources) (m : is_machine (source_at n.sources j) ≡ true) where
  -- these are the record's own of a generator, and products of a unit's
  pub seen_generator : (source_at n.sources j).kind ≡ 2
      → (volts_seen (source_at n.sources j) ≡ (source_at n.sources j).f1) × (kva_seen (source_at n.sources j) ≡ (source_at n.sources j).f2)
  unfolding volts_seen kva_seen
  seen_generator k = (rw k, rw k)

  pub seen_unit : (source_at n.sources j).kind ≡ 5
      → (volts_seen (source_at n.sources j) ≡ (source_at n.sources j).f1 * (source_at n.sources j).high)
      × (kva_seen (source_at n.sources j) ≡ (source_at n.sources j).f2 * (source_at n.sources j).low)
  unfolding volts_seen kva_seen
  seen_unit k =
      let f = unit_ranges r j l k in
      let u = bus_volts r (source_at n.sources j).bus (source_bus r j l) in (
        rw (k, min-eq_left (volts_few _ _ (unit_volts r j l k).most f.low_most), min-eq_left (high_few _ _ (rated_high r j l m k).most u.1)),
        rw (k, min-eq_left f.k_va_most, min-eq_left (le_trans f.low_most (lit≤ tt))),
      )
    where
      volts_few : (v low : ℕ) → 10 * v ≤ 11 * low → low ≤ 462000 → v ≤ 1000000
      volts_few v low h k = omega arith

      high_few : (v U : ℕ) → 10 * v ≤ 11 * U → U ≤ 420000 → v ≤ 1000000
      high_few v U h k = omega arith

  pub seen_rating : has_generator (source_at n.sources j) ≡ true → SeenRating (volts_of n (source_at n.sources j).bus) (volts_seen (source_at n.sources j)) (kva_seen (source_at n.sources j))
  seen_rating g =
      let u = bus_volts r (source_at n.sources j).bus (source_bus r j l) in
      ⊎_elim
      (λ (k : (source_at n.sources j).kind ≡ 2).
      let f = generator_ranges r j l k in
      let t = rated r j l m k in
      rw ((seen_generator k).0, (seen_generator k).1) (generator_seen _ _ _ u.0 u.1 t.least t.most f.k_va f.k_va_most))
      (λ (k : (source_at n.sources j).kind ≡ 5).
      let f = unit_ranges r j l k in
      let w = unit_range r j l m k in
      rw ((seen_unit k).0, (seen_unit k).1) (unit_seen _ _ _ _ _ u.1 (le_trans (lit≤ tt) w.rated) w.high_some (unit_volts r j l k).most (rated_high r j l m k).most w.low_some f.low_most f.k_va f.k_va_most))
      (generator_cases (source_at n.sources j) g)

-- ---- the driving voltage c·Un at bus b, in hundredths of a volt
module _ {n : Network} (r : Rebuilt n) (b : ℕ) (l : b < length n.buses) where
  pub driving_some : 0 < driving n b
  driving_some = mul-pos (le_trans (lit≤ tt) (factor_c_sized n.tolerance (volts_of n b)).0) (le_trans (lit≤ tt) (bus_volts r b l).0)

  pub driving_most : driving n b ≤ 110 * volts_of n b
  driving_most = mul-le-mul (factor_c_sized n.tolerance (volts_of n b)).1 (le_refl (volts_of n b))

  pub driving_square : driving n b * driving n b ≤ 2 ^ 53
  driving_square = le_trans (mul-le-mul most most) (lit≤ tt)
    where
      most : driving n b ≤ 110 * 420000
      most = mul-le-mul (factor_c_sized n.tolerance (volts_of n b)).1 (bus_volts r b l).1

-- ---- the rated ratio of a branch against the nominal one, counting transformers alone: of a line both are 1
same : (u v : ℕ) → u ≡ v → 1 * (1 * u) ≤ 1 * (1 * v)
same u v e = omega arith

module _ {n : Network} (r : Rebuilt n) (i : ℕ) where
  pub transformers_most : i < length n.buses → transformers_of n.buses i ≤ max_transformers
  transformers_most l = (bus_depth r i l).1

  module _ (z : 0 < i) (l : i < length n.buses) where
    pub ratio_above : 9 ^ if_transformer (bus_at n.buses i) * (((grid_of n).branch i).above * volts_of n i) ≤ 11 ^ if_transformer (bus_at n.buses i) * (((grid_of n).branch i).below * volts_of n (parent_of (grid_of n) i))
    unfolding above_of below_of
    ratio_above =
        ⊎_elim
        (λ (k : (bus_at n.buses i).kind ≡ 1). rw k (same _ _ (sym (line_volts r i l k))))
        (λ (k : (bus_at n.buses i).kind ≡ 2). let t = transformer_volts r i l k in rw k (tenths _ _ _ _ t.0.most t.1.least))
        (bus_kind r i l z)

    pub ratio_below : 9 ^ if_transformer (bus_at n.buses i) * (((grid_of n).branch i).below * volts_of n (parent_of (grid_of n) i)) ≤ 11 ^ if_transformer (bus_at n.buses i) * (((grid_of n).branch i).above * volts_of n i)
    unfolding above_of below_of
    ratio_below =
        ⊎_elim
        (λ (k : (bus_at n.buses i).kind ≡ 1). rw k (same _ _ (line_volts r i l k)))
        (λ (k : (bus_at n.buses i).kind ≡ 2). let t = transformer_volts r i l k in rw k (tenths _ _ _ _ t.1.most t.0.least))
        (bus_kind r i l z)

    pub transformers_more : if_transformer (bus_at n.buses i) + transformers_of n.buses (parent_of (grid_of n) i) ≤ transformers_of n.buses i
    transformers_more = let e = way_more if_transformer n.buses i (bus_parent r i l z) in omega arith

-- ---- the square of a share, in steps, is at most 2 ^ 100. Over plain numbers: v is c·Un of the queried bus in hundredths of a volt, Ub and
-- Uj the nominal volts there and at the machine, (re + j·im)/den its admittance, and rt/ru the product of the rated ratios between them,
-- which 8 transformers at the most take away from the nominal one
-- (11/9) ^ 8 is below 5
fivefold : (Ub Uj rt ru : ℕ) → 9 ^ 8 * (rt * Ub) ≤ 11 ^ 8 * (ru * Uj) → rt * Ub ≤ 5 * (ru * Uj)
fivefold Ub Uj rt ru hr = from_over (Ub ∷ Uj ∷ rt ∷ ru ∷ []) (9 ^ 8) (lit< tt) hr (search read depth 40 fits 20000) refl

-- at the queried bus, in steps of 1/4,096 A
pub small_share : (v Ub Uj re im den rt ru : ℕ) → v ≤ 110 * Ub → 100 ≤ Ub → (re + im) * (Uj * Uj) ≤ 2 ^ 38 * den → 9 ^ 8 * (rt * Ub) ≤ 11 ^ 8 * (ru * Uj)
    → v * v * 16777216 * (re * re + im * im) * (rt * rt * (rt * rt)) ≤ 2 ^ 100 * (30000 * (den * den) * (ru * ru * (ru * ru)))
small_share v Ub Uj re im den rt ru hv hb hy hr =
    from_over (v ∷ Ub ∷ Uj ∷ re ∷ im ∷ den ∷ rt ∷ ru ∷ []) (Ub * Ub) (mul-pos some some)
    (Ub * Ub * 16777216 * (re * re + im * im) * (rt * rt * (rt * rt)) ⋆ mul-le-mul hv hv
    ⊹ 12100 * 16777216 * (re * re + im * im) ⋆ mul-le-mul (mul-le-mul five five) (mul-le-mul five five)
    ⊹ 12100 * 625 * 16777216 * (ru * ru * (ru * ru)) ⋆ mul-le-mul hy hy
    ⊹ 2 ^ 100 * 30000 * (den * den) * (ru * ru * (ru * ru)) ⋆ mul-le-mul hb hb)
    (search read depth 40 fits 20000) refl
  where
    some : 0 < Ub
    some = le_trans (lit≤ tt) hb

    five : rt * Ub ≤ 5 * (ru * Uj)
    five = fivefold Ub Uj rt ru hr

-- at the terminals of a generator of Ur rated volts, seen with a scale of w, in steps of 1/40,960 of its rated current
pub small_rated : (v Ub Uj re im den rt ru Ur kva w : ℕ) → v ≤ 110 * Ub → (re + im) * (Uj * Uj) ≤ 2 ^ 38 * den → 9 ^ 8 * (rt * Ub) ≤ 11 ^ 8 * (ru * Uj) → 100 * Ur ≤ 121 * (w * Uj) → 10 * w ≤ kva
    → v * v * 16777216 * (re * re + im * im) * (rt * Ur * (rt * Ur)) * 3 ≤ 2 ^ 100 * (30000 * (den * den) * (ru * (100 * kva) * (ru * (100 * kva))))
small_rated v Ub Uj re im den rt ru Ur kva w hv hy hr hu hk =
    from_over (v ∷ Ub ∷ Uj ∷ re ∷ im ∷ den ∷ rt ∷ ru ∷ Ur ∷ kva ∷ w ∷ []) 10000 (lit< tt)
    (30000 * 16777216 * (re * re + im * im) * (rt * rt * (Ur * Ur)) ⋆ mul-le-mul hv hv
    ⊹ 30000 * 12100 * 16777216 * (re * re + im * im) * (Ur * Ur) ⋆ mul-le-mul five five
    ⊹ 3 * 12100 * 25 * 16777216 * (re * re + im * im) * (ru * ru * (Uj * Uj)) ⋆ mul-le-mul hu hu
    ⊹ 3 * 12100 * 25 * 14641 * 16777216 * (ru * ru * (w * w)) ⋆ mul-le-mul hy hy
    ⊹ 2 ^ 100 * 30000 * 100000000 * (den * den) * (ru * ru) ⋆ mul-le-mul hk hk)
    (search read depth 40 fits 20000) refl
  where
    five : rt * Ub ≤ 5 * (ru * Uj)
    five = fivefold Ub Uj rt ru hr
