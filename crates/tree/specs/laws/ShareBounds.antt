-- WHOLE BOUNDS OF A SHARE from the calculation in f64: of a machine's share at the queried bus, in steps of 1/4,096 A, and at its terminals, in
-- steps of 1/40,960 of its rated current.
-- Assumes nothing.
use Rattle.std.specs.Prelude.{ℕ, ◌+◌, ◌*◌, ◌^◌, ◌≤◌, ◌<◌, ◌≡◌, refl, false, cond, [], ◌∷◌, ltb, Float}
use Rattle.std.proofs.Common.{sym, inr, arith, le_trans, le_of_eq, mul-le-mul, mul-pos, lit≤, lt-ltb, le-ltb}
use Rattle.std.proofs.Math.Nat.{le_refl}
use Rattle.std.specs.Float.{binary64}
use Rattle.std.specs.Float.Ieee.{mul}
use Rattle.algebra.specs.Polynomial.{two_sq}
use Rattle.algebra.specs.Reading.{from, from_over, read, ◌⊹◌, ◌⋆◌}
use Rattle.enclosure.specs.Exact.{Point, is_nothing, norm}
use Rattle.enclosure.specs.Fraction.{Fraction, whole, product, quotient, size_square}
use Rattle.enclosure.specs.Doubles.{nought, ratio, square, unity, floored, under_root}
use Rattle.enclosure.specs.declared.Complex.{Complex}
use Rattle.enclosure.specs.laws.Nearness.{Near}
use Rattle.enclosure.specs.laws.Root.{root_le}
use Rattle.enclosure.specs.laws.Units.{span, Between, between_more}
use Rattle.enclosure.specs.laws.StepErrors.{parts}
use Rattle.enclosure.specs.laws.F64Errors.{value, size, Fine}
use Rattle.enclosure.specs.laws.Scalar.{About, Reached, Span, span_product, about_span, about_times, about_floored, about_more, about_ratio, about_square, about_squared, about_unity}
use Rattle.enclosure.specs.laws.RootBounds.{RootHolds, reached_bounds}
use Rattle.tree.specs.Limits.{way_branches, covered_buses, most_parts}
use Rattle.tree.specs.Grid.{Grid, parent_of, Treelike}
use Rattle.tree.specs.Shares.{ratios, share_square, terminal_square}
use Rattle.tree.specs.Ways.{over_way, ratio_up, ratio_down, ratios_by, dividers_by, drive_by, strength_by, share_steps, rated_steps}
use Rattle.tree.specs.laws.Equations.{◌⊛◌}
use Rattle.tree.specs.laws.Toward.{depth, depth_more}
use Rattle.tree.specs.laws.FeederReaches.{Proper}
use Rattle.tree.specs.laws.TreeBounds.{Sound, Levels, Plain, sound_proper}
use Rattle.tree.specs.laws.Shares.{Equal, fourth, between_held, branches_between, dividers, share_square_law, share_proper, terminal_square_law, terminal_proper}
use Rattle.tree.specs.laws.Ratios.{Crossed, Levelled, levelled_up, levelled_down, levelled_more}
use Rattle.tree.specs.laws.Dividers.{seen_above, seen_below, dividers_reached, volts_ratio, near_between}

-- ---- what stands before the dividers under the root, exactly: 2 ^ 24·(c·Un)²/3·|y|²·ρ⁴ for a share, v being c·Un in hundredths of a volt
abbrev pub factor : ℕ → Point → Fraction → Fraction
factor v y ρ = record {
  top = v * v * 16777216 * norm y.re y.im * (ρ.top * ρ.top * (ρ.top * ρ.top));
  under = 30000 * (y.den * y.den) * (ρ.under * ρ.under * (ρ.under * ρ.under));
}

-- and for one at the terminals, over the rated current
abbrev pub rated_factor : ℕ → Point → Fraction → ℕ → ℕ → Fraction
rated_factor v y ρ volts kva = record {
  top = v * v * 16777216 * norm y.re y.im * (ρ.top * volts * (ρ.top * volts)) * 3;
  under = 30000 * (y.den * y.den) * (ρ.under * (100 * kva) * (ρ.under * (100 * kva)));
}

-- the same in f64, k being the strength and r the ratios
abbrev factor_by : Float → Float → Float
factor_by k r = mul binary64 k (mul binary64 (mul binary64 r r) (mul binary64 r r))

abbrev rated_factor_by : Float → Float → ℕ → ℕ → Float
rated_factor_by k r volts kva = mul binary64 (mul binary64 k (mul binary64 (mul binary64 r (ratio volts (100 * kva))) (mul binary64 r (ratio volts (100 * kva))))) (ratio 3 1)

-- ---- the ratios in f64. Exactly they lie between 2 ^ -30 and 2 ^ 30, one of a branch between 2 ^ -20 and 2 ^ 20
level_span : (k u w a c : ℕ) → 0 < u → w ≤ 2 ^ 19 → 9 ^ 36 * (a * u) ≤ 11 ^ 36 * (c * w) → a ≤ 2 ^ 30 * c
level_span k u w a c z l h = from_over (u ∷ w ∷ a ∷ c ∷ []) (9 ^ 36) (lit≤ tt) (9 ^ 36 * a ⋆ z ⊹ h ⊹ 11 ^ 36 * c ⋆ l) (search read depth 40 fits 20000) refl

module _ (G : Grid) (U : ℕ → ℕ) (sound : Sound G) (levels : Levels G U) where
  crossed : Crossed G U (λ i. 1) (depth (parent_of G))
  crossed = record { above = levels.above; below = levels.below; counts = λ i z l. omega (arith, depth_more (parent_of G) i (sound.tree i z l)) }

  levelled_span : (k b j : ℕ) (x : Fraction) → b < G.count → j < G.count → k ≤ way_branches → Levelled k (U b) (U j) x → Span (2 ^ 30) x
  levelled_span k b j x lb lj l r =
      let g = levelled_more G U (λ i. 1) (depth (parent_of G)) sound.tree crossed k way_branches (U b) (U j) x l r in
      let n = levels.nominal b lb in
      let m = levels.nominal j lj in
      (level_span k (U j) (U b) x.under x.top m.0 n.1 g.1, level_span k (U b) (U j) x.top x.under n.0 m.1 g.0)

  ratio_span : (i : ℕ) → 0 < i → i < G.count → Span (2 ^ 20) (record { top = (G.branch i).above; under = (G.branch i).below })
  ratio_span i z li =
      let t = sound.tree i z li in
      let u = levels.nominal i li in
      let w = levels.nominal (parent_of G i) (omega arith) in
      (volts_ratio _ _ _ _ w.0 u.1 (levels.below i z li), volts_ratio _ _ _ _ u.0 w.1 (levels.above i z li))

  about_up : (i : ℕ) → 0 < i → i < G.count → About 1 (record { top = (G.branch i).above; under = (G.branch i).below }) (ratio (G.branch i).above (G.branch i).below)
  about_up i z li = let v = sound.volts i z li in about_ratio _ _ v.0.0 v.1.0 (omega (arith, v.0.1)) (omega (arith, v.1.1))

  about_down : (i : ℕ) → 0 < i → i < G.count → About 1 (record { top = (G.branch i).below; under = (G.branch i).above }) (ratio (G.branch i).below (G.branch i).above)
  about_down i z li = let v = sound.volts i z li in about_ratio _ _ v.1.0 v.0.0 (omega (arith, v.1.1)) (omega (arith, v.0.1))

  abbrev Carried : ℕ → ℕ → ℕ → Fraction → Float → Type 0
  Carried k b j x v = Levelled k (U b) (U j) x × (k ≤ way_branches → About (4 * k) x v)

  -- THE RATIOS OF A WAY have 4 parts for each branch; a floor of 0.0 does nothing to them
  ratios_carried : (b j : ℕ) → b < G.count → j < G.count → Carried (depth (parent_of G) b + depth (parent_of G) j) b j (ratios G b j) (ratios_by G b j)
  unfolding over_way
  ratios_carried b j lb lj =
      rw (branches_between (parent_of G) G.count sound.tree (Rattle.tree.specs.Shares.ratio G) b j lb lj)
      (between_held (parent_of G) G.count sound.tree (depth (parent_of G)) (λ i. 1) crossed.counts Carried
      (λ j k b c x v l r. (levelled_more G U (λ i. 1) (depth (parent_of G)) sound.tree crossed j k (U b) (U c) x l r.0, λ n. about_more (4 * j) (4 * k) x v (omega arith) (r.1 (omega arith))))
      (λ b c x. product x (Rattle.tree.specs.Shares.ratio G b c)) (λ b c v. floored nought v (cond (ltb c b) (ratio_up G b) (ratio_down G c))) (whole 1) unity (λ b l. ((le_refl _, le_refl _), λ n. about_unity 0))
      (λ k i j x v z li lj r.
      let t = sound.tree i z li in (
        levelled_up G U (λ i. 1) (depth (parent_of G)) sound.tree crossed k i j x z li r.0,
        λ n.
            rw (lt-ltb (parent_of G i) i t)
            (about_more (4 * k + 1 + 3) (4 * (1 + k)) _ _ (omega arith)
            (about_floored (4 * k) 1 (2 ^ 30) (2 ^ 20) x _ v _ (omega arith) (lit≤ tt) (lit≤ tt) (levelled_span k (parent_of G i) j x (omega arith) lj (omega arith) r.0) (ratio_span i z li) (r.1 (omega arith)) (about_up i z li))),
      ))
      (λ k b i x v z lb li r.
      let t = sound.tree i z li in
      let s = ratio_span i z li in (
        levelled_down G U (λ i. 1) (depth (parent_of G)) sound.tree crossed k b i x z li r.0,
        λ n.
            rw (le-ltb i (parent_of G i) (omega arith))
            (about_more (4 * k + 1 + 3) (4 * (1 + k)) _ _ (omega arith)
            (about_floored (4 * k) 1 (2 ^ 30) (2 ^ 20) x _ v _ (omega arith) (lit≤ tt) (lit≤ tt) (levelled_span k b (parent_of G i) x lb (omega arith) (omega arith) r.0) (s.1, s.0) (r.1 (omega arith)) (about_down i z li))),
      )) b j lb lj)

  pub ratios_about : (b j : ℕ) → b < G.count → j < G.count → About 144 (ratios G b j) (ratios_by G b j) × Span (2 ^ 30) (ratios G b j)
  ratios_about b j lb lj =
      let r = ratios_carried b j lb lj in
      let d = sound.shallow b lb in
      let e = sound.shallow j lj in
      (about_more (4 * (depth (parent_of G) b + depth (parent_of G) j)) 144 _ _ (omega arith) (r.1 (omega arith)), levelled_span _ b j (ratios G b j) lb lj (omega arith) r.0)

-- ---- the factors in f64
square_span : (E : ℕ) (y : Point) → y.den ≤ E * (y.re + y.im) → y.re + y.im ≤ E * y.den → Span (2 * (E * E)) (size_square y)
square_span E y lo hi = (
  from (E ∷ y.re ∷ y.im ∷ y.den ∷ []) (mul-le-mul lo lo ⊹ E * E ⋆ two_sq y.re y.im) (search read depth 40 fits 20000) refl,
  from (E ∷ y.re ∷ y.im ∷ y.den ∷ []) (mul-le-mul hi hi) (search read depth 40 fits 20000) refl,
)

module _ (v : ℕ) (y : Point) (y' : Complex) (ρ : Fraction) (r : Float) (v₀ : 0 < v) (v₁ : v * v ≤ 2 ^ 53) (hy : About 3 (size_square y) (square y')) (sy : Span (2 ^ 217) (size_square y))
    (hr : About 144 ρ r) (sr : Span (2 ^ 30) ρ) where
  -- the strength, 2 ^ 24·(c·Un)²/3·|y|²
  abbrev strength : Fraction
  strength = product (product (whole (v * v)) (record { top = 16777216; under = 30000 })) (size_square y)

  volts_span : Span (2 ^ 53) (whole (v * v))
  volts_span = (from (v ∷ []) (2 ^ 53 ⋆ mul-pos v₀ v₀) (search read depth 40 fits 20000) refl, le_trans v₁ (lit≤ tt))

  steps_span : Span (2 ^ 24) (record { top = 16777216; under = 30000 })
  steps_span = (lit≤ tt, lit≤ tt)

  strength_span : Span (2 ^ 53 * 2 ^ 24 * 2 ^ 217) strength
  strength_span = span_product (2 ^ 53 * 2 ^ 24) (2 ^ 217) _ _ (span_product (2 ^ 53) (2 ^ 24) _ _ volts_span steps_span) sy

  volts_small : v ≤ 2 ^ 53
  volts_small = le_trans (from (v ∷ []) (v ⋆ v₀) (search read depth 40 fits 20000) refl) v₁

  strength_about : About 11 strength (strength_by (drive_by v) y')
  unfolding strength_by drive_by
  strength_about =
      about_times 5 3 (2 ^ 53 * 2 ^ 24) (2 ^ 217) _ _ _ _ (omega arith) (lit≤ tt) (lit≤ tt) (span_product (2 ^ 53) (2 ^ 24) _ _ volts_span steps_span) sy
      (about_times 1 1 (2 ^ 53) (2 ^ 24) _ _ _ _ (omega arith) (lit≤ tt) (lit≤ tt) volts_span steps_span
      (about_squared v v₀ volts_small) (about_ratio 16777216 30000 (omega arith) (omega arith) (lit≤ tt) (lit≤ tt))) hy

  fourth_span : Span (2 ^ 30 * 2 ^ 30 * (2 ^ 30 * 2 ^ 30)) (fourth ρ)
  fourth_span = span_product (2 ^ 30 * 2 ^ 30) (2 ^ 30 * 2 ^ 30) _ _ (span_product (2 ^ 30) (2 ^ 30) ρ ρ sr sr) (span_product (2 ^ 30) (2 ^ 30) ρ ρ sr sr)

  factor_span : Span (2 ^ 53 * 2 ^ 24 * 2 ^ 217 * (2 ^ 30 * 2 ^ 30 * (2 ^ 30 * 2 ^ 30))) (factor v y ρ)
  factor_span = span_product (2 ^ 53 * 2 ^ 24 * 2 ^ 217) _ strength (fourth ρ) strength_span fourth_span

  factor_about : About 599 (factor v y ρ) (factor_by (strength_by (drive_by v) y') r)
  factor_about =
      about_times 11 585 (2 ^ 53 * 2 ^ 24 * 2 ^ 217) (2 ^ 30 * 2 ^ 30 * (2 ^ 30 * 2 ^ 30)) strength (fourth ρ) _ _ (omega arith) (lit≤ tt) (lit≤ tt) strength_span fourth_span strength_about
      (about_times 291 291 (2 ^ 30 * 2 ^ 30) (2 ^ 30 * 2 ^ 30) _ _ _ _ (omega arith) (lit≤ tt) (lit≤ tt) (span_product (2 ^ 30) (2 ^ 30) ρ ρ sr sr) (span_product (2 ^ 30) (2 ^ 30) ρ ρ sr sr) twice twice)
    where
      twice : About 291 (product ρ ρ) (mul binary64 r r)
      twice = about_times 144 144 (2 ^ 30) (2 ^ 30) ρ ρ r r (omega arith) (lit≤ tt) (lit≤ tt) sr sr hr hr

  module _ (volts kva : ℕ) (a₀ : 0 < volts) (a₁ : volts ≤ 2 ^ 53) (s₀ : 0 < kva) (s₁ : 100 * kva ≤ 2 ^ 53) where
    -- ρ·volts/(100·kva)
    abbrev turns : Fraction
    turns = product ρ (record { top = volts; under = 100 * kva })

    hundred : 0 < 100 * kva
    hundred = omega arith

    rated_span : Span (2 ^ 53) (record { top = volts; under = 100 * kva })
    rated_span = (
      from (volts ∷ kva ∷ []) (s₁ ⊹ 2 ^ 53 ⋆ a₀) (search read depth 40 fits 20000) refl,
      from (volts ∷ kva ∷ []) (a₁ ⊹ 2 ^ 53 ⋆ hundred) (search read depth 40 fits 20000) refl,
    )

    turns_span : Span (2 ^ 30 * 2 ^ 53) turns
    turns_span = span_product (2 ^ 30) (2 ^ 53) ρ _ sr rated_span

    turns_about : About 148 turns (mul binary64 r (ratio volts (100 * kva)))
    turns_about = about_times 144 1 (2 ^ 30) (2 ^ 53) ρ _ r _ (omega arith) (lit≤ tt) (lit≤ tt) sr rated_span hr (about_ratio volts (100 * kva) a₀ hundred a₁ s₁)

    abbrev squares : ℕ
    squares = 2 ^ 30 * 2 ^ 53 * (2 ^ 30 * 2 ^ 53)

    squares_span : Span squares (product turns turns)
    squares_span = span_product (2 ^ 30 * 2 ^ 53) (2 ^ 30 * 2 ^ 53) turns turns turns_span turns_span

    fed_about : About 313 (product strength (product turns turns))
        (mul binary64 (strength_by (drive_by v) y') (mul binary64 (mul binary64 r (ratio volts (100 * kva))) (mul binary64 r (ratio volts (100 * kva)))))
    fed_about =
        about_times 11 299 (2 ^ 53 * 2 ^ 24 * 2 ^ 217) squares strength (product turns turns) _ _ (omega arith) (lit≤ tt) (lit≤ tt) strength_span squares_span strength_about
        (about_times 148 148 (2 ^ 30 * 2 ^ 53) (2 ^ 30 * 2 ^ 53) turns turns _ _ (omega arith) (lit≤ tt) (lit≤ tt) turns_span turns_span turns_about turns_about)

    three_span : Span 3 (whole 3)
    three_span = (lit≤ tt, lit≤ tt)

    by_unit : (δ a c : ℕ) (x : Float) → About δ (record { top = a; under = c * 1 }) x → About δ (record { top = a; under = c }) x
    by_unit δ a c x h = let e : c * 1 ≡ c = omega arith in rw e at h

    span_unit : (E a c : ℕ) → Span E (record { top = a; under = c * 1 }) → Span E (record { top = a; under = c })
    span_unit E a c h = let e : c * 1 ≡ c = omega arith in rw e at h

    rated_factor_span : Span (2 ^ 53 * 2 ^ 24 * 2 ^ 217 * squares * 3) (rated_factor v y ρ volts kva)
    rated_factor_span =
        span_unit _ _ _ (span_product (2 ^ 53 * 2 ^ 24 * 2 ^ 217 * squares) 3 _ (whole 3) (span_product (2 ^ 53 * 2 ^ 24 * 2 ^ 217) squares strength (product turns turns) strength_span squares_span) three_span)

    rated_factor_about : About 317 (rated_factor v y ρ volts kva) (rated_factor_by (strength_by (drive_by v) y') r volts kva)
    rated_factor_about =
        by_unit 317 _ _ _
        (about_times 313 1 (2 ^ 53 * 2 ^ 24 * 2 ^ 217 * squares) 3 _ (whole 3) _ _ (omega arith) (lit≤ tt) (lit≤ tt)
        (span_product (2 ^ 53 * 2 ^ 24 * 2 ^ 217) squares strength (product turns turns) strength_span squares_span) three_span fed_about
        (about_ratio 3 1 (omega arith) (omega arith) (lit≤ tt) (lit≤ tt)))

by_one : (s m : ℕ) → s ≤ m → s * 1 ≤ m
by_one s m h = omega arith

narrow : 2 ^ 108 * 2 ≤ span
unfolding span
narrow = lit≤ tt

-- ---- what bounds the root of a/c bounds that of an equal fraction, here m times S
holds_same : (a c r m : ℕ) (S : Fraction) → 0 < c → m * S.top * c ≡ a * S.under → RootHolds a c r → RootHolds (m * S.top) S.under r
holds_same a c r m S z e h = record {
  above = from_over (a ∷ c ∷ r ∷ m ∷ S.top ∷ S.under ∷ []) c z (S.under ⋆ h.above ⊹ le_of_eq e) (search read depth 40 fits 20000) refl;
  under = from_over (a ∷ c ∷ under_root r ∷ m ∷ S.top ∷ S.under ∷ []) c z (S.under ⋆ h.under ⊹ le_of_eq (sym e)) (search read depth 40 fits 20000) refl;
}

-- a root of at most 2 ^ 50 is found in fewer than 2 ^ 51 steps
few_steps : (a c r : ℕ) → 0 < c → a ≤ 2 ^ 100 * c → RootHolds a c r → r + 1 ≤ 2 ^ 51
few_steps a c r z l h =
    let m : under_root r ≤ 2 ^ 50 =
    root_le (under_root r) (2 ^ 50) (from_over (a ∷ c ∷ under_root r ∷ []) c z (h.under ⊹ l) (search read depth 40 fits 20000) refl) in
    omega (arith, m)

-- the share at the terminals over the rated current, 1000·kva/(√3·volts), both squared
abbrev pub rated_square : Grid → ℕ → Point → ℕ → ℕ → ℕ → ℕ → Fraction
rated_square G v y b j volts kva = quotient (terminal_square G v y b j) (record { top = 1000000 * (kva * kva); under = 3 * (volts * volts) })

pub rated_proper : (G : Grid) → Treelike G → Proper G → (v : ℕ) (y : Point) (b j volts kva : ℕ) → 0 < y.den → b < G.count → j < G.count → 0 < (G.own j).im → 0 < kva
    → 0 < (rated_square G v y b j volts kva).under
rated_proper G tree proper v y b j volts kva z lb lj m k = mul-pos (terminal_proper G tree proper v y b j z lb lj m) (mul-pos (lit≤ tt) (mul-pos k k))

module _ (G : Grid) (U : ℕ → ℕ) (sound : Sound G) (levels : Levels G U) (plain : Plain G) (few : G.count ≤ covered_buses) (z' own' : ℕ → Complex) (kₑ : ℕ) (l : kₑ ≤ most_parts)
    (near-z : (i : ℕ) → 0 < i → i < G.count → Near parts kₑ (G.branch i).z (value (z' i)) × Fine (z' i))
    (near-own : (b : ℕ) → b < G.count → Near parts kₑ (G.own b) (value (own' b)) × Fine (own' b)) where
  module _ (v : ℕ) (v₀ : 0 < v) (v₁ : v * v ≤ 2 ^ 53) (k : ℕ) (y : Point) (y' : Complex) (k₁ : k ≤ 1000000) (near-y : Near parts k y (value y')) (fine-y : Fine y')
      (some-y : is_nothing y ≡ false) (range-y : (y.den ≤ 2 ^ 108 * (y.re + y.im)) × (y.re + y.im ≤ 2 ^ 108 * y.den))
      (b j : ℕ) (lb : b < G.count) (lj : j < G.count) (m : 0 < (G.own j).im) where
    size_y : Between span (size y')
    size_y = between_more (2 ^ 108 * 2) span (size y') narrow (near_between (2 ^ 108) k y y' (omega arith) near-y some-y (inr range-y.0, by_one _ _ range-y.1))

    about_y : About 3 (size_square y) (square y')
    about_y = about_square k y y' k₁ near-y fine-y size_y.0 size_y.1

    span_y : Span (2 ^ 217) (size_square y)
    span_y = square_span (2 ^ 108) y range-y.0 range-y.1

    carried : About 144 (ratios G b j) (ratios_by G b j) × Span (2 ^ 30) (ratios G b j)
    carried = ratios_about G U sound levels b j lb lj

    reached : Reached 432 (dividers G b j) (dividers_by G z' (seen_above z' own' G) (seen_below z' own' G) b j)
    reached = dividers_reached G U sound levels plain few z' own' kₑ l near-z near-own b j lb lj

    about_factor : About 599 (factor v y (ratios G b j)) (factor_by (strength_by (drive_by v) y') (ratios_by G b j))
    about_factor = factor_about v y y' (ratios G b j) (ratios_by G b j) v₀ v₁ about_y span_y carried.0 carried.1

    equal : 16777216 * (share_square G v y b j).top * ((factor v y (ratios G b j)).under * (dividers G b j).under) ≡ (factor v y (ratios G b j)).top * (dividers G b j).top * (share_square G v y b j).under
    equal =
        put (v * v) (size_square y) (dividers G b j) (ratios G b j) (share_square G v y b j)
        (share_square_law G sound.tree (sound_proper G sound plain) v y b j lb lj m)
      where
        put : (w : ℕ) (Y D R S : Fraction) → Equal S (product (record { top = w; under = 30000 }) (product Y (product D (fourth R))))
            → 16777216 * S.top * (30000 * Y.under * (fourth R).under * D.under) ≡ w * 16777216 * Y.top * (fourth R).top * D.top * S.under
        put w Y D R S e =
            Rattle.tree.specs.laws.Equations.equal (w ∷ Y.top ∷ Y.under ∷ D.top ∷ D.under ∷ R.top ∷ R.under ∷ S.top ∷ S.under ∷ []) (16777216 ⊛ e) (search read depth 40 fits 20000) refl

    -- THE SHARE LIES BETWEEN `under_root r` AND r + 1, in steps of 1/4,096 A
    pub share_bounds : (factor v y (ratios G b j)).top ≤ 2 ^ 100 * (factor v y (ratios G b j)).under
        → RootHolds (16777216 * (share_square G v y b j).top) (share_square G v y b j).under
        (share_steps (strength_by (drive_by v) y') (ratios_by G b j) (dividers_by G z' (seen_above z' own' G) (seen_below z' own' G) b j))
    unfolding share_steps
    share_bounds small =
        holds_same _ _ _ 16777216 (share_square G v y b j) (mul-pos about_factor.proper reached.proper) equal
        (reached_bounds 432 599 (factor v y (ratios G b j)) (dividers G b j) _ _ (omega arith) about_factor reached
        (le_trans (about_span 599 _ (factor v y (ratios G b j)) _ (omega arith) (factor_span v y y' (ratios G b j) (ratios_by G b j) v₀ v₁ about_y span_y carried.0 carried.1) about_factor).0
        (mul-le-mul (le_refl _) (lit≤ tt))) small)

    -- as no divider is above 1, the share's square is at most what stands before the dividers, so that its steps stay below 2 ^ 51
    pub share_few : (factor v y (ratios G b j)).top ≤ 2 ^ 100 * (factor v y (ratios G b j)).under
        → share_steps (strength_by (drive_by v) y') (ratios_by G b j) (dividers_by G z' (seen_above z' own' G) (seen_below z' own' G) b j) + 1 ≤ 2 ^ 51
    share_few small =
        few_steps _ (share_square G v y b j).under _ (share_proper G sound.tree (sound_proper G sound plain) v y b j near-y.left lb lj m)
        (put (factor v y (ratios G b j)) (dividers G b j) (share_square G v y b j) (mul-pos about_factor.proper reached.proper) equal small reached.most) (share_bounds small)
      where
        put : (F D S : Fraction) → 0 < F.under * D.under → 16777216 * S.top * (F.under * D.under) ≡ F.top * D.top * S.under → F.top ≤ 2 ^ 100 * F.under → D.top ≤ D.under
            → 16777216 * S.top ≤ 2 ^ 100 * S.under
        put F D S z e p q =
            from_over (F.top ∷ F.under ∷ D.top ∷ D.under ∷ S.top ∷ S.under ∷ []) (F.under * D.under) z (le_of_eq e ⊹ S.under ⋆ mul-le-mul p q) (search read depth 40 fits 20000) refl

    module _ (volts kva : ℕ) (a₀ : 0 < volts) (a₁ : volts ≤ 2 ^ 53) (s₀ : 0 < kva) (s₁ : 100 * kva ≤ 2 ^ 53) where
      about_rated : About 317 (rated_factor v y (ratios G b j) volts kva) (rated_factor_by (strength_by (drive_by v) y') (ratios_by G b j) volts kva)
      about_rated = rated_factor_about v y y' (ratios G b j) (ratios_by G b j) v₀ v₁ about_y span_y carried.0 carried.1 volts kva a₀ a₁ s₀ s₁

      equal_rated : 1677721600 * (rated_square G v y b j volts kva).top * ((rated_factor v y (ratios G b j) volts kva).under * (dividers G b j).under)
          ≡ (rated_factor v y (ratios G b j) volts kva).top * (dividers G b j).top * (rated_square G v y b j volts kva).under
      equal_rated =
          put (v * v) volts kva (size_square y) (dividers G b j) (ratios G b j) (terminal_square G v y b j)
          (terminal_square_law G sound.tree (sound_proper G sound plain) v y b j lb lj m)
        where
          put : (w a s : ℕ) (Y D R S : Fraction) → Equal S (product (record { top = w; under = 30000 }) (product Y (product D (product R R))))
              → 1677721600 * (S.top * (3 * (a * a))) * (30000 * Y.under * (R.under * (100 * s) * (R.under * (100 * s))) * D.under)
              ≡ w * 16777216 * Y.top * (R.top * a * (R.top * a)) * 3 * D.top * (S.under * (1000000 * (s * s)))
          put w a s Y D R S e =
              Rattle.tree.specs.laws.Equations.equal (w ∷ a ∷ s ∷ Y.top ∷ Y.under ∷ D.top ∷ D.under ∷ R.top ∷ R.under ∷ S.top ∷ S.under ∷ [])
              (16777216 * 3 * 1000000 * (a * a * (s * s)) ⊛ e) (search read depth 40 fits 20000) refl

      -- THE SHARE AT THE TERMINALS OVER THE RATED CURRENT LIES BETWEEN `under_root r` AND r + 1, in steps of 1/40,960
      pub terminal_bounds : (rated_factor v y (ratios G b j) volts kva).top ≤ 2 ^ 100 * (rated_factor v y (ratios G b j) volts kva).under
          → RootHolds (1677721600 * (rated_square G v y b j volts kva).top) (rated_square G v y b j volts kva).under
          (rated_steps (strength_by (drive_by v) y') (ratios_by G b j) (dividers_by G z' (seen_above z' own' G) (seen_below z' own' G) b j) volts kva)
      unfolding rated_steps
      terminal_bounds small =
          holds_same _ _ _ 1677721600 (rated_square G v y b j volts kva) (mul-pos about_rated.proper reached.proper) equal_rated
          (reached_bounds 432 317 (rated_factor v y (ratios G b j) volts kva) (dividers G b j) _ _ (omega arith) about_rated reached
          (le_trans
          (about_span 317 _ (rated_factor v y (ratios G b j) volts kva) _ (omega arith)
          (rated_factor_span v y y' (ratios G b j) (ratios_by G b j) v₀ v₁ about_y span_y carried.0 carried.1 volts kva a₀ a₁ s₀ s₁) about_rated).0
          (mul-le-mul (le_refl _) (lit≤ tt))) small)
