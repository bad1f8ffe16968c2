-- How a current divides over a way: the product of the dividers in f64 is near the exact one, or both are too faint to matter.
-- Assumes nothing.
use Rattle.std.specs.Prelude.{◌≡◌, Bool, cond, [], ◌∷◌, ltb, ℕ, zero, suc, ◌+◌, ◌*◌, ◌^◌, ◌≤◌, ◌<◌}
use Rattle.std.proofs.Common.{inl, inr, ⊎_elim, arith, le_refl, le_trans, mul-le-mul, mul-pos, mul_comm, lit≤, ne_eqb}
use Rattle.std.proofs.Math.Path.{refl}
use Rattle.std.proofs.Math.Bool.{true, false}
use Rattle.std.proofs.lemmas.Bool.{eqb-false}
use Rattle.std.specs.Float.Ieee.{binary64, div}
use Rattle.algebra.specs.Polynomial.{two_sq}
use Rattle.algebra.specs.Reading.{from, from_over, read, ◌⊹◌, ◌⋆◌}
use Rattle.enclosure.specs.Exact.{Point, nothing, is_nothing, exact, sum, times, inverse, norm}
use Rattle.enclosure.specs.laws.Close.{Within}
use Rattle.enclosure.specs.laws.Nearness.{Near, NearTo, Rules, near_more, norm_pos}
use Rattle.enclosure.specs.declared.Complex.{Complex}
use Rattle.enclosure.specs.laws.Units.{unit, most, span, unit_pos, Between, between_more, units_of}
use Rattle.enclosure.specs.laws.StepErrors.{parts}
use Rattle.enclosure.specs.Doubles.{doubles, empty, added, inverted, square, unity, faintest, floored}
use Rattle.enclosure.specs.laws.F64Errors.{value, size, Fine, near_square}
use Rattle.enclosure.specs.laws.F64Range.{Good, Factor, f64_rules, near_size}
use Rattle.enclosure.specs.Fraction.{whole, product, quotient, size_square}
use Rattle.enclosure.specs.laws.Scalar.{grain, About, about_square, about_div, about_unity, Reached, reached_more, reached_start, reached_step}
use Rattle.tree.specs.Limits.{walk_steps, way_branches, covered_buses, most_parts, seen_parts}
use Rattle.tree.specs.Grid.{joined, Grid, parent_of, times_square, seen_by, seen}
use Rattle.tree.specs.Ways.{over_way, divider_by, divider_up, divider_down, dividers_by}
use Rattle.tree.specs.laws.Walk.{to_parent, to_child}
use Rattle.tree.specs.laws.Toward.{depth}
use Rattle.tree.specs.laws.AdmittanceSizes.{AtMost, Low, low_sum, most_sum, low_inverse, inverse_low, low_more, most_more}
use Rattle.tree.specs.laws.Accuracy.{accurate_more, accurate_good}
use Rattle.tree.specs.laws.SeenErrors.{seen_low, seen_high, seen_near}
use Rattle.tree.specs.laws.TreeBounds.{Sound, Levels, Plain}
use Rattle.tree.specs.laws.Shares.{between_related, divider_of, divider_most, crossing, behind, divider, dividers}

-- ---- what the walk sees in f64 at the parent of bus i without i, and at i without its parent
abbrev pub seen_above : (ℕ → Complex) → (ℕ → Complex) → Grid → ℕ → Complex
seen_above z own G i = seen_by doubles z own G walk_steps (parent_of G i) i

abbrev pub seen_below : (ℕ → Complex) → (ℕ → Complex) → Grid → ℕ → Complex
seen_below z own G i = seen_by doubles z own G walk_steps i (parent_of G i)

-- ---- a divider over plain numbers: N/P is the exact quotient of two squares, s/t the one in f64; u of the smallest are 1, and the sizes lie
-- between 1/E and E
module _ (N P s t u E : ℕ) (u₀ : 0 < u) (E₀ : 0 < E) (hN : u * u ≤ 2 * (N * (E * E))) (hP : P ≤ u * u * (E * E)) (hs : N ≤ 2 * (s * u)) (ht : t * u ≤ 2 * P) where
  quotient_low : 8 * grain * (E * E * (E * E)) ≤ u → grain * t ≤ s * u
  quotient_low l =
      from_over (N ∷ P ∷ s ∷ t ∷ u ∷ E ∷ []) (4 * (E * E) * u) (mul-pos (mul-pos (omega arith) (mul-pos E₀ E₀)) u₀)
      (4 * (E * E) * grain ⋆ ht ⊹ 8 * (E * E) * grain ⋆ hP ⊹ u * u ⋆ l ⊹ u ⋆ hN ⊹ 2 * (E * E) * u ⋆ hs) (search read depth 40 fits 20000) refl

quotient_high : (N P s t u E m : ℕ) → 0 < u → 0 < E → u * u ≤ 2 * (P * (E * E)) → N ≤ u * u * (E * E) → s * u ≤ 2 * N → P ≤ 2 * (t * u) → 8 * (E * E * (E * E)) ≤ m → s ≤ t * m
quotient_high N P s t u E m u₀ E₀ hP hN hs ht l =
    from_over (N ∷ P ∷ s ∷ t ∷ u ∷ E ∷ m ∷ []) u u₀
    (hs ⊹ 2 ⋆ hN ⊹ 2 * (E * E) ⋆ hP ⊹ 4 * (E * E * (E * E)) ⋆ ht ⊹ t * u ⋆ l) (search read depth 40 fits 20000) refl

norm_least : (a b u E : ℕ) → u ≤ (a + b) * E → u * u ≤ 2 * (norm a b * (E * E))
norm_least a b u E h = from (a ∷ b ∷ u ∷ E ∷ []) (mul-le-mul h h ⊹ E * E ⋆ two_sq a b) (search read depth 40 fits 20000) refl

norm_most : (a b u E : ℕ) → a + b ≤ u * E → norm a b ≤ u * u * (E * E)
norm_most a b u E h = from (a ∷ b ∷ u ∷ E ∷ []) (mul-le-mul h h) (search read depth 40 fits 20000) refl

twofold : (N n : ℕ) → Within parts 3 0 N n → (N ≤ 2 * n) × (n ≤ 2 * N)
twofold N n h = (omega (arith, h.1), omega (arith, h.0))

-- every size of a way in f64 lies between 1/E and E
abbrev E : ℕ
E = 2 ^ 242

range_unit : 8 * grain * (E * E * (E * E)) ≤ unit
unfolding unit
range_unit = lit≤ tt

range_most : 8 * (E * E * (E * E)) ≤ most
unfolding most
range_most = lit≤ tt

range_span : E ≤ span
unfolding span
range_span = lit≤ tt

-- ONE DIVIDER has 9 parts: 3 for each square and 3 for the quotient
module _ (k : ℕ) (z x : Point) (z' x' : Complex) (l : k ≤ 1000000) (near-x : Near parts k x (value x')) (fine-x : Fine x')
    (near-s : Near parts k (sum z x) (value (added z' x'))) (fine-s : Fine (added z' x')) (same : is_nothing x ≡ empty x')
    (some-s : is_nothing x ≡ false → is_nothing (sum z x) ≡ false)
    (range-x : is_nothing x ≡ false → Between E (size x')) (range-s : is_nothing x ≡ false → Between E (size (added z' x'))) where
  square_of : (y : Complex) → Fine y → Between E (size y) → Within parts 3 0 (norm (units_of y.re) (units_of y.im)) (units_of (square y) * unit)
  square_of y f r = let t = between_more E span (size y) range_span r in near_square y f t.0 t.1

  about : (y : Point) (y' : Complex) → Near parts k y (value y') → Fine y' → Between E (size y') → About 3 (size_square y) (square y')
  about y y' n f r = let t = between_more E span (size y') range_span r in about_square k y y' l n f t.0 t.1

  some_units : (n u N m : ℕ) → 0 < u → u * u ≤ 2 * (N * (m * m)) → N ≤ 2 * (n * u) → 0 < n
  some_units zero u N m z h g = absurd (none u N m z h (omega arith))
    where
      none : (u N m : ℕ) → 0 < u → u * u ≤ 2 * (N * (m * m)) → N ≡ 0 → ⊥
      none zero N m z h e = elim z [ ]
      none (suc u) N m z h e = omega (arith, rw e at h)
  some_units (suc n) u N m z h g = omega arith

  pub divider_about : About 9 (divider_of z x) (divider_by z' x')
  unfolding divider_of divider_by
  divider_about = rw (← same) (go (is_nothing x) refl)
    where
      go : (s : Bool) → is_nothing x ≡ s → About 9 (cond s (whole 1) (quotient (size_square x) (size_square (sum z x)))) (cond s unity (div binary64 (square x') (square (added z' x'))))
      go true e = about_unity 9
      go false e =
          let rx = range-x e in
          let rs = range-s e in
          let x₁ = norm_least (units_of x'.re) (units_of x'.im) unit E rx.0 in
          let x₂ = norm_most (units_of x'.re) (units_of x'.im) unit E rx.1 in
          let s₁ = norm_least (units_of (added z' x').re) (units_of (added z' x').im) unit E rs.0 in
          let s₂ = norm_most (units_of (added z' x').re) (units_of (added z' x').im) unit E rs.1 in
          let x₃ = twofold _ _ (square_of x' fine-x rx) in
          let s₃ = twofold _ _ (square_of (added z' x') fine-s rs) in
          about_div 3 3 (size_square x) (size_square (sum z x)) (square x') (square (added z' x')) (omega arith)
          (norm_pos _ _ (eqb-false _ 0 (some-s e)))
          (some_units _ unit _ E unit_pos s₁ s₃.0)
          (quotient_low _ _ _ _ unit E unit_pos (lit≤ tt) x₁ s₂ x₃.0 s₃.1 range_unit)
          (quotient_high _ _ _ _ unit E most unit_pos (lit≤ tt) s₁ x₂ x₃.1 s₃.0 range_most)
          (about x x' near-x fine-x rx) (about (sum z x) (added z' x') near-s fine-s rs)

-- ---- the exact sizes: nothing, or between 1/K and K
abbrev pub Ranged : ℕ → Point → Type 0
Ranged K x = Low K x × AtMost 1 K x

ranged_more : (K L : ℕ) (x : Point) → K ≤ L → Ranged K x → Ranged L x
ranged_more K L x l h = (low_more K L x l h.0, most_more 1 K L x l h.1)

-- no rated ratio is above 2 ^ 20
pub volts_ratio : (p q u w : ℕ) → 0 < u → w ≤ 2 ^ 19 → 9 * (p * u) ≤ 11 * (q * w) → p ≤ 2 ^ 20 * q
volts_ratio p q u w z l h = from_over (p ∷ q ∷ u ∷ w ∷ []) 9 (omega arith) (9 * p ⋆ z ⊹ h ⊹ 11 * q ⋆ l) (search read depth 40 fits 20000) refl

none_scaled : (a b p : ℕ) → a + b ≡ 0 → a * p * p + b * p * p ≡ 0
none_scaled zero zero p e = omega arith
none_scaled (suc a) b p e = absurd (omega arith)
none_scaled zero (suc b) p e = absurd (omega arith)

ranged_square : (K p q : ℕ) (x : Point) → p ≤ 2 ^ 20 * q → q ≤ 2 ^ 20 * p → Ranged K x → Ranged (2 ^ 40 * K) (times p q (times p q x))
ranged_square K p q x hp hq h = (
  ⊎_elim (λ e. inl (none_scaled x.re x.im p e))
      (λ e. inr (from (K ∷ p ∷ q ∷ x.re ∷ x.im ∷ x.den ∷ []) (q * q ⋆ e ⊹ K * (x.re + x.im) ⋆ mul-le-mul hq hq) (search read depth 40 fits 20000) refl)) h.0,
  from (K ∷ p ∷ q ∷ x.re ∷ x.im ∷ x.den ∷ []) (p * p ⋆ h.1 ⊹ K * x.den ⋆ mul-le-mul hp hp) (search read depth 40 fits 20000) refl,
)

no_inverse : (x : Point) → is_nothing x ≡ true → inverse x ≡ nothing
unfolding inverse
no_inverse x e = rw e

ranged_inverse : (K : ℕ) (x : Point) → Ranged K x → Ranged (2 * K) (inverse x)
ranged_inverse K x h = (low_more K (2 * K) (inverse x) (omega arith) (low_inverse K x h.1), go (is_nothing x) refl)
  where
    go : (s : Bool) → is_nothing x ≡ s → AtMost 1 (2 * K) (inverse x)
    go true e = rw (no_inverse x e) (omega arith)
    go false e = inverse_low K x e h.0

ranged_sum : (K : ℕ) (x y : Point) → Ranged K x → Ranged K y → Ranged (2 * K) (sum x y)
ranged_sum K x y h g = (
  low_more K (2 * K) (sum x y) (omega arith) (low_sum K x y h.0 g.0),
  most_more 1 (K + K) (2 * K) (sum x y) (omega arith) (most_sum 1 K K x y h.1 g.1),
)

-- a point in f64 near such a point
pub near_between : (K k : ℕ) (x : Point) (y : Complex) → 4 * k ≤ parts → Near parts k x (value y) → is_nothing x ≡ false → Ranged K x → Between (K * 2) (size y)
near_between K k x y l n e h =
    ⊎_elim (λ q. absurd (eqb-false (x.re + x.im) 0 e q)) (λ q. put K (x.re + x.im) x.den (size y) unit n.left q h.1 (near_size parts k x (value y) (omega arith) l n)) h.0
  where
    put : (K t d s u : ℕ) → 0 < d → d ≤ K * t → t * 1 ≤ K * d → (t * u ≤ 2 * (s * d)) × (s * d ≤ 2 * (t * u)) → (u ≤ s * (K * 2)) × (s ≤ u * (K * 2))
    put K t d s u z low high g = (
      from_over (K ∷ t ∷ d ∷ s ∷ u ∷ []) d z (u ⋆ low ⊹ K ⋆ g.0) (search read depth 40 fits 20000) refl,
      from_over (K ∷ t ∷ d ∷ s ∷ u ∷ []) d z (g.1 ⊹ 2 * u ⋆ high) (search read depth 40 fits 20000) refl,
    )

sum_some : (x y : Point) → 0 < x.den → is_nothing y ≡ false → is_nothing (sum x y) ≡ false
sum_some x y z e = ne_eqb _ 0 (λ q. eqb-false (y.re + y.im) 0 e (no_right x.re x.im x.den y.re y.im y.den z q))
  where
    no_right : (a b d r i e : ℕ) → 0 < d → a * e + r * d + (b * e + i * d) ≡ 0 → r + i ≡ 0
    no_right a b d r i e z h = gathered d r i z (omega (arith, mul_comm r d, mul_comm i d))
      where
        gathered : (d r i : ℕ) → 0 < d → r * d + i * d ≡ 0 → r + i ≡ 0
        gathered zero r i z h = elim z [ ]
        gathered (suc d) r i z h = omega arith

by_one : (s m : ℕ) → s ≤ m → s * 1 ≤ m
by_one s m h = omega arith

branch_ranged : (a b d : ℕ) → 0 < a + b → d ≤ 2 ^ 100 → d ≤ 2 ^ 199 * (a + b)
branch_ranged a b d z h = from (a ∷ b ∷ d ∷ []) (h ⊹ 2 ^ 199 ⋆ z) (search read depth 40 fits 20000) refl

module _ (G : Grid) (U : ℕ → ℕ) (sound : Sound G) (levels : Levels G U) (plain : Plain G) (few : G.count ≤ covered_buses) (z' own' : ℕ → Complex) (kₑ : ℕ) (l : kₑ ≤ most_parts)
    (near-z : (i : ℕ) → 0 < i → i < G.count → Near parts kₑ (G.branch i).z (value (z' i)) × Fine (z' i))
    (near-own : (b : ℕ) → b < G.count → Near parts kₑ (G.own b) (value (own' b)) × Fine (own' b)) where
  -- what is seen in f64, and its error
  abbrev s' : ℕ → ℕ → Complex
  s' = seen_by doubles z' own' G walk_steps

  abbrev cost : ℕ
  cost = seen_parts kₑ G.count

  R : ℕ → Point → Complex → Type 0
  R = NearTo value (Good 200 cost) parts

  cost_small : cost ≤ 900000
  cost_small = omega arith

  seen_held : (c b : ℕ) → c < G.count → R cost (seen G c b) (s' c b)
  unfolding R
  seen_held c b lc =
      accurate_good cost _ _ (omega (arith, cost_small)) (seen_near G U sound levels plain few z' own' kₑ l near-z near-own c b lc)
      (seen_low G U sound levels plain few c b lc) (seen_high G U sound levels plain few c b lc)

  branch_held : (i : ℕ) → 0 < i → i < G.count → R cost (G.branch i).z (z' i)
  unfolding R
  branch_held i z li =
      let h = plain.branch i z li in
      accurate_good cost _ _ (omega (arith, cost_small)) (accurate_more kₑ cost _ _ (omega arith) (near-z i z li))
      (inr (branch_ranged (G.branch i).z.re (G.branch i).z.im (G.branch i).z.den h.some h.fine))
      (le_trans h.short (mul-le-mul (lit≤ tt) (le_refl _)))

  seen_ranged : (c b : ℕ) → c < G.count → Ranged (2 ^ 199) (seen G c b)
  seen_ranged c b lc = (seen_low G U sound levels plain few c b lc, by_one _ _ (seen_high G U sound levels plain few c b lc))

  branch_wide : (i : ℕ) → 0 < i → i < G.count → Ranged (2 ^ 240) (G.branch i).z
  branch_wide i z li =
      let h = plain.branch i z li in
      ranged_more (2 ^ 199) (2 ^ 240) _ (lit≤ tt) (
        inr (branch_ranged (G.branch i).z.re (G.branch i).z.im (G.branch i).z.den h.some h.fine),
        most_more 1 (2 ^ 60) (2 ^ 199) _ (lit≤ tt) (by_one _ _ h.short),
      )

  -- from the error of a branch and of what is behind it
  about_of : (z x : Point) (w y : Complex) → 0 < z.den → R cost z w → R (cost + 29) x y → Ranged (2 ^ 240) z → Ranged (2 ^ 240) x → About 9 (divider_of z x) (divider_by w y)
  unfolding R
  about_of z x w y z₀ hz hx rz rx =
      let rules = f64_rules cost (omega (arith, cost_small)) in
      let hs = rules.near_add (cost + 29) z x w y (omega arith) (rules.more cost (cost + 29) z w (omega arith) hz) hx in
      divider_about (cost + 33) z x w y (omega (arith, cost_small)) (near_more parts (cost + 29) (cost + 33) x (value y) (omega arith) hx.0) hx.1.fine
      (near_more parts (cost + 29 + 4) (cost + 33) (sum z x) (value (added w y)) (omega arith) hs.0) hs.1.fine (rules.near_empty (cost + 29) x y (omega arith) hx) (sum_some z x z₀)
      (λ e. between_more (2 ^ 240 * 2) E (size y) (lit≤ tt) (near_between (2 ^ 240) (cost + 29) x y (omega (arith, cost_small)) hx.0 e rx))
      (λ e. between_more (2 * 2 ^ 240 * 2) E (size (added w y)) (lit≤ tt) (near_between (2 * 2 ^ 240) (cost + 29 + 4) (sum z x) (added w y) (omega (arith, cost_small)) hs.0 (sum_some z x z₀ e) (ranged_sum (2 ^ 240) z x rz rx)))

  abbrev above : ℕ → Complex
  above = seen_above z' own' G

  abbrev below : ℕ → Complex
  below = seen_below z' own' G

  -- A BRANCH OF THE WAY, in either direction
  about_branch : (b c : ℕ) → b < G.count → c < G.count → joined (parent_of G) b c ≡ true → About 9 (divider G b c) (cond (ltb c b) (divider_up G z' above b) (divider_down G z' below c))
  unfolding R
  about_branch b c lb lc e = go (ltb c b) refl
    where
      rules : Rules exact doubles R Factor (cost + 50) 4 13 8
      rules = f64_rules cost (omega (arith, cost_small))

      turned : R (cost + 13) (inverse (seen G c b)) (inverted (s' c b))
      turned = rules.near_inverse cost _ _ (omega arith) (seen_held c b lc)

      wide : Ranged (2 ^ 200) (inverse (seen G c b))
      wide = ranged_inverse (2 ^ 199) (seen G c b) (seen_ranged c b lc)

      go : (s : Bool) → ltb c b ≡ s
          → About 9 (divider_of (cond s (G.branch b).z (G.branch c).z) (cond s (times_square exact (G.branch b).below (G.branch b).above (inverse (seen G c b))) (inverse (seen G c b))))
          (cond s (divider_up G z' above b) (divider_down G z' below c))
      go true q =
          let t = to_parent (parent_of G) b c e q in
          let v = sound.volts b t.0 lb in
          let u = levels.nominal b lb in
          let w : (0 < U (parent_of G b)) × (U (parent_of G b) ≤ 2 ^ 19) = rw t.1 (levels.nominal c lc) in
          rw t.1
          (about_of _ _ _ _ (plain.branch b t.0 lb).proper (branch_held b t.0 lb)
          (rules.more (cost + 13 + 8 + 8) (cost + 29) _ _ (omega arith)
          (rules.near_scale (cost + 13 + 8) _ _ _ _ v.1 v.0 (omega arith) (rules.near_scale (cost + 13) _ _ _ _ v.1 v.0 (omega arith) turned)))
          (branch_wide b t.0 lb)
          (ranged_square (2 ^ 200) (G.branch b).below (G.branch b).above _
          (volts_ratio (G.branch b).below (G.branch b).above _ _ w.0 u.1 (levels.below b t.0 lb))
          (volts_ratio (G.branch b).above (G.branch b).below _ _ u.0 w.1 (levels.above b t.0 lb)) wide))
      go false q =
          let t = to_child (parent_of G) b c e q in
          rw t.1
          (about_of _ _ _ _ (plain.branch c t.0 lc).proper (branch_held c t.0 lc) (rules.more (cost + 13) (cost + 29) _ _ (omega arith) turned) (branch_wide c t.0 lc)
          (ranged_more (2 ^ 200) (2 ^ 240) _ (lit≤ tt) wide))

  -- THE PRODUCT OF THE DIVIDERS of a way, 12 parts for each branch
  pub dividers_reached : (b j : ℕ) → b < G.count → j < G.count → Reached 432 (dividers G b j) (dividers_by G z' (seen_above z' own' G) (seen_below z' own' G) b j)
  unfolding over_way
  dividers_reached b j lb lj =
      let d = sound.shallow b lb in
      let e = sound.shallow j lj in
      reached_more (12 * (depth (parent_of G) b + depth (parent_of G) j)) 432 _ _ (omega arith)
      (between_related (parent_of G) G.count sound.tree (λ k x v. k ≤ way_branches → Reached (12 * k) x v)
      (λ j k x v m h n. reached_more (12 * j) (12 * k) x v (omega arith) (h (omega arith)))
      (λ b c x. product x (divider G b c)) (λ b c v. floored faintest v (cond (ltb c b) (divider_up G z' above b) (divider_down G z' below c))) (whole 1) unity (λ n. reached_start)
      (λ k b c x v lb lc i h n.
      reached_more (12 * k + 9 + 3) (12 * suc k) _ _ (omega arith)
      (reached_step (12 * k) 9 x (divider G b c) v _ (omega arith) (h (omega arith)) (about_branch b c lb lc i) (divider_most (crossing G b c) (behind G b c))))
      b j lb lj (omega arith))
