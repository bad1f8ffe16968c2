-- The walk in f64 is near the exact one.
-- Assumes nothing.
use Rattle.std.specs.Prelude.{ℕ, zero, suc, ◌+◌, ◌*◌, ◌^◌, ◌≤◌, ◌<◌, ◌≡◌, refl, Bool, true, false, cond, [], ◌∷◌, ltb}
use Rattle.std.proofs.Common.{inl, inr, arith, le_refl, le_trans, le_of_lt, mul-le-mul, mul-le-mul_right, mul-pos, lit≤}
use Rattle.algebra.specs.Reading.{poly, from, from_over, read, ◌⊹◌, ◌⋆◌}
use Rattle.enclosure.specs.Exact.{Point, sum, inverse, exact}
use Rattle.enclosure.specs.laws.Nearness.{Near, NearTo}
use Rattle.enclosure.specs.laws.StepErrors.{parts}
use Rattle.enclosure.specs.Doubles.{doubles}
use Rattle.enclosure.specs.laws.F64Errors.{value, Fine}
use Rattle.enclosure.specs.laws.F64Range.{Good, Factor, f64_rules}
use Rattle.enclosure.specs.declared.Complex.{Complex}
use Rattle.tree.specs.Limits.{walk_steps, seen_parts, covered_buses, most_parts, own_most}
use Rattle.tree.specs.Grid.{joined, Grid, parent_of, times_square, through, admittances, seen_by, seen}
use Rattle.tree.specs.laws.Walk.{to_parent, to_child}
use Rattle.tree.specs.laws.Grid.{through_cases, seen_steps}
use Rattle.tree.specs.laws.AdmittanceSizes.{AtMost, AtLeast, Low, most_more, most_under, most_sum, low_more, low_sum, low_inverse, inverse_low, referred, through_most}
use Rattle.tree.specs.laws.FeederReaches.{through_proper}
use Rattle.tree.specs.laws.WalkErrors.{walk_inside}
use Rattle.tree.specs.laws.BranchErrors.{through_near}
use Rattle.tree.specs.laws.Accuracy.{Accurate, accurate_more, accurate_good}
use Rattle.tree.specs.laws.TreeBounds.{Sound, Levels, Plain}

-- ---- what the proof needs of the elements: every impedance is at least 2/P, referred or not, and at most ζ·Un²; what a bus has itself
-- is at most S, and nothing or at least 1/(ζ·Un²)
record Ranged (G : Grid) (U : ℕ → ℕ) (P S ζ : ℕ) : Type 0 where
  pub long : (i : ℕ) → 0 < i → i < G.count → AtLeast 1 P (G.branch i).z
  pub apart : (b i : ℕ) → b < G.count → i < G.count → joined (parent_of G) b i ≡ true → AtLeast 1 P (referred G b i)
  pub short : (i : ℕ) → 0 < i → i < G.count → AtMost 1 (ζ * (U i * U i)) (G.branch i).z
  pub own_proper : (b : ℕ) → b < G.count → 0 < (G.own b).den
  pub own_most_law : (b : ℕ) → b < G.count → AtMost 1 S (G.own b)
  pub own_least : (b : ℕ) → b < G.count → Low (ζ * (U b * U b)) (G.own b)

-- the largest impedance behind f branches, over Un²: a rated ratio, squared, is within 3/2 of the nominal one
abbrev far : ℕ → ℕ → ℕ
far ζ zero = ζ
far ζ (suc f) = 3 * far ζ f + 2 * ζ

far_least : (ζ f : ℕ) → ζ ≤ far ζ f
far_least ζ zero = le_refl ζ
far_least ζ (suc f) = omega (arith, far_least ζ f)

far_mono : (ζ f g : ℕ) → f ≤ g → far ζ f ≤ far ζ g
far_mono ζ zero g l = far_least ζ g
far_mono ζ (suc f) zero l = absurd (omega arith)
far_mono ζ (suc f) (suc g) l = omega (arith, far_mono ζ f g (omega arith))

squared : (p q u w : ℕ) → 9 * (p * u) ≤ 11 * (q * w) → 81 * (p * p * (u * u)) ≤ 121 * (q * q * (w * w))
squared p q u w h = from (p ∷ q ∷ u ∷ w ∷ []) (mul-le-mul h h) (search read depth 40 fits 20000) refl

-- X·u² at most, referred by p/q
square_most : (X Y u w p q : ℕ) (x : Point) → 121 * X ≤ 81 * Y → 9 * (p * u) ≤ 11 * (q * w) → AtMost 1 (X * (u * u)) x → AtMost 1 (Y * (w * w)) (times_square exact p q x)
square_most X Y u w p q x k l h =
    from_over (X ∷ Y ∷ u ∷ w ∷ p ∷ q ∷ x.re ∷ x.im ∷ x.den ∷ []) 81 (omega arith)
    (81 * (p * p) ⋆ h ⊹ X * x.den ⋆ squared p q u w l ⊹ x.den * (q * q * (w * w)) ⋆ k) (search read depth 40 fits 20000) refl

wider : (ζ K u : ℕ) → ζ * u + 3 * K * u ≤ (3 * K + 2 * ζ) * u
wider ζ K u = poly (ζ ∷ K ∷ u ∷ []) (search read depth 40 fits 20000) refl

together : (ζ K u : ℕ) → ζ * u + 2 * (K * u) ≤ (ζ + 2 * K) * u
together ζ K u = poly (ζ ∷ K ∷ u ∷ []) (search read depth 40 fits 20000) refl

twice : (K u : ℕ) (x : Point) → AtMost 1 (2 * (K * u)) x → AtMost 1 (2 * K * u) x
twice K u x h = most_more 1 (2 * (K * u)) (2 * K * u) x (poly (K ∷ u ∷ []) (search read depth 40 fits 20000) refl) h

longest : (P E d s : ℕ) → P ≤ E → 2 * (1 * d) ≤ P * s → d ≤ E * s
longest P E d s l h = from (P ∷ E ∷ d ∷ s ∷ []) (h ⊹ s ⋆ l) (search read depth 40 fits 20000) refl

one_of : (P S n E : ℕ) → 0 < n → S + P * n ≤ E → P ≤ E
one_of P S n E z h = le_trans (from (P ∷ S ∷ n ∷ []) (P ⋆ z) (search read depth 40 fits 20000) refl) h

module _ (G : Grid) (U : ℕ → ℕ) (levels : Levels G U) (P S ζ : ℕ) (r : Ranged G U P S ζ) where
  -- what is known of what is seen at b over f branches
  record In (f b j : ℕ) (x : Point) : Type 0 where
    pub proper : 0 < x.den
    pub most : AtMost 1 j x
    pub least : Low (far ζ f * (U b * U b)) x

  in_more : (f b i j : ℕ) (x : Point) → i ≤ j → In f b i x → In f b j x
  in_more f b i j x l h = record { proper = h.proper; most = most_more 1 i j x l h.most; least = h.least }

  in_add : (f b i j : ℕ) (x y : Point) → In f b i x → In f b j y → In f b (i + j) (sum x y)
  in_add f b i j x y h g = record { proper = mul-pos h.proper g.proper; most = most_sum 1 i j x y h.most g.most; least = low_sum _ x y h.least g.least }

  low_through : (f b i : ℕ) (x : Point) → b < G.count → i < G.count → joined (parent_of G) b i ≡ true → Low (far ζ f * (U i * U i)) x
      → Low (far ζ (suc f) * (U b * U b)) (through exact (λ j. (G.branch j).z) G b i x)
  low_through f b i x lb li e h =
      through_cases exact (λ j. (G.branch j).z) G b i x (Low (far ζ (suc f) * (U b * U b)))
      (λ p. inl refl)
      (λ p q.
      let t = to_parent (parent_of G) b i e q in
      low_inverse ((3 * K + 2 * ζ) * (U b * U b)) _
      (most_more 1 (ζ * (U b * U b) + 3 * K * (U b * U b)) _ _ (wider ζ K (U b * U b))
      (most_sum 1 _ _ (G.branch b).z _ (r.short b t.0 lb)
      (square_most (2 * K) (3 * K) (U i) (U b) _ _ (inverse x) (omega arith) (rw t.1 at (levels.below b t.0 lb))
      (twice K (U i * U i) (inverse x) (inverse_low (K * (U i * U i)) x p h))))))
      (λ p q.
      let t = to_child (parent_of G) b i e q in
      low_inverse ((3 * K + 2 * ζ) * (U b * U b)) _
      (square_most (ζ + 2 * K) (3 * K + 2 * ζ) (U i) (U b) _ _ (sum (G.branch i).z (inverse x)) (omega arith) (rw t.1 at (levels.above i t.0 li))
      (most_more 1 (ζ * (U i * U i) + 2 * (K * (U i * U i))) _ _ (together ζ K (U i * U i))
      (most_sum 1 _ _ (G.branch i).z (inverse x) (r.short i t.0 li) (inverse_low (K * (U i * U i)) x p h)))))
    where
      K : ℕ
      K = far ζ f

  in_through : (f b i j : ℕ) (x : Point) → b < G.count → i < G.count → joined (parent_of G) b i ≡ true → In f i j x → In (suc f) b P (through exact (λ j. (G.branch j).z) G b i x)
  in_through f b i j x lb li e h =
      record { proper = through_proper G b i x; most = through_most 1 P G b i x (r.apart b i lb li e); least = low_through f b i x lb li e h.least }

  in_own : (f b : ℕ) → b < G.count → In f b S (G.own b)
  in_own f b lb =
      record { proper = r.own_proper b lb; most = r.own_most_law b lb; least = low_more _ _ (G.own b) (mul-le-mul_right (U b * U b) (far_least ζ f)) (r.own_least b lb) }

  -- the exact walk alone
  in_seen : Sound G → (b w : ℕ) → b < G.count → In walk_steps b (S + P * G.count) (seen G b w)
  in_seen sound b w lb =
      let W = admittances exact (λ j. (G.branch j).z) G.own G in
      rw (seen_steps G sound.tree sound.shallow b w lb)
      (walk_inside W W (parent_of G) G.count In (λ k x y. Unit) walk_steps 0 0 0 0 S P
      in_more in_add (λ j k x y l h. tt) (λ f c k x x' y y' lf lc l h h' g g'. tt)
      (λ f c lf lc. (in_own f c lc, tt)) (λ f c i k x y lf lc li e m q h g. (in_through f c i _ x lc li e h, tt))
      walk_steps b w (le_refl walk_steps) lb (omega arith)).0

  module _ (wide : far ζ walk_steps * (2 ^ 19 * 2 ^ 19) ≤ 2 ^ 199) (tall : S + P * G.count ≤ 2 ^ 199) where
    in_low : (f b j : ℕ) (x : Point) → f ≤ walk_steps → b < G.count → In f b j x → Low (2 ^ 199) x
    in_low f b j x lf lb h =
        let v = (levels.nominal b lb).1 in
        low_more _ (2 ^ 199) x (le_trans (mul-le-mul (far_mono ζ f walk_steps lf) (mul-le-mul v v)) wide) h.least

    in_high : (f b : ℕ) (x : Point) → In f b (S + P * G.count) x → x.re + x.im ≤ 2 ^ 199 * x.den
    in_high f b x h = most_under 1 (S + P * G.count) (2 ^ 199) x (omega arith) tall h.most

    in_good : (f b k : ℕ) (x : Point) (y : Complex) → f ≤ walk_steps → b < G.count → k ≤ 1000000 → In f b (S + P * G.count) x → Accurate k x y → NearTo value (Good 200 k) parts k x y
    in_good f b k x y lf lb l h g = accurate_good k x y (omega arith) g (in_low f b _ x lf lb h) (in_high f b x h)

    near_add : (f b k : ℕ) (x x' : Point) (y y' : Complex) → f ≤ walk_steps → b < G.count → k ≤ 1000000 → In f b (S + P * G.count) x → In f b (S + P * G.count) x'
        → Accurate k x y → Accurate k x' y' → Accurate (k + 4) (sum x x') (doubles.add y y')
    near_add f b k x x' y y' lf lb l h h' g g' =
        let t = (f64_rules k l).near_add k x x' y y' (omega arith) (in_good f b k x y lf lb l h g) (in_good f b k x' y' lf lb l h' g') in
        (t.0, t.1.fine)

    module _ (sound : Sound G) (z' own' : ℕ → Complex) (kₑ : ℕ)
        (near-z : (i : ℕ) → 0 < i → i < G.count → Accurate kₑ (G.branch i).z (z' i))
        (near-own : (b : ℕ) → b < G.count → Accurate kₑ (G.own b) (own' b)) where
      good_z : (k i : ℕ) → kₑ ≤ k → k ≤ 1000000 → 0 < i → i < G.count → NearTo value (Good 200 k) parts k (G.branch i).z (z' i)
      good_z k i m l p li =
          let v = (levels.nominal i li).1 in
          accurate_good k _ _ (omega arith) (accurate_more kₑ k _ _ m (near-z i p li))
          (inr (longest P (2 ^ 199) _ _ (one_of P S G.count (2 ^ 199) (omega arith) tall) (r.long i p li)))
          (most_under 1 (ζ * (U i * U i)) (2 ^ 199) _ (omega arith) (le_trans (mul-le-mul (far_least ζ walk_steps) (mul-le-mul v v)) wide) (r.short i p li))

      seen_accurate : (b w : ℕ) → b < G.count → seen_parts kₑ G.count ≤ 1000000 → Accurate (seen_parts kₑ G.count) (seen G b w) (seen_by doubles z' own' G walk_steps b w)
      seen_accurate b w lb l =
          rw (seen_steps G sound.tree sound.shallow b w lb)
          (walk_inside (admittances exact (λ j. (G.branch j).z) G.own G) (admittances doubles z' own' G) (parent_of G) G.count In Accurate walk_steps 1000000 kₑ 4 46 S P
          in_more in_add accurate_more near_add
          (λ f c lf lc. (in_own f c lc, near-own c lc))
          (λ f c i k x y lf lc li e m q h g. (
            in_through f c i _ x lc li e h,
            (let t =
                through_near exact doubles (NearTo value (Good 200 k) parts) Factor (k + 50) 4 13 8 (f64_rules k (omega arith)) G (λ j. (G.branch j).z) z' k
                (λ j p lj. good_z k j m (omega arith) p lj) sound.volts
                k c i x y lc li e (le_refl k) (omega arith) (in_good f i k x y (omega arith) li (omega arith) h g) in
                (t.0, t.1.fine)),
          ))
          walk_steps b w (le_refl walk_steps) lb l).1

-- ---- elements within the bounds of Plain are in range
least_own : (a b d : ℕ) → 0 < a + b → d ≤ 2 ^ 100 → 2 * (1 * d) ≤ 2 ^ 180 * (a + b)
least_own a b d z h = from (a ∷ b ∷ d ∷ []) (2 ⋆ h ⊹ 2 ^ 101 ⋆ z) (search read depth 40 fits 20000) refl

least_referred : (a b d p q : ℕ) → 0 < a + b → d ≤ 2 ^ 100 → 0 < p → q < 2 ^ 32 → 2 * (1 * (d * q * q)) ≤ 2 ^ 180 * (a * p * p + b * p * p)
least_referred a b d p q z h p₀ q₁ =
    let l : q ≤ 2 ^ 32 = le_of_lt q₁ in
    from (a ∷ b ∷ d ∷ p ∷ q ∷ []) (2 * (q * q) ⋆ h ⊹ 2 ^ 101 ⋆ mul-le-mul l l ⊹ 2 ^ 165 ⋆ z ⊹ 2 ^ 165 * (a + b) ⋆ mul-pos p₀ p₀) (search read depth 40 fits 20000) refl

short_own : (s d u : ℕ) → 0 < u → s ≤ 2 ^ 60 * d → s * 1 ≤ 2 ^ 60 * (u * u) * d
short_own s d u z h = from (s ∷ d ∷ u ∷ []) (h ⊹ 2 ^ 60 * d ⋆ mul-pos z z) (search read depth 40 fits 20000) refl

wide_own : (u : ℕ) → 0 < u → 2 ^ 60 ≤ 2 ^ 60 * (u * u)
wide_own u z = from (u ∷ []) (2 ^ 60 ⋆ mul-pos z z) (search read depth 40 fits 20000) refl

high_own : (s d : ℕ) → s ≤ own_most * d → s * 1 ≤ own_most * d
high_own s d h = from (s ∷ d ∷ []) h (search read depth 40 fits 20000) refl

tall : (n : ℕ) → n ≤ covered_buses → own_most + 2 ^ 180 * n ≤ 2 ^ 199
tall n h = from (n ∷ []) (2 ^ 180 ⋆ h) (search read depth 40 fits 20000) refl

module _ (G : Grid) (U : ℕ → ℕ) (sound : Sound G) (levels : Levels G U) (plain : Plain G) (few : G.count ≤ covered_buses) where
  apart : (b i : ℕ) → b < G.count → i < G.count → joined (parent_of G) b i ≡ true → AtLeast 1 (2 ^ 180) (referred G b i)
  apart b i lb li e = go (ltb i b) refl
    where
      go : (d : Bool) → ltb i b ≡ d → AtLeast 1 (2 ^ 180) (cond d (G.branch b).z (times_square exact (G.branch i).above (G.branch i).below (G.branch i).z))
      go true q =
          let h = plain.branch b (to_parent (parent_of G) b i e q).0 lb in
          least_own (G.branch b).z.re (G.branch b).z.im (G.branch b).z.den h.some h.fine
      go false q =
          let z = (to_child (parent_of G) b i e q).0 in
          let h = plain.branch i z li in
          let v = sound.volts i z li in
          least_referred (G.branch i).z.re (G.branch i).z.im (G.branch i).z.den (G.branch i).above (G.branch i).below h.some h.fine v.0.0 v.1.1

  ranged : Ranged G U (2 ^ 180) own_most (2 ^ 60)
  ranged = record {
    long = λ i z l. let h = plain.branch i z l in least_own (G.branch i).z.re (G.branch i).z.im (G.branch i).z.den h.some h.fine;
    apart = apart;
    short = λ i z l. short_own ((G.branch i).z.re + (G.branch i).z.im) (G.branch i).z.den (U i) (levels.nominal i l).0 (plain.branch i z l).short;
    own_proper = λ b l. (plain.own b l).proper;
    own_most_law = λ b l. high_own ((G.own b).re + (G.own b).im) (G.own b).den (plain.own b l).most;
    own_least = λ b l. low_more _ _ (G.own b) (wide_own (U b) (levels.nominal b l).0) (plain.own b l).least;
  }

  wide : far (2 ^ 60) walk_steps * (2 ^ 19 * 2 ^ 19) ≤ 2 ^ 199
  wide = lit≤ tt

  -- WHAT IS SEEN IS IN RANGE: nothing, or from 2 ^ -199 to 2 ^ 199
  pub seen_low : (b w : ℕ) → b < G.count → Low (2 ^ 199) (seen G b w)
  seen_low b w lb = in_low G U levels (2 ^ 180) own_most (2 ^ 60) ranged wide (tall G.count few) walk_steps b _ (seen G b w) (le_refl walk_steps) lb (in_seen G U levels (2 ^ 180) own_most (2 ^ 60) ranged sound b w lb)

  pub seen_high : (b w : ℕ) → b < G.count → (seen G b w).re + (seen G b w).im ≤ 2 ^ 199 * (seen G b w).den
  seen_high b w lb = in_high G U levels (2 ^ 180) own_most (2 ^ 60) ranged wide (tall G.count few) walk_steps b (seen G b w) (in_seen G U levels (2 ^ 180) own_most (2 ^ 60) ranged sound b w lb)

  room : (k n : ℕ) → k ≤ most_parts → n ≤ covered_buses → seen_parts k n ≤ 1000000
  room k n a b = omega arith

  module _ (z' own' : ℕ → Complex) (kₑ : ℕ) (l : kₑ ≤ most_parts)
      (near-z : (i : ℕ) → 0 < i → i < G.count → Near parts kₑ (G.branch i).z (value (z' i)) × Fine (z' i))
      (near-own : (b : ℕ) → b < G.count → Near parts kₑ (G.own b) (value (own' b)) × Fine (own' b)) where
    -- THE WALK IN F64 IS NEAR THE EXACT ONE: kₑ parts in 2 ^ 53 for an element, 46 for a branch and 4 for each bus at each step
    pub seen_near : (b w : ℕ) → b < G.count
        → Near parts (seen_parts kₑ G.count) (seen G b w) (value (seen_by doubles z' own' G walk_steps b w)) × Fine (seen_by doubles z' own' G walk_steps b w)
    seen_near b w lb =
        seen_accurate G U levels (2 ^ 180) own_most (2 ^ 60) ranged wide (tall G.count few) sound z' own' kₑ near-z near-own b w lb (room kₑ G.count l few)
