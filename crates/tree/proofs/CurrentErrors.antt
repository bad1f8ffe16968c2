-- The size of the converters' part, and that the calculation in f64 is near it.
-- Assumes nothing.
use Rattle.std.specs.Prelude.{ℕ, zero, suc, ◌+◌, ◌-◌, ◌*◌, ◌^◌, ◌≤◌, ◌<◌, ◌≡◌, refl, [], ◌∷◌}
use Rattle.std.proofs.Common.{sym, inl, inr, arith, le_refl, le_trans, le_of_eq, mul-le-mul, mul-pos, mul-suc, lit≤}
use Rattle.algebra.specs.Reading.{from, from_over, read, ◌⊹◌, ◌⋆◌}
use Rattle.enclosure.specs.Exact.{Point, exact, nothing, sum, times}
use Rattle.enclosure.specs.laws.Nearness.{spread, Near, Same, near_same, NearTo}
use Rattle.enclosure.specs.laws.Units.{Sized}
use Rattle.enclosure.specs.laws.StepErrors.{parts}
use Rattle.enclosure.specs.Doubles.{doubles}
use Rattle.enclosure.specs.laws.F64Errors.{value, size, Fine}
use Rattle.enclosure.specs.laws.F64Range.{Good, Factor, f64_rules}
use Rattle.enclosure.specs.declared.Complex.{Complex}
use Rattle.tree.specs.Limits.{max_branches, way_branches, way_ratio, carried_parts, covered_buses, most_parts, current_most}
use Rattle.tree.specs.laws.Toward.{depth}
use Rattle.tree.specs.Grid.{Grid, parent_of, upward, downward, carried}
use Rattle.tree.specs.laws.AdmittanceSizes.{Low, low_more, low_sum}
use Rattle.tree.specs.laws.Accuracy.{Accurate, accurate_more, accurate_range, accurate_good}
use Rattle.tree.specs.laws.TreeBounds.{Sound, Levels, CurrentBounds}
use Rattle.tree.specs.laws.Sums.{sums}
use Rattle.tree.specs.Converters.{to_root, gathered, carried_by}
use Rattle.tree.specs.laws.Converters.{to_root_related, from_root_related}
use Rattle.tree.proofs.ConvertersByRoot.{carried_proper, carried_root}

-- ---- m to the power of d
abbrev power : ℕ → ℕ → ℕ
power m zero = 1
power m (suc d) = m * power m d

power_pos : (m d : ℕ) → 0 < m → 0 < power m d
power_pos m zero z = omega arith
power_pos m (suc d) z = mul-pos z (power_pos m d z)

power_mono : (m d e : ℕ) → 0 < m → d ≤ e → power m d ≤ power m e
power_mono m zero e z l = power_pos m e z
power_mono m (suc d) zero z l = absurd (omega arith)
power_mono m (suc d) (suc e) z l = mul-le-mul (le_refl m) (power_mono m d e z (omega arith))

-- ---- over plain numbers: a current (s, t)/d at nominal volts u is carried by p/q to nominal volts v; p/q is within 11/9 of u/v
carry_most : (s t d u v p q c g h : ℕ) → 9 * (p * v) ≤ 11 * (q * u) → (s + t) * u * g ≤ c * h * d → (s * p + t * p) * v * (9 * g) ≤ c * (11 * h) * (d * q)
carry_most s t d u v p q c g h k l = from (s ∷ t ∷ d ∷ u ∷ v ∷ p ∷ q ∷ c ∷ g ∷ h ∷ []) ((s + t) * g ⋆ k ⊹ 11 * q ⋆ l) (search read depth 40 fits 20000) refl

carry_low : (s t d u v p q K g : ℕ) → 9 * (q * u) ≤ 11 * (p * v) → d ≤ K * g * u * (s + t) → d * q ≤ K * (2 * g) * v * (s * p + t * p)
carry_low s t d u v p q K g k l =
    from_over (s ∷ t ∷ d ∷ u ∷ v ∷ p ∷ q ∷ K ∷ g ∷ []) 9 (omega arith) (9 * q ⋆ l ⊹ K * g * (s + t) ⋆ k) (search read depth 40 fits 20000) refl

wider_most : (s u d c g h : ℕ) → s * u * g ≤ c * h * d → s * u * (9 * g) ≤ c * (11 * h) * d
wider_most s u d c g h k = from (s ∷ u ∷ d ∷ c ∷ g ∷ h ∷ []) (9 ⋆ k) (search read depth 40 fits 20000) refl

most_both : (s t d s' t' d' u c c' g h : ℕ) → (s + t) * u * g ≤ c * h * d → (s' + t') * u * g ≤ c' * h * d'
    → (s * d' + s' * d + (t * d' + t' * d)) * u * g ≤ (c + c') * h * (d * d')
most_both s t d s' t' d' u c c' g h k l = from (s ∷ t ∷ d ∷ s' ∷ t' ∷ d' ∷ u ∷ c ∷ c' ∷ g ∷ h ∷ []) (d' ⋆ k ⊹ d ⋆ l) (search read depth 40 fits 20000) refl

-- what holds of a fraction holds of the same fraction; h/g is at most N
same_most : (x y : Point) (u c g h N : ℕ) → 0 < y.den → 0 < g → h ≤ N * g → Same x y → (y.re + y.im) * u * g ≤ c * h * y.den → (x.re + x.im) * u ≤ N * c * x.den
same_most x y u c g h N z w n e k =
    from_over (x.re ∷ x.im ∷ x.den ∷ y.re ∷ y.im ∷ y.den ∷ u ∷ c ∷ g ∷ h ∷ N ∷ []) (y.den * g) (mul-pos z w)
    (u * g ⋆ (le_of_eq e.re ⊹ le_of_eq e.im) ⊹ x.den ⋆ k ⊹ c * (x.den * y.den) ⋆ n) (search read depth 40 fits 20000) refl

under : (s u c g h d E : ℕ) → 0 < u → 0 < g → c * h ≤ E → s * u * g ≤ c * h * d → s ≤ E * d
under s u c g h d E z w l k = from (s ∷ u ∷ c ∷ g ∷ h ∷ d ∷ E ∷ []) (s ⋆ mul-pos z w ⊹ k ⊹ d ⋆ l) (search read depth 40 fits 20000) refl

twice : (x y z : ℕ) → 0 < z → x ≤ y → x ≤ y * z
twice x y z p l = from (x ∷ y ∷ z ∷ []) (l ⊹ y ⋆ p) (search read depth 40 fits 20000) refl

sums_most : (c n : ℕ) → sums (λ i. c) n ≡ c * n
sums_most c zero = omega arith
sums_most c (suc n) = omega (arith, sums_most c n, mul-suc c n)

module _ (G : Grid) (U : ℕ → ℕ) (sound : Sound G) (levels : Levels G U) where
  -- a current at b after d branches: times nominal volts it is at most c·(11/9)^d
  record Most (d b c : ℕ) (x : Point) : Type 0 where
    pub proper : 0 < x.den
    pub most : (x.re + x.im) * U b * power 9 d ≤ c * power 11 d * x.den

  most_rises : (d b c : ℕ) (x : Point) → 0 < b → b < G.count → Most d b c x → Most (suc d) (parent_of G b) c (upward exact G b x)
  most_rises d b c x z l h = record {
    proper = mul-pos h.proper (sound.volts b z l).0.0;
    most = carry_most x.re x.im x.den (U b) (U (parent_of G b)) (G.branch b).below (G.branch b).above c (power 9 d) (power 11 d) (levels.below b z l) h.most;
  }

  most_falls : (d b c : ℕ) (x : Point) → 0 < b → b < G.count → Most d (parent_of G b) c x → Most (suc d) b c (downward exact G b x)
  most_falls d b c x z l h = record {
    proper = mul-pos h.proper (sound.volts b z l).1.0;
    most = carry_most x.re x.im x.den (U (parent_of G b)) (U b) (G.branch b).above (G.branch b).below c (power 9 d) (power 11 d) (levels.above b z l) h.most;
  }

  most_more : (n d e b c : ℕ) (x : Point) → d + n ≡ e → Most d b c x → Most e b c x
  most_more zero d e b c x q h = let g : d ≡ e = omega arith in rw g at h
  most_more (suc n) d e b c x q h =
      most_more n (suc d) e b c x (omega arith) (record { proper = h.proper; most = wider_most (x.re + x.im) (U b) x.den c (power 9 d) (power 11 d) h.most })

  most_sum : (d b c c' : ℕ) (x y : Point) → Most d b c x → Most d b c' y → Most d b (c + c') (sum x y)
  most_sum d b c c' x y h g = record {
    proper = mul-pos h.proper g.proper;
    most = most_both x.re x.im x.den y.re y.im y.den (U b) c c' (power 9 d) (power 11 d) h.most g.most;
  }

  most_own : (b c : ℕ) (x : Point) → 0 < x.den → (x.re + x.im) * U b ≤ c * x.den → Most 0 b c x
  most_own b c x z h = record { proper = z; most = put (x.re + x.im) (U b) c x.den h }
    where
      put : (s u c d : ℕ) → s * u ≤ c * d → s * u * 1 ≤ c * 1 * d
      put s u c d h = omega arith

  most_nothing : (d b : ℕ) → Most d b 0 nothing
  most_nothing d b = record { proper = omega arith; most = put (U b) (power 9 d) (power 11 d) }
    where
      put : (u g h : ℕ) → (0 + 0) * u * g ≤ 0 * h * 1
      put u g h = omega arith

  -- ---- THE SIZE of the converters' part: (11/9)^36 is below 1,400 (`way_ratio`)
  module _ (C : ℕ → ℕ) (proper : (i : ℕ) → i < G.count → 0 < (G.current i).den)
      (most : (i : ℕ) → i < G.count → ((G.current i).re + (G.current i).im) * U i ≤ C i * (G.current i).den) where
    most_to_root : (i : ℕ) → i < G.count → Most max_branches 0 (C i) (to_root exact G i (G.current i))
    most_to_root i l =
        let s = sound.shallow i l in
        most_more (max_branches - depth (parent_of G) i) (depth (parent_of G) i) max_branches 0 (C i) _ (omega arith)
        (to_root_related exact exact G sound.tree max_branches (λ d b x y. Most d b (C i) x) (λ d b x y m z k h. most_rises d b (C i) x z k h) (λ d b x y m z k h. most_falls d b (C i) x z k h)
        i 0 (depth (parent_of G) i) (G.current i) (G.current i) l (omega arith) s (most_own i (C i) (G.current i) (proper i l) (most i l)))

    most_gathered : (n : ℕ) → n ≤ G.count → Most max_branches 0 (sums C n) (gathered exact G.current G n)
    most_gathered zero l = most_nothing max_branches 0
    most_gathered (suc n) l = most_sum max_branches 0 (sums C n) (C n) _ _ (most_gathered n (omega arith)) (most_to_root n l)

    most_carried : (b : ℕ) → b < G.count → Most way_branches b (sums C G.count) (carried_by exact G.current G b)
    most_carried b l =
        let s = sound.shallow b l in
        most_more (max_branches - depth (parent_of G) b) (max_branches + depth (parent_of G) b) way_branches b (sums C G.count) _ (omega arith)
        (from_root_related exact exact G sound.tree way_branches (λ d i x y. Most d i (sums C G.count) x) (λ d i x y m z k h. most_rises d i _ x z k h) (λ d i x y m z k h. most_falls d i _ x z k h)
        b max_branches (max_branches + depth (parent_of G) b) _ (gathered exact G.current G G.count) l refl (omega arith) (most_gathered G.count (le_refl G.count)))

    pub carried_most : (b : ℕ) → b < G.count → ((carried G b).re + (carried G b).im) * U b ≤ way_ratio * sums C G.count * (carried G b).den
    carried_most b l =
        let h = most_carried b l in
        same_most (carried G b) (carried_by exact G.current G b) (U b) (sums C G.count) (power 9 way_branches) (power 11 way_branches) way_ratio h.proper (lit≤ tt) (lit≤ tt)
        (carried_root G sound.tree (λ i z m. ((sound.volts i z m).0.0, (sound.volts i z m).1.0)) proper b l) h.most

  -- ---- the calculation in f64: at b after d branches, each at a cost of 8
  record Step (c k d b : ℕ) (x : Point) (y : Complex) : Type 0 where
    pub placed : b < G.count
    pub most : Most d b c x
    pub least : Low (2 ^ 20 * power 2 d * U b) x
    pub held : Accurate (k + 8 * d) x y

  step_more : (c k d e b : ℕ) (x : Point) (y : Complex) → d ≤ e → Step c k d b x y → Step c k e b x y
  step_more c k d e b x y l h = record {
    placed = h.placed;
    most = most_more (e - d) d e b c x (omega arith) h.most;
    least = low_more _ _ x (mul-le-mul (mul-le-mul (le_refl (2 ^ 20)) (power_mono 2 d e (omega arith) l)) (le_refl (U b))) h.least;
    held = accurate_more (k + 8 * d) (k + 8 * e) x y (omega arith) h.held;
  }

  low_carried : (d b i p q : ℕ) (x : Point) → 9 * (q * U b) ≤ 11 * (p * U i) → Low (2 ^ 20 * power 2 d * U b) x → Low (2 ^ 20 * power 2 (suc d) * U i) (times p q x)
  low_carried d b i p q x k (inl e) = inl (spread p x.re x.im e)
  low_carried d b i p q x k (inr h) = inr (carry_low x.re x.im x.den (U b) (U i) p q (2 ^ 20) (power 2 d) k h)

  widest : 2 ^ 20 * power 2 way_branches * 2 ^ 19 ≤ 2 ^ 199
  widest = lit≤ tt

  tallest : 2 ^ 64 * power 11 way_branches ≤ 2 ^ 199
  tallest = lit≤ tt

  module _ (c : ℕ) (few : c ≤ 2 ^ 64) where
    step_low : (d b : ℕ) (x : Point) → d ≤ way_branches → b < G.count → Low (2 ^ 20 * power 2 d * U b) x → Low (2 ^ 199) x
    step_low d b x l lb h = low_more _ (2 ^ 199) x (le_trans (mul-le-mul (mul-le-mul (le_refl (2 ^ 20)) (power_mono 2 d way_branches (omega arith) l)) (levels.nominal b lb).1) widest) h

    step_high : (d b : ℕ) (x : Point) → d ≤ way_branches → b < G.count → Most d b c x → x.re + x.im ≤ 2 ^ 199 * x.den
    step_high d b x l lb h =
        under (x.re + x.im) (U b) c (power 9 d) (power 11 d) x.den (2 ^ 199) (levels.nominal b lb).0 (power_pos 9 d (omega arith))
        (le_trans (mul-le-mul few (power_mono 11 d way_branches (omega arith) l)) tallest) h.most

    step_good : (k d b : ℕ) (x : Point) (y : Complex) → d ≤ way_branches → k ≤ 1000000 → b < G.count → Most d b c x → Low (2 ^ 20 * power 2 d * U b) x → Accurate k x y → NearTo value (Good 200 k) parts k x y
    step_good k d b x y l m lb h g n = accurate_good k x y (omega arith) n (step_low d b x l lb g) (step_high d b x l lb h)

    step_scale : (k d b p q : ℕ) (x : Point) (y : Complex) → d < way_branches → k ≤ 100000 → Factor p → Factor q → Step c k d b x y → Accurate (k + 8 * suc d) (times p q x) (doubles.scale p q y)
    step_scale k d b p q x y l m vp vq h =
        let t = (f64_rules (k + 8 * d) (omega arith)).near_scale (k + 8 * d) p q x y vp vq (omega arith) (step_good (k + 8 * d) d b x y (omega arith) (omega arith) h.placed h.most h.least h.held) in
        accurate_more (k + 8 * d + 8) (k + 8 * suc d) _ _ (omega arith) (t.0, t.1.fine)

    step_rises : (k d b : ℕ) (x : Point) (y : Complex) → k ≤ 100000 → d < way_branches → 0 < b → b < G.count → Step c k d b x y
        → Step c k (suc d) (parent_of G b) (upward exact G b x) (upward doubles G b y)
    step_rises k d b x y m l z lb h =
        let v = sound.volts b z lb in
        record {
          placed = omega (arith, sound.tree b z lb);
          most = most_rises d b c x z lb h.most;
          least = low_carried d b (parent_of G b) (G.branch b).below (G.branch b).above x (levels.above b z lb) h.least;
          held = step_scale k d b _ _ x y l m v.1 v.0 h;
        }

    step_falls : (k d b : ℕ) (x : Point) (y : Complex) → k ≤ 100000 → d < way_branches → 0 < b → b < G.count → Step c k d (parent_of G b) x y
        → Step c k (suc d) b (downward exact G b x) (downward doubles G b y)
    step_falls k d b x y m l z lb h =
        let v = sound.volts b z lb in
        record {
          placed = lb;
          most = most_falls d b c x z lb h.most;
          least = low_carried d (parent_of G b) b (G.branch b).above (G.branch b).below x (levels.below b z lb) h.least;
          held = step_scale k d (parent_of G b) _ _ x y l m v.0 v.1 h;
        }

  module _ (amperes : CurrentBounds G U) (few : G.count ≤ covered_buses) (current' : ℕ → Complex) (kₑ : ℕ) (l : kₑ ≤ most_parts)
      (near-current : (i : ℕ) → i < G.count → Near parts kₑ (G.current i) (value (current' i)) × Fine (current' i)) where
    all_small : (n : ℕ) → n ≤ G.count → sums (λ i. current_most) n ≤ 2 ^ 64
    all_small n m = rw (sums_most current_most n) (le_trans (mul-le-mul (le_refl current_most) (le_trans m few)) (lit≤ tt))

    one_small : current_most ≤ 2 ^ 64
    one_small = lit≤ tt

    step_own : (i : ℕ) → i < G.count → Step current_most kₑ 0 i (G.current i) (current' i)
    step_own i li = record {
      placed = li;
      most = most_own i current_most (G.current i) (amperes.proper i li) (amperes.most i li);
      least = low_more (2 ^ 20) _ (G.current i) (twice (2 ^ 20) (2 ^ 20 * 1) (U i) (levels.nominal i li).0 (lit≤ tt)) (amperes.least i li);
      held = accurate_more kₑ (kₑ + 8 * 0) _ _ (omega arith) (near-current i li);
    }

    step_to_root : (i : ℕ) → i < G.count → Step current_most kₑ max_branches 0 (to_root exact G i (G.current i)) (to_root doubles G i (current' i))
    step_to_root i li =
        let s = sound.shallow i li in
        step_more current_most kₑ (depth (parent_of G) i) max_branches 0 _ _ s
        (to_root_related exact doubles G sound.tree max_branches (Step current_most kₑ)
        (λ d b x y m z k h. step_rises current_most one_small kₑ d b x y (omega arith) (omega arith) z k h) (λ d b x y m z k h. step_falls current_most one_small kₑ d b x y (omega arith) (omega arith) z k h)
        i 0 (depth (parent_of G) i) _ _ li (omega arith) s (step_own i li))

    step_gathered : (n : ℕ) → n ≤ G.count → 0 < G.count → Step (sums (λ i. current_most) n) (kₑ + 4 * n) max_branches 0 (gathered exact G.current G n) (gathered doubles current' G n)
    step_gathered zero m z =
        let t = (f64_rules 0 (omega arith)).near_none in
        record { placed = z; most = most_nothing max_branches 0; least = inl refl; held = accurate_more 0 (kₑ + 4 * 0 + 8 * max_branches) nothing doubles.none (omega arith) (t.0, t.1.fine) }
    step_gathered (suc n) m z =
        let h = step_gathered n (omega arith) z in
        let g = step_to_root n m in
        let k : ℕ = kₑ + 4 * n + 8 * max_branches in
        let t =
        (f64_rules k (omega arith)).near_add k _ _ _ _ (omega arith)
        (step_good (sums (λ i. current_most) n) (all_small n (omega arith)) k max_branches 0 _ _ (omega arith) (omega arith) z h.most h.least h.held)
        (step_good current_most one_small k max_branches 0 _ _ (omega arith) (omega arith) z g.most g.least (accurate_more (kₑ + 8 * max_branches) k _ _ (omega arith) g.held)) in
        record {
          placed = z;
          most = most_sum max_branches 0 (sums (λ i. current_most) n) current_most _ _ h.most g.most;
          least = low_sum _ _ _ h.least g.least;
          held = accurate_more (k + 4) (kₑ + 4 * suc n + 8 * max_branches) _ _ (omega arith) (t.0, t.1.fine);
        }

    step_carried : (b : ℕ) → b < G.count → Step (sums (λ i. current_most) G.count) (kₑ + 4 * G.count) way_branches b (carried_by exact G.current G b) (carried_by doubles current' G b)
    step_carried b lb =
        let s = sound.shallow b lb in
        let c : ℕ = sums (λ i. current_most) G.count in
        let k : ℕ = kₑ + 4 * G.count in
        let w = all_small G.count (le_refl G.count) in
        step_more c k (max_branches + depth (parent_of G) b) way_branches b _ _ (omega arith)
        (from_root_related exact doubles G sound.tree way_branches (Step c k)
        (λ d i x y m z q h. step_rises c w k d i x y (omega arith) m z q h) (λ d i x y m z q h. step_falls c w k d i x y (omega arith) m z q h)
        b max_branches (max_branches + depth (parent_of G) b) _ _ lb refl (omega arith) (step_gathered G.count (le_refl G.count) (omega arith)))

    -- THE CONVERTERS' PART IN F64 IS NEAR THE EXACT ONE: kₑ parts in 2 ^ 53 for a bus's current, 8 for each branch of two ways and 4 for each bus
    pub carried_near : (b : ℕ) → b < G.count
        → Near parts (carried_parts kₑ G.count) (carried G b) (value (carried_by doubles current' G b)) × Fine (carried_by doubles current' G b)
    carried_near b lb =
        let v : (i : ℕ) → 0 < i → i < G.count → (0 < (G.branch i).above) × (0 < (G.branch i).below) = λ i z m. ((sound.volts i z m).0.0, (sound.volts i z m).1.0) in
        let h = accurate_more _ (carried_parts kₑ G.count) _ _ (omega arith) (step_carried b lb).held in
        let e = carried_root G sound.tree v amperes.proper b lb in
        (near_same parts (carried_parts kₑ G.count) _ (carried G b) _ (carried_proper G sound.tree v amperes.proper b lb) (record { re = sym e.re; im = sym e.im }) h.0, h.1)

    -- and of a size that can be calculated with
    pub carried_range : (b : ℕ) → b < G.count → Sized (2 ^ 200) (size (carried_by doubles current' G b))
    carried_range b lb =
        let h = step_carried b lb in
        let w = all_small G.count (le_refl G.count) in
        accurate_range (kₑ + 4 * G.count + 8 * way_branches) _ _ (omega arith) h.held
        (step_low _ w way_branches b _ (le_refl way_branches) lb h.least) (step_high _ w way_branches b _ (le_refl way_branches) lb h.most)
