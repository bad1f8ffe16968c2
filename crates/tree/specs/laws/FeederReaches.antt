-- A feeder at bus 0 feeds every bus: what is seen there has an imaginary part where the feeder has one ("every machine has X above 0").
-- Assumes nothing.
use Rattle.std.specs.Prelude.{ℕ, zero, suc, ◌+◌, ◌*◌, ◌<◌, ◌≡◌, refl, Bool, true, false, cond, [], ◌∷◌, eqb}
use Rattle.std.proofs.Common.{arith, mul-pos, eqb-true}
use Rattle.std.proofs.lemmas.Bool.{eqb-false}
use Rattle.algebra.specs.Reading.{from, read}
use Rattle.enclosure.specs.laws.Nearness.{norm_pos, inverse_proper}
use Rattle.enclosure.specs.Exact.{Point, nothing, is_nothing, sum, times, turned, inverse, exact}
use Rattle.tree.specs.Grid.{joined, neighbour, sum_over, Grid, parent_of, Treelike, through, seen_by, seen}
use Rattle.tree.specs.laws.Walk.{neighbour_joined, neighbour_parent, to_parent, to_child}
use Rattle.tree.specs.laws.Grid.{through_cases}

-- every denominator and every rated voltage is above 0
pub record Proper (G : Grid) : Type 0 where
  pub own : (b : ℕ) → b < G.count → 0 < (G.own b).den
  pub branch : (i : ℕ) → 0 < i → i < G.count → 0 < (G.branch i).z.den
  pub volts : (i : ℕ) → 0 < i → i < G.count → (0 < (G.branch i).above) × (0 < (G.branch i).below)

-- ---- denominators
pub through_proper : (G : Grid) (b i : ℕ) (y : Point) → 0 < (through exact (λ j. (G.branch j).z) G b i y).den
through_proper G b i y = through_cases exact (λ j. (G.branch j).z) G b i y (λ t. 0 < t.den) (λ e. omega arith) (λ e d. inverse_proper _) (λ e d. inverse_proper _)

over_proper : (joins : ℕ → Bool) (f : ℕ → Point) (x : Point) (m : ℕ) → 0 < x.den → ((i : ℕ) → 0 < (f i).den) → 0 < (sum_over sum joins f x m).den
over_proper joins f x zero z h = z
over_proper joins f x (suc m) z h = over_proper joins f (cond (joins m) (sum x (f m)) x) m (go (joins m)) h
  where
    go : (s : Bool) → 0 < (cond s (sum x (f m)) x).den
    go true = mul-pos z (h m)
    go false = z

-- ---- a point with an imaginary part
pub record Fed (x : Point) : Type 0 where
  pub proper : 0 < x.den
  pub reactive : 0 < x.im

fed_left : (x y : Point) → Fed x → 0 < y.den → Fed (sum x y)
fed_left x y h z = record { proper = mul-pos h.proper z; reactive = from (x.im ∷ x.den ∷ y.im ∷ y.den ∷ []) (mul-pos h.reactive z) (search read depth 40 fits 20000) refl }

pub fed_right : (x y : Point) → 0 < x.den → Fed y → Fed (sum x y)
fed_right x y z h = record { proper = mul-pos z h.proper; reactive = from (x.im ∷ x.den ∷ y.im ∷ y.den ∷ []) (mul-pos h.reactive z) (search read depth 40 fits 20000) refl }

pub fed_times : (p q : ℕ) (x : Point) → 0 < p → 0 < q → Fed x → Fed (times p q x)
fed_times p q x hp hq h = record { proper = mul-pos h.proper hq; reactive = mul-pos h.reactive hp }

pub fed_some : (x : Point) → Fed x → is_nothing x ≡ true → ⊥
fed_some x h e = omega (arith, eqb-true (x.re + x.im) 0 e, h.reactive)

pub fed_inverse : (x : Point) → Fed x → Fed (inverse x)
unfolding inverse
fed_inverse x h = go (is_nothing x) refl
  where
    go : (s : Bool) → is_nothing x ≡ s → Fed (cond s nothing (turned x))
    go true e = absurd (fed_some x h e)
    go false e = record { proper = norm_pos x.re x.im (eqb-false (x.re + x.im) 0 e); reactive = mul-pos h.reactive h.proper }

pub over_start : (joins : ℕ → Bool) (f : ℕ → Point) (x : Point) (m : ℕ) → Fed x → ((i : ℕ) → 0 < (f i).den) → Fed (sum_over sum joins f x m)
over_start joins f x zero g h = g
over_start joins f x (suc m) g h = over_start joins f (cond (joins m) (sum x (f m)) x) m (go (joins m)) h
  where
    go : (s : Bool) → Fed (cond s (sum x (f m)) x)
    go true = fed_left x (f m) g (h m)
    go false = g

-- one that is fed feeds the sum
pub over_fed : (joins : ℕ → Bool) (f : ℕ → Point) (x : Point) (u m : ℕ) → 0 < x.den → ((i : ℕ) → 0 < (f i).den) → joins u ≡ true → Fed (f u) → u < m → Fed (sum_over sum joins f x m)
over_fed joins f x u zero z h j g l = absurd (omega arith)
over_fed joins f x u (suc m) z h j g l = go (joins m) (eqb u m) refl refl (λ y d k. over_fed joins f y u m d h j g k)
  where
    go : (s t : Bool) → joins m ≡ s → eqb u m ≡ t → ((y : Point) → 0 < y.den → u < m → Fed (sum_over sum joins f y m)) → Fed (sum_over sum joins f (cond s (sum x (f m)) x) m)
    go true true e q r = over_start joins f _ m (fed_right x (f m) z (rw (eqb-true u m q) at g)) h
    go true false e q r = r _ (mul-pos z (h m)) (omega (arith, eqb-false u m q))
    go false true e q r = let w : joins m ≡ true = rw (eqb-true u m q) at j in let c : ◌≡◌ {A = ℕ} 0 1 = cc in absurd (omega arith)
    go false false e q r = r x z (omega (arith, eqb-false u m q))

module _ (G : Grid) (tree : Treelike G) (proper : Proper G) where
  pub fed_through : (b i : ℕ) (y : Point) → b < G.count → i < G.count → joined (parent_of G) b i ≡ true → Fed y → Fed (through exact (λ j. (G.branch j).z) G b i y)
  fed_through b i y lb li e h =
      through_cases exact (λ j. (G.branch j).z) G b i y Fed
      (λ p. absurd (fed_some y h p))
      (λ p q.
      let z = (to_parent (parent_of G) b i e q).0 in
      let v = proper.volts b z lb in
      fed_inverse _ (fed_right _ _ (proper.branch b z lb) (fed_times _ _ _ v.1 v.0 (fed_times _ _ _ v.1 v.0 (fed_inverse y h)))))
      (λ p q.
      let z = (to_child (parent_of G) b i e q).0 in
      let v = proper.volts i z li in
      fed_inverse _ (fed_times _ _ _ v.0 v.1 (fed_times _ _ _ v.0 v.1 (fed_right _ _ (proper.branch i z li) (fed_inverse y h)))))

  -- from bus 0 down: at b without w, where the way to bus 0 does not lead over w
  fed_walk : Fed (G.own 0) → (fuel b w : ℕ) → b < G.count → b < fuel → (0 < b → parent_of G b ≡ w → ⊥) → Fed (seen_by exact (λ j. (G.branch j).z) G.own G fuel b w)
  fed_walk g zero b w lb lf h = absurd (omega arith)
  fed_walk g (suc f) zero w lb lf h =
      over_start (neighbour (parent_of G) 0 w) (λ i. through exact (λ j. (G.branch j).z) G 0 i (seen_by exact (λ j. (G.branch j).z) G.own G f i 0)) (G.own 0) G.count g
      (λ i. through_proper G 0 i _)
  fed_walk g (suc f) (suc b) w lb lf h =
      let l = tree (suc b) (omega arith) lb in
      over_fed (neighbour (parent_of G) (suc b) w) (λ i. through exact (λ j. (G.branch j).z) G (suc b) i (seen_by exact (λ j. (G.branch j).z) G.own G f i (suc b))) (G.own (suc b))
      (parent_of G (suc b)) G.count (proper.own (suc b) lb) (λ i. through_proper G (suc b) i _)
      (neighbour_parent (parent_of G) (suc b) w l (h (omega arith)))
      (fed_through (suc b) (parent_of G (suc b)) _ lb (omega arith) (neighbour_joined (parent_of G) (suc b) w (parent_of G (suc b)) (neighbour_parent (parent_of G) (suc b) w l (h (omega arith)))).0
      (fed_walk g f (parent_of G (suc b)) (suc b) (omega arith) (omega arith) (λ z e. omega (arith, tree (parent_of G (suc b)) z (omega arith)))))
      (omega arith)

  fed_seen : Fed (G.own 0) → (b : ℕ) → b < G.count → Fed (seen G b b)
  unfolding seen
  fed_seen g b lb = fed_walk g (2 * G.count + 1) b b lb (omega arith) (λ z e. omega (arith, tree b z lb))

-- EVERY BUS IS FED
pub seen_reactive : (G : Grid) → Treelike G → Proper G → 0 < (G.own 0).im → (b : ℕ) → b < G.count → 0 < (seen G b b).im
seen_reactive G t p h b lb = (fed_seen G t p (record { proper = p.own 0 (omega arith); reactive = h }) b lb).reactive
