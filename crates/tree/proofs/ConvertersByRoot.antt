-- The converters' part by the walk is the one by recursion towards bus 0: the common part of two ways cancels.
-- Assumes nothing.
use Rattle.std.specs.Prelude.{◌≡◌, Bool, true, false, cond, [], ◌∷◌, ltb, eqb, ℕ, zero, suc, ◌+◌, ◌*◌, ◌≤◌, ◌<◌}
use Rattle.std.proofs.Common.{◌∙◌, arith, le_refl, mul_assoc, mul_right_comm, ltb-true, eqb-true}
use Rattle.std.proofs.Math.Path.{refl, sym, ap}
use Rattle.std.proofs.Math.Nat.{mul-pos}
use Rattle.std.proofs.lemmas.Bool.{eqb-false}
use Rattle.algebra.specs.Reading.{identity, read}
use Rattle.enclosure.specs.Exact.{Point, exact, sum, times}
use Rattle.enclosure.specs.laws.Nearness.{Same}
use Rattle.tree.specs.laws.Equations.{equal, equal_over, ◌⊕◌, ◌⊛◌}
use Rattle.tree.specs.Grid.{joined, toward, Grid, parent_of, Treelike, upward, downward, across, currents, carried_without, carried}
use Rattle.tree.specs.laws.Walk.{to_parent, to_child, walk_related}
use Rattle.tree.specs.laws.Toward.{toward_more, depth}
use Rattle.tree.specs.laws.Sums.{sums}
use Rattle.tree.specs.laws.EachBusOnce.{plain, total_fuel}
use Rattle.tree.specs.laws.Converters.{across_cases, to_root_related, from_root_related}
use Rattle.tree.specs.Converters.{to_root, gathered, carried_by}

-- ---- the product of v along the way from b to bus 0
along : (ℕ → ℕ) → (ℕ → ℕ) → ℕ → ℕ
along p v b = toward p (λ i x. v i * x) 1 b b

along_more : (p v : ℕ → ℕ) (b : ℕ) → p b < b → along p v b ≡ v b * along p v (p b)
unfolding along
along_more p v = toward_more p (λ i x. v i * x) 1

along_pos : (p v : ℕ → ℕ) (n : ℕ) → ((i : ℕ) → 0 < i → i < n → 0 < v i) → (b : ℕ) → b < n → 0 < along p v b
unfolding along
along_pos p v n h b = go b b
  where
    go : (f b : ℕ) → b < n → 0 < toward p (λ i x. v i * x) 1 f b
    go zero b l = omega arith
    go (suc f) b l = step (ltb (p b) b) refl (go f (p b))
      where
        step : (t : Bool) → ltb (p b) b ≡ t → (p b < n → 0 < toward p (λ i x. v i * x) 1 f (p b)) → 0 < cond t (v b * toward p (λ i x. v i * x) 1 f (p b)) 1
        step true e r = let m = ltb-true (p b) b e in mul-pos (h b (omega arith) l) (r (omega arith))
        step false e r = omega arith

-- ---- a common denominator: the product of all, and of all but one
product : (ℕ → ℕ) → ℕ → ℕ
product d zero = 1
product d (suc n) = product d n * d n

product_pos : (d : ℕ → ℕ) (n : ℕ) → ((i : ℕ) → i < n → 0 < d i) → 0 < product d n
unfolding product
product_pos d zero h = omega arith
product_pos d (suc n) h = mul-pos (product_pos d n (λ i l. h i (omega arith))) (h n (omega arith))

others : (ℕ → ℕ) → ℕ → ℕ → ℕ
others d zero i = 1
others d (suc n) i = cond (eqb i n) (product d n) (others d n i * d n)

others_is : (d : ℕ → ℕ) (n i : ℕ) → i < n → others d n i * d i ≡ product d n
unfolding product others
others_is d zero i l = absurd (omega arith)
others_is d (suc n) i l = go (eqb i n) refl (others_is d n i)
  where
    go : (s : Bool) → eqb i n ≡ s → (i < n → others d n i * d i ≡ product d n) → cond s (product d n) (others d n i * d n) * d i ≡ product d n * d n
    go true e r = ap (λ (j : ℕ). product d n * d j) (eqb-true i n e)
    go false e r = mul_right_comm (others d n i) (d n) (d i) ∙ ap (λ (x : ℕ). x * d n) (r (omega (arith, eqb-false i n e)))

-- ---- (c·re + e·im)·n/a of a point is t/Q: with c = 1, e = 0 it speaks of the real part, with c = 0, e = 1 of the imaginary part
record At (c e Q n a : ℕ) (x : Point) (t : ℕ) : Type 0 where
  pub proper : 0 < x.den
  pub is : (c * x.re + e * x.im) * n * Q ≡ t * (x.den * a)

at_sum : (c e Q n a : ℕ) (x x' : Point) (t t' : ℕ) → At c e Q n a x t → At c e Q n a x' t' → At c e Q n a (sum x x') (t + t')
at_sum c e Q n a x x' t t' h h' =
    record {
      proper = mul-pos h.proper h'.proper;
      is =
          equal (c ∷ e ∷ Q ∷ n ∷ a ∷ x.re ∷ x.im ∷ x.den ∷ x'.re ∷ x'.im ∷ x'.den ∷ t ∷ t' ∷ []) (x'.den ⊛ h.is ⊕ x.den ⊛ h'.is)
          (search read depth 40 fits 20000) refl;
    }

-- to the parent: below q, above p
at_up : (c e Q n a p q : ℕ) (x : Point) (t : ℕ) → 0 < p → At c e Q (q * n) (p * a) x t → At c e Q n a (times q p x) t
at_up c e Q n a p q x t z h =
    record {
      proper = mul-pos h.proper z;
      is = equal (c ∷ e ∷ Q ∷ n ∷ a ∷ p ∷ q ∷ x.re ∷ x.im ∷ x.den ∷ t ∷ []) h.is (search read depth 40 fits 20000) refl;
    }

at_down : (c e Q n a p q : ℕ) (x : Point) (t : ℕ) → 0 < q → At c e Q n a x t → At c e Q (q * n) (p * a) (times p q x) t
at_down c e Q n a p q x t z h =
    record {
      proper = mul-pos h.proper z;
      is = equal (c ∷ e ∷ Q ∷ n ∷ a ∷ p ∷ q ∷ x.re ∷ x.im ∷ x.den ∷ t ∷ []) (p * q ⊛ h.is) (search read depth 40 fits 20000) refl;
    }

at_same : (c e Q n a : ℕ) (x y : Point) (t : ℕ) → 0 < n * Q → At c e Q n a x t → At c e Q n a y t → (c * x.re + e * x.im) * y.den ≡ (c * y.re + e * y.im) * x.den
at_same c e Q n a x y t z h g =
    equal_over (c ∷ e ∷ Q ∷ n ∷ a ∷ x.re ∷ x.im ∷ x.den ∷ y.re ∷ y.im ∷ y.den ∷ t ∷ []) (n * Q) z (y.den ⊛ h.is ⊕ x.den ⊛ sym g.is) (search read depth 40 fits 20000) refl

module _ (G : Grid) (tree : Treelike G) (volts : (i : ℕ) → 0 < i → i < G.count → (0 < (G.branch i).above) × (0 < (G.branch i).below))
    (proper : (i : ℕ) → i < G.count → 0 < (G.current i).den) (c e : ℕ) where
  aboves : ℕ → ℕ
  aboves = along (parent_of G) (λ i. (G.branch i).above)

  belows : ℕ → ℕ
  belows = along (parent_of G) (λ i. (G.branch i).below)

  aboves_pos : (b : ℕ) → b < G.count → 0 < aboves b
  unfolding aboves
  aboves_pos = along_pos (parent_of G) (λ i. (G.branch i).above) G.count (λ i z m. (volts i z m).0)

  belows_pos : (b : ℕ) → b < G.count → 0 < belows b
  unfolding belows
  belows_pos = along_pos (parent_of G) (λ i. (G.branch i).below) G.count (λ i z m. (volts i z m).1)

  -- the denominator of a bus's current at bus 0, and what the current is over all of them
  under : ℕ → ℕ
  under i = (G.current i).den * aboves i

  Q : ℕ
  Q = product under G.count

  share : ℕ → ℕ
  share i = (c * (G.current i).re + e * (G.current i).im) * belows i * others under G.count i

  AtBus : ℕ → Point → ℕ → Type 0
  AtBus b = At c e Q (belows b) (aboves b)

  at_own : (i : ℕ) → i < G.count → AtBus i (G.current i) (share i)
  unfolding AtBus Q share under
  at_own i l =
      record {
        proper = proper i l;
        is =
            ap (λ (q : ℕ). (c * (G.current i).re + e * (G.current i).im) * belows i * q) (sym (others_is under G.count i l))
            ∙ sym (mul_assoc ((c * (G.current i).re + e * (G.current i).im) * belows i) (others under G.count i) ((G.current i).den * aboves i));
      }

  at_add : (b : ℕ) (x x' : Point) (t t' : ℕ) → AtBus b x t → AtBus b x' t' → AtBus b (sum x x') (t + t')
  unfolding AtBus
  at_add b = at_sum c e Q (belows b) (aboves b)

  at_rises : (b : ℕ) (x : Point) (t : ℕ) → 0 < b → b < G.count → AtBus b x t → AtBus (parent_of G b) (upward exact G b x) t
  unfolding AtBus aboves belows
  at_rises b x t z l h =
      at_up c e Q (belows (parent_of G b)) (aboves (parent_of G b)) (G.branch b).above (G.branch b).below x t (volts b z l).0
      (rw (along_more (parent_of G) (λ i. (G.branch i).below) b (tree b z l), along_more (parent_of G) (λ i. (G.branch i).above) b (tree b z l)) at h)

  at_falls : (b : ℕ) (x : Point) (t : ℕ) → 0 < b → b < G.count → AtBus (parent_of G b) x t → AtBus b (downward exact G b x) t
  unfolding AtBus aboves belows
  at_falls b x t z l h =
      rw (along_more (parent_of G) (λ i. (G.branch i).below) b (tree b z l), along_more (parent_of G) (λ i. (G.branch i).above) b (tree b z l))
      (at_down c e Q (belows (parent_of G b)) (aboves (parent_of G b)) (G.branch b).above (G.branch b).below x t (volts b z l).1 h)

  at_across : (b i : ℕ) (x : Point) (t : ℕ) → b < G.count → i < G.count → joined (parent_of G) b i ≡ true → AtBus i x t → AtBus b (across exact G b i x) t
  at_across b i x t lb li j h =
      across_cases exact G b i x (λ y. AtBus b y t)
      (λ d. let u = to_parent (parent_of G) b i j d in at_falls b x t u.0 lb (rw u.1 h))
      (λ d. let u = to_child (parent_of G) b i j d in rw u.1 at (at_rises i x t u.0 li h))

  -- by the walk
  at_carried : (b : ℕ) → b < G.count → AtBus b (carried G b) (sums share G.count)
  unfolding carried_without
  at_carried b l =
      rw (← total_fuel (parent_of G) G.count (2 * G.count + 1) tree (omega arith) share b l)
      (walk_related (currents exact G.current G) (plain share) (parent_of G) G.count AtBus at_own (λ b x x' t t' m. at_add b x x' t t') at_across (2 * G.count + 1) b b l)

  -- by recursion towards bus 0
  at_to_root : (i : ℕ) → i < G.count → AtBus 0 (to_root exact G i (G.current i)) (share i)
  at_to_root i l =
      to_root_related exact exact G tree (depth (parent_of G) i) (λ d b x y. AtBus b x (share i)) (λ d b x y m z k h. at_rises b x (share i) z k h) (λ d b x y m z k h. at_falls b x (share i) z k h)
      i 0 (depth (parent_of G) i) (G.current i) (G.current i) l (omega arith) (le_refl (depth (parent_of G) i)) (at_own i l)

  at_gathered : (n : ℕ) → n ≤ G.count → AtBus 0 (gathered exact G.current G n) (sums share n)
  unfolding AtBus
  at_gathered zero l = record { proper = omega arith; is = identity (c ∷ e ∷ Q ∷ belows 0 ∷ aboves 0 ∷ []) (search read depth 40 fits 20000) refl }
  at_gathered (suc n) l = at_sum c e Q (belows 0) (aboves 0) _ _ _ _ (at_gathered n (omega arith)) (at_to_root n l)

  at_rooted : (b : ℕ) → b < G.count → AtBus b (carried_by exact G.current G b) (sums share G.count)
  at_rooted b l =
      from_root_related exact exact G tree (depth (parent_of G) b) (λ d i x y. AtBus i x (sums share G.count)) (λ d i x y m z k h. at_rises i x _ z k h) (λ d i x y m z k h. at_falls i x _ z k h)
      b 0 (depth (parent_of G) b) _ (gathered exact G.current G G.count) l (omega arith) (le_refl (depth (parent_of G) b)) (at_gathered G.count (le_refl G.count))

  same_part : (b : ℕ) → b < G.count
      → (c * (carried G b).re + e * (carried G b).im) * (carried_by exact G.current G b).den ≡ (c * (carried_by exact G.current G b).re + e * (carried_by exact G.current G b).im) * (carried G b).den
  unfolding AtBus Q under
  same_part b l =
      at_same c e Q (belows b) (aboves b) (carried G b) (carried_by exact G.current G b) (sums share G.count)
      (mul-pos (belows_pos b l) (product_pos under G.count (λ i m. mul-pos (proper i m) (aboves_pos i m)))) (at_carried b l) (at_rooted b l)

module _ (G : Grid) (tree : Treelike G) (volts : (i : ℕ) → 0 < i → i < G.count → (0 < (G.branch i).above) × (0 < (G.branch i).below))
    (proper : (i : ℕ) → i < G.count → 0 < (G.current i).den) where
  pub carried_proper : (b : ℕ) → b < G.count → 0 < (carried G b).den
  unfolding AtBus
  carried_proper b l = (at_carried G tree volts proper 1 0 b l).proper

  -- ONE PASS SERVES: the walk's sum is that of the currents carried to bus 0, carried on to b
  pub carried_root : (b : ℕ) → b < G.count → Same (carried G b) (carried_by exact G.current G b)
  carried_root b l = record {
    re = real (carried G b) (carried_by exact G.current G b) (same_part G tree volts proper 1 0 b l);
    im = imaginary (carried G b) (carried_by exact G.current G b) (same_part G tree volts proper 0 1 b l);
  }
    where
      real : (x y : Point) → (1 * x.re + 0 * x.im) * y.den ≡ (1 * y.re + 0 * y.im) * x.den → x.re * y.den ≡ y.re * x.den
      real x y h = equal (x.re ∷ x.im ∷ x.den ∷ y.re ∷ y.im ∷ y.den ∷ []) h (search read depth 40 fits 20000) refl

      imaginary : (x y : Point) → (0 * x.re + 1 * x.im) * y.den ≡ (0 * y.re + 1 * y.im) * x.den → x.im * y.den ≡ y.im * x.den
      imaginary x y h = equal (x.re ∷ x.im ∷ x.den ∷ y.re ∷ y.im ∷ y.den ∷ []) h (search read depth 40 fits 20000) refl
