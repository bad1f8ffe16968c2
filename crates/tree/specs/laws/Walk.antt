-- Laws of the walk: neighbours; its equation, which knows no fuel, and that nothing else satisfies it; two walks side by side.
-- Assumes nothing.
use Rattle.std.specs.Prelude.{ℕ, zero, suc, ◌+◌, ◌*◌, ◌≤◌, ◌<◌, ◌≡◌, refl, Bool, true, false, cond, ◌⊎◌, ltb, eqb}
use Rattle.std.proofs.Common.{sym, ◌∙◌, ap, inl, inr, ⊎_elim, arith, ltb-true, ltb-false, lt-ltb, eqb-true, eq-eqb, ne_eqb}
use Rattle.std.proofs.lemmas.Bool.{eqb-false}
use Rattle.tree.specs.Grid.{joined, neighbour, sum_over, Gather, walk}

-- ---- laws of neighbours
pub joined_cases : (p : ℕ → ℕ) (b i : ℕ) → joined p b i ≡ true → ((i < b) × (p b ≡ i)) ⊎ ((b < i) × (p i ≡ b))
unfolding joined
joined_cases p b i h = go (ltb i b) (ltb b i) refl refl h
  where
    go : (s t : Bool) → ltb i b ≡ s → ltb b i ≡ t → cond s (eqb (p b) i) (cond t (eqb (p i) b) false) ≡ true → ((i < b) × (p b ≡ i)) ⊎ ((b < i) × (p i ≡ b))
    go true t e f h = inl (ltb-true i b e, eqb-true (p b) i h)
    go false true e f h = inr (ltb-true b i f, eqb-true (p i) b h)
    go false false e f h = let z : ◌≡◌ {A = ℕ} 0 1 = cc in absurd (omega arith)

-- by the test that tells a parent from a child
pub to_parent : (p : ℕ → ℕ) (b i : ℕ) → joined p b i ≡ true → ltb i b ≡ true → (0 < b) × (p b ≡ i)
to_parent p b i h e = let l = ltb-true i b e in ⊎_elim (λ u. (omega arith, u.1)) (λ u. absurd (omega arith)) (joined_cases p b i h)

pub to_child : (p : ℕ → ℕ) (b i : ℕ) → joined p b i ≡ true → ltb i b ≡ false → (0 < i) × (p i ≡ b)
to_child p b i h e = let l = ltb-false i b e in ⊎_elim (λ u. absurd (omega arith)) (λ u. (omega arith, u.1)) (joined_cases p b i h)

pub neighbour_joined : (p : ℕ → ℕ) (b w i : ℕ) → neighbour p b w i ≡ true → (joined p b i ≡ true) × (i ≡ w → ⊥)
unfolding neighbour
neighbour_joined p b w i h = go (eqb i w) refl h
  where
    go : (s : Bool) → eqb i w ≡ s → cond s false (joined p b i) ≡ true → (joined p b i ≡ true) × (i ≡ w → ⊥)
    go true e h = let z : ◌≡◌ {A = ℕ} 0 1 = cc in absurd (omega arith)
    go false e h = (h, eqb-false i w e)

-- a bus is joined to its parent
pub neighbour_parent : (p : ℕ → ℕ) (b w : ℕ) → p b < b → (p b ≡ w → ⊥) → neighbour p b w (p b) ≡ true
unfolding neighbour joined
neighbour_parent p b w l h = rw (ne_eqb (p b) w h, lt-ltb (p b) b l) (eq-eqb (p b) (p b) refl)

-- a neighbour by two lists of parents that agree
neighbour_same : (p p' : ℕ → ℕ) (b w i : ℕ) → p b ≡ p' b → p i ≡ p' i → neighbour p b w i ≡ neighbour p' b w i
unfolding neighbour joined
neighbour_same p p' b w i e f = rw (e, f)

-- ---- laws of `sum_over`
pub over_same : {A : Type 0} (add : A → A → A) (joins joins' : ℕ → Bool) (g g' : ℕ → A) (z : A) (n : ℕ)
    → ((i : ℕ) → i < n → joins i ≡ joins' i) → ((i : ℕ) → i < n → joins i ≡ true → g i ≡ g' i) → sum_over add joins g z n ≡ sum_over add joins' g' z n
over_same add joins joins' g g' z zero j h = refl
over_same {A} add joins joins' g g' z (suc k) j h =
    over_same add joins joins' g g' (cond (joins k) (add z (g k)) z) k (λ i l. j i (omega arith)) (λ i l. h i (omega arith))
    ∙ ap (λ (x : A). sum_over add joins' g' x k) (rw (← j k (omega arith)) (go (joins k) refl))
  where
    go : (s : Bool) → joins k ≡ s → cond s (add z (g k)) z ≡ cond s (add z (g' k)) z
    go true e = ap (add z) (h k (omega arith) e)
    go false e = refl

module _ {A : Type 0} (add : A → A → A) (joins : ℕ → Bool) (g : ℕ → A) where
  -- where none joins, nothing is added
  pub over_none : (z : A) (m : ℕ) → ((i : ℕ) → i < m → joins i ≡ false) → sum_over add joins g z m ≡ z
  over_none z zero h = refl
  over_none z (suc m) h = rw (h m (omega arith)) (over_none z m (λ i l. h i (omega arith)))

  -- one that joins, and none beside it
  pub over_one : (z : A) (u m : ℕ) → u < m → joins u ≡ true → ((i : ℕ) → i < m → (i ≡ u → ⊥) → joins i ≡ false) → sum_over add joins g z m ≡ add z (g u)
  over_one z u zero l t h = absurd (omega arith)
  over_one z u (suc m) l t h = go (eqb u m) refl (over_one z u m)
    where
      go : (s : Bool) → eqb u m ≡ s → (u < m → joins u ≡ true → ((i : ℕ) → i < m → (i ≡ u → ⊥) → joins i ≡ false) → sum_over add joins g z m ≡ add z (g u))
          → sum_over add joins g (cond (joins m) (add z (g m)) z) m ≡ add z (g u)
      go true e r =
          let k : u ≡ m = eqb-true u m e in
          let j : joins m ≡ true = rw k at t in
          rw j (over_none (add z (g m)) m (λ i n. h i (omega arith) (λ q. omega arith)) ∙ ap (λ (v : ℕ). add z (g v)) (sym k))
      go false e r =
          let k = eqb-false u m e in
          rw (h m (omega arith) (λ q. k (sym q))) (r (omega arith) t (λ i n. h i (omega arith)))

-- ---- fuel: h is a height that grows from parent to child and is at most D; then 2·D + 1 steps are enough
pub record Tree (p : ℕ → ℕ) (n D : ℕ) (h : ℕ → ℕ) : Type 0 where
  pub grows : (i : ℕ) → 0 < i → i < n → h (p i) < h i
  pub most : (i : ℕ) → i < n → h i ≤ D

-- k steps are enough at b without w: for the way up and down again, or for the way down
abbrev pub Enough : (ℕ → ℕ) → ℕ → (ℕ → ℕ) → ℕ → ℕ → ℕ → Type 0
Enough p D h k b w = (D + h b < k) ⊎ ((w ≡ p b) × (D < k + h b))

module _ (p : ℕ → ℕ) (n D : ℕ) (h : ℕ → ℕ) (t : Tree p n D h) where
  pub enough_not_zero : (b w : ℕ) → b < n → Enough p D h 0 b w → ⊥
  enough_not_zero b w l = ⊎_elim (λ e. omega arith) (λ e. omega (arith, t.most b l))

  pub enough_next : (k b w i : ℕ) → b < n → i < n → neighbour p b w i ≡ true → Enough p D h (suc k) b w → Enough p D h k i b
  enough_next k b w i l m e f = ⊎_elim up down (joined_cases p b i (neighbour_joined p b w i e).0)
    where
      up : (i < b) × (p b ≡ i) → Enough p D h k i b
      up u = ⊎_elim
          (λ g. inl (let z : h i < h b = rw u.1 at (t.grows b (omega arith) l) in omega arith))
          (λ g. absurd ((neighbour_joined p b w i e).1 (sym u.1 ∙ sym g.0)))
          f

      down : (b < i) × (p i ≡ b) → Enough p D h k i b
      down u =
          let z : h b < h i = rw u.1 at (t.grows i (omega arith) m) in
          inr (sym u.1, ⊎_elim (λ g. omega arith) (λ g. omega arith) f)

  pub enough : (k b w : ℕ) → b < n → 2 * D < k → Enough p D h k b w
  enough k b w l e = inl (omega (arith, t.most b l))

module _ {A : Type 0} (G : Gather A) (p : ℕ → ℕ) (n D : ℕ) (h : ℕ → ℕ) (t : Tree p n D h) where
  -- any two fuels that are enough give the same
  fuel_same : (j k b w : ℕ) → b < n → Enough p D h j b w → Enough p D h k b w → walk G p n j b w ≡ walk G p n k b w
  fuel_same zero k b w l e f = absurd (enough_not_zero p n D h t b w l e)
  fuel_same (suc j) zero b w l e f = absurd (enough_not_zero p n D h t b w l f)
  fuel_same (suc j) (suc k) b w l e f =
      over_same G.add (neighbour p b w) (neighbour p b w) (λ i. G.through b i (walk G p n j i b)) (λ i. G.through b i (walk G p n k i b)) (G.own b) n
      (λ i m. refl) (λ i m g. ap (G.through b i) (fuel_same j k i b m (enough_next p n D h t j b w i l m g e) (enough_next p n D h t k b w i l m g f)))

  -- MORE FUEL CHANGES NOTHING
  pub more_fuel : (j k b w : ℕ) → b < n → 2 * D < j → 2 * D < k → walk G p n j b w ≡ walk G p n k b w
  more_fuel j k b w l e f = fuel_same j k b w l (enough p n D h t j b w l e) (enough p n D h t k b w l f)

  -- the walk satisfies the equation that has no fuel
  pub walk_equation : (k b w : ℕ) → b < n → 2 * D < k
      → walk G p n k b w ≡ sum_over G.add (neighbour p b w) (λ i. G.through b i (walk G p n k i b)) (G.own b) n
  walk_equation k b w l e = more_fuel k (suc k) b w l e (omega arith)

  -- and whatever satisfies that equation is the walk
  only : (S : ℕ → ℕ → A)
      → ((b w : ℕ) → b < n → S b w ≡ sum_over G.add (neighbour p b w) (λ i. G.through b i (S i b)) (G.own b) n)
      → (k b w : ℕ) → b < n → Enough p D h k b w → S b w ≡ walk G p n k b w
  only S q zero b w l e = absurd (enough_not_zero p n D h t b w l e)
  only S q (suc k) b w l e =
      q b w l
      ∙ over_same G.add (neighbour p b w) (neighbour p b w) (λ i. G.through b i (S i b)) (λ i. G.through b i (walk G p n k i b)) (G.own b) n
      (λ i m. refl) (λ i m g. ap (G.through b i) (only S q k i b m (enough_next p n D h t k b w i l m g e)))

  pub only_walk : (S : ℕ → ℕ → A)
      → ((b w : ℕ) → b < n → S b w ≡ sum_over G.add (neighbour p b w) (λ i. G.through b i (S i b)) (G.own b) n)
      → (k b w : ℕ) → b < n → 2 * D < k → S b w ≡ walk G p n k b w
  only_walk S q k b w l e = only S q k b w l (enough p n D h t k b w l e)

-- the bus number is such a height
pub by_number : (p : ℕ → ℕ) (n : ℕ) → ((i : ℕ) → 0 < i → i < n → p i < i) → Tree p n n (λ i. i)
by_number p n h = record { grows = h; most = λ i l. omega arith }

-- ---- two walks over the same tree that are related bus by bus
module _ {A B : Type 0} (G : Gather A) (H : Gather B) (p : ℕ → ℕ) (n : ℕ) (R : ℕ → A → B → Type 0)
    (own : (b : ℕ) → b < n → R b (G.own b) (H.own b))
    (adds : (b : ℕ) (x x' : A) (y y' : B) → b < n → R b x y → R b x' y' → R b (G.add x x') (H.add y y'))
    (comes : (b i : ℕ) (x : A) (y : B) → b < n → i < n → joined p b i ≡ true → R i x y → R b (G.through b i x) (H.through b i y)) where
  over_related : (b : ℕ) → b < n → (joins : ℕ → Bool) (f : ℕ → A) (g : ℕ → B) (x : A) (y : B) (m : ℕ) → R b x y
      → ((i : ℕ) → i < m → joins i ≡ true → R b (f i) (g i)) → R b (sum_over G.add joins f x m) (sum_over H.add joins g y m)
  over_related b l joins f g x y zero r h = r
  over_related b l joins f g x y (suc m) r h = over_related b l joins f g (cond (joins m) (G.add x (f m)) x) (cond (joins m) (H.add y (g m)) y) m (go (joins m) refl) (λ i s. h i (omega arith))
    where
      go : (s : Bool) → joins m ≡ s → R b (cond s (G.add x (f m)) x) (cond s (H.add y (g m)) y)
      go true e = adds b _ _ _ _ l r (h m (omega arith) e)
      go false e = r

  pub walk_related : (fuel b w : ℕ) → b < n → R b (walk G p n fuel b w) (walk H p n fuel b w)
  walk_related zero b w l = own b l
  walk_related (suc fuel) b w l =
      over_related b l (neighbour p b w) (λ i. G.through b i (walk G p n fuel i b)) (λ i. H.through b i (walk H p n fuel i b)) (G.own b) (H.own b) n (own b l)
      (λ i m g. comes b i _ _ l m (neighbour_joined p b w i g).0 (walk_related fuel i b m))

-- the same walk, where parents, what the buses have and what comes through agree bus by bus
pub walk_same : {A : Type 0} (add : A → A → A) (own own' : ℕ → A) (through through' : ℕ → ℕ → A → A) (p p' : ℕ → ℕ) (n : ℕ)
    → ((b : ℕ) → b < n → p b ≡ p' b) → ((b : ℕ) → b < n → own b ≡ own' b)
    → ((b i : ℕ) (x : A) → b < n → i < n → joined p b i ≡ true → through b i x ≡ through' b i x)
    → (fuel b w : ℕ) → b < n
    → walk (record { own = own; add = add; through = through }) p n fuel b w ≡ walk (record { own = own'; add = add; through = through' }) p' n fuel b w
walk_same add own own' through through' p p' n hp ho ht zero b w l = ho b l
walk_same {A} add own own' through through' p p' n hp ho ht (suc fuel) b w l =
    rw (← ho b l)
    (over_same add (neighbour p b w) (neighbour p' b w) (λ i. through b i (here fuel i b)) (λ i. through' b i (there fuel i b)) (own b) n
    (λ i m. neighbour_same p p' b w i (hp b l) (hp i m))
    (λ i m e. ht b i (here fuel i b) l m (neighbour_joined p b w i e).0 ∙ ap (through' b i) (walk_same add own own' through through' p p' n hp ho ht fuel i b m)))
  where
    here : ℕ → ℕ → ℕ → A
    here = walk (record { own = own; add = add; through = through }) p n

    there : ℕ → ℕ → ℕ → A
    there = walk (record { own = own'; add = add; through = through' }) p' n
