-- A walk that changes nothing on its way gathers every bus exactly once, from wherever it starts.
-- Assumes nothing.
use Rattle.std.specs.Prelude.{ℕ, zero, suc, ◌+◌, ◌*◌, ◌≤◌, ◌<◌, ◌≡◌, refl, Bool, true, false, cond, ltb, eqb}
use Rattle.std.proofs.Common.{sym, ◌∙◌, ap, subst, ⊎_elim, arith, ltb-true, ltb-false, lt-ltb, le-ltb, eqb-true, eq-eqb, ne_eqb}
use Rattle.std.proofs.lemmas.Bool.{eqb-false}
use Rattle.tree.specs.laws.Sums.{sums}
use Rattle.tree.specs.Grid.{joined, neighbour, sum_over, Gather, walk}
use Rattle.tree.specs.laws.Walk.{joined_cases, neighbour_joined, neighbour_parent, over_same, over_none, over_one, Tree, Enough, enough, more_fuel, by_number, enough_not_zero, enough_next}

abbrev pub plain : (ℕ → ℕ) → Gather ℕ
plain f = record { own = f; add = ◌+◌; through = λ b i x. x }

-- where none joins, and where one does
no : (t : Bool) → (t ≡ true → ⊥) → t ≡ false
no true h = absurd (h refl)
no false h = refl

none_joins : (joins : ℕ → Bool) (g : ℕ → ℕ) (z m : ℕ) → ((i : ℕ) → i < m → joins i ≡ true → ⊥) → sum_over ◌+◌ joins g z m ≡ z
none_joins joins g z m h = over_none ◌+◌ joins g z m (λ i l. no (joins i) (h i l))

one_joins : (joins : ℕ → Bool) (g : ℕ → ℕ) (z u m : ℕ) → u < m → joins u ≡ true → ((i : ℕ) → i < m → joins i ≡ true → i ≡ u) → sum_over ◌+◌ joins g z m ≡ z + g u
one_joins joins g z u m l t h = over_one ◌+◌ joins g z u m l t (λ i k d. no (joins i) (λ e. d (h i k e)))

over_start : (joins : ℕ → Bool) (g : ℕ → ℕ) (z c m : ℕ) → sum_over ◌+◌ joins g (z + c) m ≡ sum_over ◌+◌ joins g z m + c
over_start joins g z c zero = refl
over_start joins g z c (suc m) = go (joins m) (over_start joins g (z + g m) c m) (over_start joins g z c m)
  where
    swap : (a b d : ℕ) → a + b + d ≡ a + d + b
    swap a b d = omega arith

    go : (s : Bool) → sum_over ◌+◌ joins g (z + g m + c) m ≡ sum_over ◌+◌ joins g (z + g m) m + c → sum_over ◌+◌ joins g (z + c) m ≡ sum_over ◌+◌ joins g z m + c
        → sum_over ◌+◌ joins g (cond s (z + c + g m) (z + c)) m ≡ sum_over ◌+◌ joins g (cond s (z + g m) z) m + c
    go true q r = ap (λ (x : ℕ). sum_over ◌+◌ joins g x m) (swap z c (g m)) ∙ q
    go false q r = r

-- the last bus handed to its parent
abbrev handed : (ℕ → ℕ) → (ℕ → ℕ) → ℕ → ℕ → ℕ
handed p f n j = cond (eqb (p n) j) (f j + f n) (f j)

-- a bus below n has bus n for a neighbour exactly where it is its parent
last_neighbour : (p : ℕ → ℕ) (n b w : ℕ) → b < n → (n ≡ w → ⊥) → neighbour p b w n ≡ eqb (p n) b
unfolding neighbour joined
last_neighbour p n b w l m = rw (ne_eqb n w m, le-ltb n b (omega arith), lt-ltb b n l)

sums_handed : (p f : ℕ → ℕ) (n m : ℕ) → (p n < m → sums (handed p f n) m ≡ sums f m + f n) × (m ≤ p n → sums (handed p f n) m ≡ sums f m)
sums_handed p f n zero = (λ l. absurd (omega arith), λ l. refl)
sums_handed p f n (suc m) =
    let r = sums_handed p f n m in
    (λ l. go (eqb (p n) m) refl r.0 r.1 l, λ l. stay l r.1)
  where
    go : (s : Bool) → eqb (p n) m ≡ s → (p n < m → sums (handed p f n) m ≡ sums f m + f n) → (m ≤ p n → sums (handed p f n) m ≡ sums f m)
        → p n < suc m → sums (handed p f n) m + cond s (f m + f n) (f m) ≡ sums f m + f m + f n
    go true e q r l = omega (arith, r (omega (arith, eqb-true (p n) m e)))
    go false e q r l = omega (arith, q (omega (arith, eqb-false (p n) m e)))

    stay : suc m ≤ p n → (m ≤ p n → sums (handed p f n) m ≡ sums f m) → sums (handed p f n) m + handed p f n m ≡ sums f m + f m
    stay l r = rw (ne_eqb (p n) m (λ e. omega arith)) (ap (λ (x : ℕ). x + f m) (r (omega arith)))

module _ (p : ℕ → ℕ) (D : ℕ) (h : ℕ → ℕ) where
  -- the last bus has no neighbour but its parent
  leaf : (f : ℕ → ℕ) (n : ℕ) (k : ℕ) → walk (plain f) p (suc n) k n (p n) ≡ f n
  leaf f n zero = refl
  leaf f n (suc k) =
      none_joins (neighbour p n (p n)) (λ i. walk (plain f) p (suc n) k i n) (f n) (suc n)
      (λ i l e. let j = neighbour_joined p n (p n) i e in ⊎_elim (λ u. j.1 (sym u.1)) (λ u. absurd (omega arith)) (joined_cases p n i j.0))

  smaller_tree : (n : ℕ) → Tree p (suc n) D h → Tree p n D h
  smaller_tree n t = record { grows = λ i z l. t.grows i z (omega arith); most = λ i l. t.most i (omega arith) }

  -- what a bus below the last gathers, with or without the last bus among its neighbours
  rest : (f : ℕ → ℕ) (n k b w : ℕ) → b < n → (n ≡ w → ⊥) → ((i : ℕ) → i < n → neighbour p b w i ≡ true → walk (plain f) p (suc n) k i b ≡ walk (plain (handed p f n)) p n k i b)
      → sum_over ◌+◌ (neighbour p b w) (λ i. walk (plain f) p (suc n) k i b) (f b) (suc n) ≡ sum_over ◌+◌ (neighbour p b w) (λ i. walk (plain (handed p f n)) p n k i b) (handed p f n b) n
  rest f n k b w l m r = rw (last_neighbour p n b w l m) (go (eqb (p n) b) refl)
    where
      g : ℕ → ℕ
      g i = walk (plain f) p (suc n) k i b

      g' : ℕ → ℕ
      g' i = walk (plain (handed p f n)) p n k i b

      x : ℕ → ℕ
      x z = sum_over ◌+◌ (neighbour p b w) (λ i. walk (plain f) p (suc n) k i b) z n

      x' : ℕ → ℕ
      x' z = sum_over ◌+◌ (neighbour p b w) (λ i. walk (plain (handed p f n)) p n k i b) z n

      same : (z : ℕ) → x z ≡ x' z
      same z = over_same ◌+◌ (neighbour p b w) (neighbour p b w) g g' z n (λ i l. refl) r

      go : (s : Bool) → eqb (p n) b ≡ s → x (cond s (f b + g n) (f b)) ≡ x' (cond s (f b + f n) (f b))
      go true e =
          let q : p n ≡ b = eqb-true (p n) b e in
          let u : g n ≡ f n = rw (← q) (leaf f n k) in
          ap (λ (v : ℕ). x (f b + v)) u ∙ same (f b + f n)
      go false e = same (f b)

  -- away from the last bus, it may as well be handed to its parent
  smaller : (f : ℕ → ℕ) (n : ℕ) → Tree p (suc n) D h → (k b w : ℕ) → b < n → (n ≡ w → ⊥) → Enough p D h k b w
      → walk (plain f) p (suc n) k b w ≡ walk (plain (handed p f n)) p n k b w
  smaller f n t zero b w l m e = absurd (enough_not_zero p (suc n) D h t b w (omega arith) e)
  smaller f n t (suc k) b w l m e =
      rest f n k b w l m (λ i s g. smaller f n t k i b s (λ q. omega arith) (enough_next p (suc n) D h t k b w i (omega arith) (omega arith) g e))

-- ---- from the last bus
joined_self : (p : ℕ → ℕ) (b : ℕ) → joined p b b ≡ false
unfolding joined
joined_self p b = rw (le-ltb b b (omega arith))

neighbour_other : (p : ℕ → ℕ) (b w i : ℕ) → (i ≡ w → ⊥) → neighbour p b w i ≡ joined p b i
unfolding neighbour
neighbour_other p b w i h = rw (ne_eqb i w h)

neighbour_none : (p : ℕ → ℕ) (b i : ℕ) → neighbour p b b i ≡ joined p b i
unfolding neighbour
neighbour_none p b i = go (eqb i b) refl
  where
    go : (s : Bool) → eqb i b ≡ s → cond s false (joined p b i) ≡ joined p b i
    go true e = rw (eqb-true i b e) (sym (joined_self p b))
    go false e = refl

neighbour_without : (p : ℕ → ℕ) (b w : ℕ) → neighbour p b w w ≡ false
unfolding neighbour
neighbour_without p b w = rw (eq-eqb w w refl)

-- what the parent of the last bus n gathers without n, and n itself
aside : (p : ℕ → ℕ) (n : ℕ) → p n < n → (g : ℕ → ℕ) (z : ℕ) → g n + sum_over ◌+◌ (neighbour p (p n) n) g z (suc n) ≡ sum_over ◌+◌ (neighbour p (p n) (p n)) g z (suc n)
aside p n l g z =
    let q = p n in
    let e : neighbour p q q n ≡ true = last_neighbour p n q q l (λ x. omega arith) ∙ eq-eqb q q refl in
    let r = over_same ◌+◌ (neighbour p q n) (neighbour p q q) g g z n (λ i s. neighbour_other p q n i (λ x. omega arith) ∙ sym (neighbour_none p q i)) (λ i s e. refl) in
    let s = over_start (neighbour p q q) g z (g n) n in
    rw (neighbour_without p q n, e) (omega arith)

module _ (p : ℕ → ℕ) (D k : ℕ) (room : 2 * D < suc k) where
  step : (n : ℕ) → 0 < n → Tree p (suc n) D (λ i. i) → ((f : ℕ → ℕ) (b : ℕ) → b < n → walk (plain f) p n (suc (suc k)) b b ≡ sums f n)
      → (f : ℕ → ℕ) (b : ℕ) → b < suc n → walk (plain f) p (suc n) (suc (suc k)) b b ≡ sums f (suc n)
  step n z t ih f b l = go (ltb b n) refl
    where
      up : p n < n
      up = t.grows n z (omega arith)

      below : (c : ℕ) → c < n → walk (plain f) p (suc n) (suc (suc k)) c c ≡ sums f (suc n)
      below c s =
          smaller p D (λ i. i) f n t (suc (suc k)) c c s (λ x. omega arith) (enough p (suc n) D (λ i. i) t (suc (suc k)) c c (omega arith) (omega arith))
          ∙ ih (handed p f n) c s ∙ (sums_handed p f n n).0 up

      last : walk (plain f) p (suc n) (suc (suc k)) n n ≡ sums f (suc n)
      last =
          one_joins (neighbour p n n) (λ i. walk (plain f) p (suc n) (suc k) i n) (f n) (p n) (suc n) (omega (arith, up)) (neighbour_parent p n n up (λ e. omega (arith, up)))
          (λ i s e. ⊎_elim (λ u. sym u.1) (λ u. absurd (omega arith)) (joined_cases p n i (neighbour_joined p n n i e).0))
          ∙ ap (λ (x : ℕ). x + walk (plain f) p (suc n) (suc k) (p n) n) (sym (leaf p D (λ i. i) f n k))
          ∙ aside p n up (λ i. walk (plain f) p (suc n) k i (p n)) (f (p n))
          ∙ more_fuel (plain f) p (suc n) D (λ i. i) t (suc k) (suc (suc k)) (p n) (p n) (omega (arith, up)) room (omega arith)
          ∙ below (p n) up

      go : (s : Bool) → ltb b n ≡ s → walk (plain f) p (suc n) (suc (suc k)) b b ≡ sums f (suc n)
      go true e = below b (ltb-true b n e)
      go false e = let q : b ≡ n = omega (arith, ltb-false b n e) in subst (λ (c : ℕ). walk (plain f) p (suc n) (suc (suc k)) c c ≡ sums f (suc n)) (sym q) last

  -- EVERY BUS ONCE, from wherever the walk starts
  total : (n : ℕ) → Tree p n D (λ i. i) → (f : ℕ → ℕ) (b : ℕ) → b < n → walk (plain f) p n (suc (suc k)) b b ≡ sums f n
  total zero t f b l = absurd (omega arith)
  total (suc zero) t f b l =
      none_joins (neighbour p b b) (λ i. walk (plain f) p 1 (suc k) i b) (f b) 1 (λ i s e. (neighbour_joined p b b i e).1 (omega arith)) ∙ (let q : b ≡ 0 = omega arith in rw q (omega arith))
  total (suc (suc m)) t f b l = step (suc m) (omega arith) t (total (suc m) (smaller_tree p D (λ i. i) (suc m) t)) f b l

pub total_fuel : (p : ℕ → ℕ) (n k : ℕ) → ((i : ℕ) → 0 < i → i < n → p i < i) → 2 * n < k → (f : ℕ → ℕ) (b : ℕ) → b < n → walk (plain f) p n k b b ≡ sums f n
total_fuel p n k t l f b lb =
    more_fuel (plain f) p n n (λ i. i) (by_number p n t) k (suc (suc (2 * n))) b b lb l (omega arith) ∙ total p n (2 * n) (omega arith) n (by_number p n t) f b lb
