-- Nearness of two walks where the steps ask that exact values are in range: In says so of the exact walk alone, R that the other is near it.
-- Assumes nothing.
use Rattle.std.specs.Prelude.{ℕ, zero, suc, ◌+◌, ◌*◌, ◌≤◌, ◌<◌, ◌≡◌, refl, Bool, true, false, cond, List, [], ◌∷◌, length, get_or}
use Rattle.std.proofs.Common.{arith, mul-suc}
use Rattle.tree.specs.Grid.{joined, neighbour, sum_over, Gather, walk, sum_of}
use Rattle.tree.specs.laws.Walk.{neighbour_joined}

-- ---- sums
module _ {A B : Type 0} (add : A → A → A) (add' : B → B → B) (In : ℕ → A → Type 0) (R : ℕ → A → B → Type 0) (J limit a e : ℕ)
    (in_more : (i j : ℕ) (x : A) → i ≤ j → In i x → In j x)
    (in_add : (i j : ℕ) (x x' : A) → In i x → In j x' → In (i + j) (add x x'))
    (more : (j k : ℕ) (x : A) (y : B) → j ≤ k → R j x y → R k x y)
    (near_add : (k : ℕ) (x x' : A) (y y' : B) → k ≤ limit → In J x → In J x' → R k x y → R k x' y' → R (k + a) (add x x') (add' y y')) where
  one : (j k k₀ : ℕ) (x x' : A) (y y' : B) (s : Bool) → k₀ ≤ k → k ≤ limit → j + e ≤ J → In j x × R k x y → (s ≡ true → In e x' × R k₀ x' y')
      → In (j + e) (cond s (add x x') x) × R (k + a) (cond s (add x x') x) (cond s (add' y y') y)
  one j k k₀ x x' y y' true m l u h g = (
    in_add j e x x' h.0 (g refl).0,
    near_add k x x' y y' l (in_more j J x (omega arith) h.0) (in_more e J x' (omega arith) (g refl).0) h.1 (more k₀ k x' y' m (g refl).1),
  )
  one j k k₀ x x' y y' false m l u h g = (in_more j (j + e) x (omega arith) h.0, more k (k + a) x y (omega arith) h.1)

  over_inside : (joins : ℕ → Bool) (f : ℕ → A) (g : ℕ → B) (x : A) (y : B) (j k k₀ m : ℕ) → k₀ ≤ k → k + a * m ≤ limit → j + e * m ≤ J → In j x × R k x y
      → ((i : ℕ) → i < m → joins i ≡ true → In e (f i) × R k₀ (f i) (g i)) → In (j + e * m) (sum_over add joins f x m) × R (k + a * m) (sum_over add joins f x m) (sum_over add' joins g y m)
  over_inside joins f g x y j k k₀ zero d l u h q = (in_more j (j + e * 0) x (omega arith) h.0, more k (k + a * 0) x y (omega arith) h.1)
  over_inside joins f g x y j k k₀ (suc m) d l u h q =
      let p = mul-suc a m in
      let r = mul-suc e m in
      let w = one j k k₀ x (f m) y (g m) (joins m) d (omega arith) (omega arith) h (q m (omega arith)) in
      let v = over_inside joins f g (cond (joins m) (add x (f m)) x) (cond (joins m) (add' y (g m)) y) (j + e) (k + a) k₀ m (omega arith) (omega arith) (omega arith) w (λ i s. q i (omega arith)) in
      (in_more (j + e + e * m) _ _ (omega arith) v.0, more (k + a + a * m) _ _ _ (omega arith) v.1)

  pub sum_inside : {S : Type 0} (t : S → Bool) (f : S → A) (g : S → B) (d : S) (k₀ : ℕ) (l : List S)
      → ((i : ℕ) → i < length l → t (get_or l i d) ≡ true → In e (f (get_or l i d)) × R k₀ (f (get_or l i d)) (g (get_or l i d)))
      → (x : A) (y : B) (j k : ℕ) → k₀ ≤ k → k + a * length l ≤ limit → j + e * length l ≤ J → In j x × R k x y
      → In (j + e * length l) (sum_of add t f x l) × R (k + a * length l) (sum_of add t f x l) (sum_of add' t g y l)
  sum_inside t f g d k₀ [] q x y j k m l u h = (in_more j (j + e * 0) x (omega arith) h.0, more k (k + a * 0) x y (omega arith) h.1)
  sum_inside t f g d k₀ (s ∷ r) q x y j k m l u h =
      let p = mul-suc a (length r) in
      let v = mul-suc e (length r) in
      let w =
      sum_inside t f g d k₀ r (λ i z. q (suc i) (omega arith)) _ _ (j + e) (k + a) (omega arith) (omega arith) (omega arith)
      (one j k k₀ x (f s) y (g s) (t s) m (omega arith) (omega arith) h (q 0 (omega arith))) in
      (in_more (j + e + e * length r) _ _ (omega arith) w.0, more (k + a + a * length r) _ _ _ (omega arith) w.1)

-- ---- the walk: In f b j x is what is known of x, gathered at b over f levels
module _ {A B : Type 0} (G : Gather A) (H : Gather B) (p : ℕ → ℕ) (n : ℕ) (In : ℕ → ℕ → ℕ → A → Type 0) (R : ℕ → A → B → Type 0) (F limit k₀ a c s e : ℕ)
    (in_more : (f b i j : ℕ) (x : A) → i ≤ j → In f b i x → In f b j x)
    (in_add : (f b i j : ℕ) (x x' : A) → In f b i x → In f b j x' → In f b (i + j) (G.add x x'))
    (more : (j k : ℕ) (x : A) (y : B) → j ≤ k → R j x y → R k x y)
    (near_add : (f b k : ℕ) (x x' : A) (y y' : B) → f ≤ F → b < n → k ≤ limit → In f b (s + e * n) x → In f b (s + e * n) x' → R k x y → R k x' y' → R (k + a) (G.add x x') (H.add y y'))
    (own : (f b : ℕ) → f ≤ F → b < n → In f b s (G.own b) × R k₀ (G.own b) (H.own b))
    (through : (f b i k : ℕ) (x : A) (y : B) → f < F → b < n → i < n → joined p b i ≡ true → k₀ ≤ k → k + c ≤ limit → In f i (s + e * n) x → R k x y
    → In (suc f) b e (G.through b i x) × R (k + c) (G.through b i x) (H.through b i y)) where
  pub walk_inside : (fuel b w : ℕ) → fuel ≤ F → b < n → k₀ + (c + a * n) * fuel ≤ limit
      → In fuel b (s + e * n) (walk G p n fuel b w) × R (k₀ + (c + a * n) * fuel) (walk G p n fuel b w) (walk H p n fuel b w)
  walk_inside zero b w l m u = let h = own 0 b l m in (in_more 0 b s (s + e * n) _ (omega arith) h.0, more k₀ _ _ _ (omega arith) h.1)
  walk_inside (suc fuel) b w l m u =
      let k : ℕ = k₀ + (c + a * n) * fuel in
      let h = own (suc fuel) b l m in
      let r =
      over_inside G.add H.add (In (suc fuel) b) R (s + e * n) limit a e (in_more (suc fuel) b) (in_add (suc fuel) b) more
      (λ k x x' y y' q. near_add (suc fuel) b k x x' y y' l m q)
      (neighbour p b w) (λ i. G.through b i (walk G p n fuel i b)) (λ i. H.through b i (walk H p n fuel i b)) (G.own b) (H.own b) s (k + c) (k + c) n
      (omega arith) (omega arith) (omega arith) (h.0, more k₀ (k + c) _ _ (omega arith) h.1)
      (λ i q g. let v = walk_inside fuel i b (omega arith) q (omega arith) in through fuel b i k _ _ (omega arith) m q (neighbour_joined p b w i g).0 (omega arith) (omega arith) v.0 v.1) in
      (r.0, more (k + c + a * n) _ _ _ (omega arith) r.1)
