-- A machine's share, squared: the way leads where it should, and the share by the words of order 3 is the fraction that is calculated,
-- (c·Un)²/3·|y|² times a divider and a rated ratio to the fourth for each branch of the way. Besides: calculations over one way, compared
-- branch by branch.
-- Assumes nothing.
use Rattle.std.specs.Prelude.{ℕ, zero, suc, ◌+◌, ◌*◌, ◌≤◌, ◌<◌, ◌≡◌, Bool, true, false, cond, List, [], ◌∷◌, ◌++◌, ◌⊎◌, ltb, eqb}
use Rattle.std.proofs.Math.Path.{refl, ap}
use Rattle.std.proofs.Common.{sym, ◌∙◌, ap₂, inl, inr, ⊎_elim, arith, mul-le-mul, mul_comm, mul_assoc, ltb-true, ltb-false, lt-ltb, le-ltb, eqb-true, eq-eqb, ne_eqb}
use Rattle.std.proofs.Math.Nat.{mul-pos}
use Rattle.std.proofs.lemmas.Bool.{eqb-false}
use Rattle.algebra.specs.Reading.{identity, poly, read}
use Rattle.enclosure.specs.Exact.{Point, is_nothing, exact, sum, times, turned, inverse, norm}
use Rattle.enclosure.specs.Fraction.{Fraction, whole, product, quotient, size_square}
use Rattle.enclosure.specs.laws.Nearness.{norm_pos, inverse_proper}
use Rattle.tree.specs.Grid.{joined, neighbour, Grid, parent_of, Treelike, times_square, seen}
use Rattle.tree.specs.Shares.{onward_by, onward, over_branches, current_square, arriving, part_square, ratio, ratios, share_square, terminal_square}
use Rattle.tree.specs.Ways.{between_by, between}
use Rattle.tree.specs.laws.Equations.{equal, equal_over, ◌⊕◌, ◌⊛◌}
use Rattle.tree.specs.laws.Walk.{neighbour_joined, neighbour_parent, to_parent, to_child}
use Rattle.tree.specs.laws.Toward.{depth, depth_more}
use Rattle.tree.specs.laws.Grid.{through_parent, through_child, seen_sentence}
use Rattle.tree.specs.laws.FeederReaches.{Proper, Fed, fed_some, fed_inverse, fed_times, fed_right, fed_through, over_start, over_fed, through_proper}

-- two fractions that are one
abbrev pub Equal : Fraction → Fraction → Type 0
Equal x y = x.top * y.under ≡ y.top * x.under

-- neither 0 nor over 0
abbrev Some : Fraction → Type 0
Some x = (0 < x.top) × (0 < x.under)

abbrev pub fourth : Fraction → Fraction
fourth x = product (product x x) (product x x)

-- ---- the exact dividers: (|x|/|z + x|)², and 1 for x nothing
unfoldable pub divider_of : Point → Point → Fraction
divider_of z x = cond (is_nothing x) (whole 1) (quotient (size_square x) (size_square (sum z x)))

-- z is the branch between b and its neighbour c, x the impedance behind it, both on the side of the bus that names the branch
module _ (G : Grid) where
  abbrev pub crossing : ℕ → ℕ → Point
  crossing b c = cond (ltb c b) (G.branch b).z (G.branch c).z

  abbrev pub behind : ℕ → ℕ → Point
  behind b c = cond (ltb c b) (times_square exact (G.branch b).below (G.branch b).above (inverse (seen G c b))) (inverse (seen G c b))

  abbrev pub divider : ℕ → ℕ → Fraction
  divider b c = divider_of (crossing b c) (behind b c)

  abbrev pub dividers : ℕ → ℕ → Fraction
  dividers = between (parent_of G) (λ b c x. product x (divider b c)) (whole 1)

-- (c·Un)²/3·|y|²·D·ρ⁴
abbrev pub share_calculated : Grid → ℕ → Point → ℕ → ℕ → Fraction
share_calculated G v y b j = product (record { top = v * v; under = 30000 }) (product (size_square y) (product (dividers G b j) (fourth (ratios G b j))))

-- what makes a list of buses a way from b to j: each is a neighbour of the one before and not the one before that (w stands before b), and
-- j is the last
abbrev pub Leads : (ℕ → ℕ) → ℕ → ℕ → ℕ → List ℕ → ℕ → Type 0
Leads p n w b [] j = b ≡ j
Leads p n w b (c ∷ l) j = (neighbour p b w c ≡ true) × (c < n) × Leads p n b c l j

-- ---- a step on the way: at the goal, from j to its parent, from b to its parent
orders : (P : Bool → Bool → Type 0) (b j : ℕ) → (b ≡ j → (t : Bool) → P true t) → (b < j → P false true) → (j < b → P false false) → P (eqb b j) (ltb b j)
orders P b j same less more = go (eqb b j) (ltb b j) refl refl
  where
    go : (s t : Bool) → eqb b j ≡ s → ltb b j ≡ t → P s t
    go true t e d = same (eqb-true b j e) t
    go false true e d = less (ltb-true b j d)
    go false false e d = more (omega (arith, ltb-false b j d, eqb-false b j e))

pub by_order : {A : Type 0} (P : A → Type 0) (b j : ℕ) (x y z : A) → (b ≡ j → P x) → (b < j → P y) → (j < b → P z) → P (cond (eqb b j) x (cond (ltb b j) y z))
by_order P b j x y z same less more = orders (λ s t. P (cond s x (cond t y z))) b j (λ e t. same e) less more

-- ---- the way: each bus after its neighbour
pub neighbour_child : (p : ℕ → ℕ) (b w j : ℕ) → b < j → p j ≡ b → (j ≡ w → ⊥) → neighbour p b w j ≡ true
unfolding neighbour joined
neighbour_child p b w j l e h = rw (ne_eqb j w h, le-ltb j b (omega arith), lt-ltb b j l) (eq-eqb (p j) b e)

-- a list of numbers below m
abbrev Under : ℕ → List ℕ → Type 0
Under m [] = Unit {0}
Under m (c ∷ l) = (c < m) × Under m l

under_append : (m j : ℕ) (l : List ℕ) → j < m → Under m l → Under m (l ++ (j ∷ []))
under_append m j [] h g = (h, tt)
under_append m j (c ∷ l) h g = (g.0, under_append m j l h g.1)

module _ (p : ℕ → ℕ) (n : ℕ) (tree : (i : ℕ) → 0 < i → i < n → p i < i) where
  onward_under : (m f b j : ℕ) → b < m → j < m → b < n → j < n → Under m (onward_by p f b j)
  onward_under m zero b j hb hj lb lj = tt
  onward_under m (suc f) b j hb hj lb lj =
      by_order (Under m) b j _ _ _
      (λ e. tt)
      (λ e. let l = tree j (omega arith) lj in under_append m j (onward_by p f b (p j)) hj (onward_under m f b (p j) hb (omega arith) lb (omega arith)))
      (λ e. let l = tree b (omega arith) lb in (omega arith, onward_under m f (p b) j (omega arith) hj (omega arith) lj))

  leads_append : (w b j k : ℕ) (l : List ℕ) → Leads p n w b l k → b < j → (j ≡ w → ⊥) → Under j l → p j ≡ k → j < n → Leads p n w b (l ++ (j ∷ [])) j
  leads_append w b j k [] h hb hw u e lj = (neighbour_child p b w j hb (e ∙ sym h) hw, lj, refl)
  leads_append w b j k (c ∷ l) h hb hw u e lj = (h.0, h.1, leads_append b c j k l h.2 u.0 (λ q. omega arith) u.1 e lj)

  pub leads_by : (f w b j : ℕ) → b + j ≤ f → b < n → j < n → (w ≡ b) ⊎ ((b < w) × (j < w)) → Leads p n w b (onward_by p f b j) j
  leads_by zero w b j h lb lj c = omega arith
  leads_by (suc f) w b j h lb lj c =
      by_order (λ l. Leads p n w b l j) b j _ _ _
      (λ e. e)
      (λ e.
      let l = tree j (omega arith) lj in
      leads_append w b j (p j) (onward_by p f b (p j))
      (leads_by f w b (p j) (omega arith) lb (omega arith) (⊎_elim (λ q. inl q) (λ q. inr (q.0, omega (arith, q.1))) c))
      e (λ q. ⊎_elim (λ r. omega arith) (λ r. omega (arith, r.1)) c) (onward_under j f b (p j) e l lb (omega arith)) refl lj)
      (λ e.
      let l = tree b (omega arith) lb in
      (neighbour_parent p b w l (λ q. ⊎_elim (λ r. omega arith) (λ r. omega (arith, r.0)) c), omega arith, leads_by f b (p b) j (omega arith) (omega arith) lj (inr (l, e))))

  -- THE LIST IS A WAY from b to j, in a tree
  pub leads : (b j : ℕ) → b < n → j < n → Leads p n b b (onward p b j) j
  unfolding onward
  leads b j lb lj = leads_by (b + j) b b j (omega arith) lb lj (inl refl)

-- ---- what c adds at b, squared, is |Seen(c without b)|² times the divider and the fourth power of the ratio: first for c the parent, then
-- for c a child
pub some_is : (x : Point) → Fed x → is_nothing x ≡ false
some_is x h = go (is_nothing x) refl
  where
    go : (s : Bool) → is_nothing x ≡ s → s ≡ false
    go true e = absurd (fed_some x h e)
    go false e = refl

pub inverse_turned : (x : Point) → Fed x → inverse x ≡ turned x
unfolding inverse
inverse_turned x h = rw (some_is x h)

parent_square : (y s : Point) (p q : ℕ)
    → Equal (size_square (turned s)) (product (size_square y) (product (quotient (size_square (times_square exact q p (turned y))) (size_square s)) (fourth (record { top = p; under = q }))))
parent_square y s p q = identity (y.re ∷ y.im ∷ y.den ∷ s.re ∷ s.im ∷ s.den ∷ p ∷ q ∷ []) (search read depth 40 fits 20000) refl

child_square : (y s : Point) (p q : ℕ)
    → Equal (size_square (turned (times_square exact p q s))) (product (size_square y) (product (quotient (size_square (turned y)) (size_square s)) (fourth (record { top = q; under = p }))))
child_square y s p q = identity (y.re ∷ y.im ∷ y.den ∷ s.re ∷ s.im ∷ s.den ∷ p ∷ q ∷ []) (search read depth 40 fits 20000) refl

module _ (y z : Point) (p q : ℕ) (p₀ : 0 < p) (q₀ : 0 < q) (z₀ : 0 < z.den) (h : Fed y) where
  fed_square : (p q : ℕ) (x : Point) → 0 < p → 0 < q → Fed x → Fed (times_square exact p q x)
  fed_square p q x hp hq g = fed_times p q (times p q x) hp hq (fed_times p q x hp hq g)

  parent_branch : Equal (size_square (inverse (sum z (times_square exact q p (inverse y)))))
      (product (size_square y) (product (divider_of z (times_square exact q p (inverse y))) (fourth (record { top = p; under = q }))))
  unfolding divider_of
  parent_branch =
      let x = fed_square q p (inverse y) q₀ p₀ (fed_inverse y h) in
      rw (some_is (times_square exact q p (inverse y)) x, inverse_turned (sum z (times_square exact q p (inverse y))) (fed_right z _ z₀ x), inverse_turned y h)
      (parent_square y (sum z (times_square exact q p (turned y))) p q)

  child_branch : Equal (size_square (inverse (times_square exact p q (sum z (inverse y)))))
      (product (size_square y) (product (divider_of z (inverse y)) (fourth (record { top = q; under = p }))))
  unfolding divider_of
  child_branch =
      let x = fed_right z (inverse y) z₀ (fed_inverse y h) in
      rw (some_is (inverse y) (fed_inverse y h), inverse_turned (times_square exact p q (sum z (inverse y))) (fed_square p q _ p₀ q₀ x), inverse_turned y h)
      (child_square y (sum z (turned y)) p q)

module _ (G : Grid) (tree : Treelike G) (proper : Proper G) where
  pub branch_square : (b c : ℕ) → b < G.count → c < G.count → joined (parent_of G) b c ≡ true → Fed (seen G c b)
      → Equal (size_square (arriving G b c)) (product (size_square (seen G c b)) (product (divider G b c) (fourth (ratio G b c))))
  branch_square b c lb lc e h = go (ltb c b) refl
    where
      go : (s : Bool) → ltb c b ≡ s
          → Equal (size_square (arriving G b c))
          (product (size_square (seen G c b))
          (product
          (divider_of (cond s (G.branch b).z (G.branch c).z) (cond s (times_square exact (G.branch b).below (G.branch b).above (inverse (seen G c b))) (inverse (seen G c b))))
          (fourth (cond s (record { top = (G.branch b).above; under = (G.branch b).below }) (record { top = (G.branch c).below; under = (G.branch c).above })))))
      go true q =
          let z = (to_parent (parent_of G) b c e q).0 in
          let v = proper.volts b z lb in
          rw (through_parent exact (λ i. (G.branch i).z) G b c (seen G c b) (some_is _ h) q)
          (parent_branch (seen G c b) (G.branch b).z (G.branch b).above (G.branch b).below v.0 v.1 (proper.branch b z lb) h)
      go false q =
          let z = (to_child (parent_of G) b c e q).0 in
          let v = proper.volts c z lc in
          rw (through_child exact (λ i. (G.branch i).z) G b c (seen G c b) (some_is _ h) q)
          (child_branch (seen G c b) (G.branch c).z (G.branch c).above (G.branch c).below v.0 v.1 (proper.branch c z lc) h)

  -- every bus of a way that ends where something has an imaginary part sees it ("every machine has X above 0")
  pub fed_way : (w b j : ℕ) (l : List ℕ) → b < G.count → Leads (parent_of G) G.count w b l j → Fed (G.own j) → Fed (seen G b w)
  fed_way w b j [] lb h g =
      rw (seen_sentence G tree b w lb)
      (over_start (neighbour (parent_of G) b w) (λ i. arriving G b i) (G.own b) G.count (rw h g) (λ i. through_proper G b i _))
  fed_way w b j (c ∷ l) lb h g =
      rw (seen_sentence G tree b w lb)
      (over_fed (neighbour (parent_of G) b w) (λ i. arriving G b i) (G.own b) c G.count (proper.own b lb) (λ i. through_proper G b i _) h.0
      (fed_through G tree proper b c _ lb h.1 (neighbour_joined (parent_of G) b w c h.0).0 (fed_way b c j l h.1 h.2 g)) h.1)

-- ---- products over the branches of a way. One branch more: S is what is seen before it and S' behind it, t what it adds, d its divider and
-- ratio; r and E are what follows
telescope : (S S' t r y d E : Fraction) → 0 < S'.under → Equal t (product S' d) → Equal (product S' r) (product y E) → Equal (product S (product (quotient t S) r)) (product y (product d E))
telescope S S' t r y d E z h k =
    equal_over
    (S.top ∷ S.under ∷ S'.top ∷ S'.under ∷ t.top ∷ t.under ∷ r.top ∷ r.under ∷ y.top ∷ y.under ∷ d.top ∷ d.under ∷ E.top ∷ E.under ∷ []) S'.under z
    (S.top * S.under * (r.top * (y.under * E.under)) ⊛ h ⊕ S.top * S.under * (d.top * t.under) ⊛ k) (search read depth 40 fits 20000) refl

last_part : (S y : Fraction) → Equal (product S (quotient y S)) (product y (whole 1))
last_part S y = identity (S.top ∷ S.under ∷ y.top ∷ y.under ∷ []) (search read depth 40 fits 20000) refl

module _ (G : Grid) (tree : Treelike G) (proper : Proper G) where
  -- what is seen cancels from bus to bus, so that y and the branches are left
  part_branches : (y : Point) (w b j : ℕ) (l : List ℕ) → b < G.count → Leads (parent_of G) G.count w b l j → Fed (G.own j)
      → Equal (product (size_square (seen G b w)) (part_square G y w b l)) (product (size_square y) (over_branches (λ u c. product (divider G u c) (fourth (ratio G u c))) b l))
  part_branches y w b j [] lb h g = last_part (size_square (seen G b w)) (size_square y)
  part_branches y w b j (c ∷ l) lb h g =
      let f = fed_way G tree proper b c j l h.1 h.2 g in
      telescope (size_square (seen G b w)) (size_square (seen G c b)) (size_square (arriving G b c)) (part_square G y b c l) (size_square y) (product (divider G b c) (fourth (ratio G b c)))
      (over_branches (λ u c. product (divider G u c) (fourth (ratio G u c))) c l)
      (mul-pos f.proper f.proper) (branch_square G tree proper b c lb h.1 (neighbour_joined (parent_of G) b w c h.0).0 f) (part_branches y b c j l h.1 h.2 g)

-- ---- a product over the list of buses, and the same product from step to step
by_parts : {a b c d : ℕ} → a ≡ c → b ≡ d → ◌≡◌ {A = Fraction} (record { top = a; under = b }) (record { top = c; under = d })
by_parts h k = ap₂ {C = Fraction} (λ (a b : ℕ). record { top = a; under = b }) h k

branches_append : (p : ℕ → ℕ) (n : ℕ) (g : ℕ → ℕ → Fraction) (w b k j : ℕ) (l : List ℕ) → Leads p n w b l k → over_branches g b (l ++ (j ∷ [])) ≡ product (over_branches g b l) (g k j)
branches_append p n g w b k j [] h = rw h (by_parts (mul_comm _ 1) (mul_comm _ 1))
branches_append p n g w b k j (c ∷ l) h = rw (branches_append p n g b c k j l h.2) (by_parts (sym (mul_assoc _ _ _)) (sym (mul_assoc _ _ _)))

module _ (p : ℕ → ℕ) (n : ℕ) (tree : (i : ℕ) → 0 < i → i < n → p i < i) (g : ℕ → ℕ → Fraction) where
  branches_by_law : (f b j : ℕ) → b + j ≤ f → b < n → j < n → over_branches g b (onward_by p f b j) ≡ between_by p (λ u c x. product x (g u c)) (whole 1) f b j
  branches_by_law zero b j h lb lj = refl
  branches_by_law (suc f) b j h lb lj =
      orders
      (λ s t.
      over_branches g b (cond s [] (cond t (onward_by p f b (p j) ++ (j ∷ [])) (p b ∷ onward_by p f (p b) j)))
      ≡ cond s (whole 1)
      (cond t
      (cond (ltb (p j) j) (product (between_by p (λ u c x. product x (g u c)) (whole 1) f b (p j)) (g (p j) j)) (whole 1))
      (cond (ltb (p b) b) (product (between_by p (λ u c x. product x (g u c)) (whole 1) f (p b) j) (g b (p b))) (whole 1))))
      b j
      (λ e t. refl)
      (λ e.
      let l = tree j (omega arith) lj in
      rw (lt-ltb (p j) j l)
      (branches_append p n g b b (p j) j (onward_by p f b (p j)) (leads_by p n tree f b b (p j) (omega arith) lb (omega arith) (inl refl))
      ∙ ap (λ (x : Fraction). product x (g (p j) j)) (branches_by_law f b (p j) (omega arith) lb (omega arith))))
      (λ e.
      let l = tree b (omega arith) lb in
      rw (lt-ltb (p b) b l)
      (by_parts (mul_comm _ _) (mul_comm _ _)
      ∙ ap (λ (x : Fraction). product x (g b (p b))) (branches_by_law f (p b) j (omega arith) (omega arith) lj)))

  -- BOTH FORMS OF A PRODUCT over the way are one, in a tree
  pub branches_between : (b j : ℕ) → b < n → j < n → over_branches g b (onward p b j) ≡ between p (λ u c x. product x (g u c)) (whole 1) b j
  unfolding onward between
  branches_between b j lb lj = branches_by_law (b + j) b j (omega arith) lb lj

-- the dividers for themselves, and the ratios
branches_apart : (g h : ℕ → ℕ → Fraction) (b : ℕ) (l : List ℕ) → over_branches (λ u c. product (g u c) (fourth (h u c))) b l ≡ product (over_branches g b l) (fourth (over_branches h b l))
branches_apart g h b [] = refl
branches_apart g h b (c ∷ l) =
    rw (branches_apart g h c l)
    (by_parts (mix (g b c).top (h b c).top (over_branches g c l).top (over_branches h c l).top) (mix (g b c).under (h b c).under (over_branches g c l).under (over_branches h c l).under))
  where
    mix : (d r e s : ℕ) → d * (r * r * (r * r)) * (e * (s * s * (s * s))) ≡ d * e * (r * s * (r * s) * (r * s * (r * s)))
    mix d r e s = identity (d ∷ r ∷ e ∷ s ∷ []) (search read depth 40 fits 20000) refl

-- the current has |S|² in it, which cancels as well
current_square_law : (v : ℕ) (S : Point) (r x : Fraction) → Equal (product (size_square S) r) x → Equal (product (current_square v (turned S)) r) (product (record { top = v * v; under = 30000 }) x)
current_square_law v S r x h =
    equal (v ∷ S.re ∷ S.im ∷ S.den ∷ r.top ∷ r.under ∷ x.top ∷ x.under ∷ [])
    (v * v * 30000 * (norm S.re S.im) ⊛ h) (search read depth 40 fits 20000) refl

module _ (G : Grid) (tree : Treelike G) (proper : Proper G) where
  -- THE SHARE BY ITS WORDS IS THE SHARE AS CALCULATED
  pub share_square_law : (v : ℕ) (y : Point) (b j : ℕ) → b < G.count → j < G.count → 0 < (G.own j).im → Equal (share_square G v y b j) (share_calculated G v y b j)
  unfolding share_square
  share_square_law v y b j lb lj m =
      let p = parent_of G in
      let n = G.count in
      let g : Fed (G.own j) = record { proper = proper.own j lj; reactive = m } in
      let h = leads p n tree b j lb lj in
      let e : over_branches (λ u c. product (divider G u c) (fourth (ratio G u c))) b (onward p b j) ≡ product (dividers G b j) (fourth (ratios G b j)) =
      branches_apart (divider G) (ratio G) b (onward p b j)
      ∙ ap (λ (d : Fraction). product d (fourth (ratios G b j))) (branches_between p n tree (divider G) b j lb lj) in
      rw (inverse_turned (seen G b b) (fed_way G tree proper b b j (onward p b j) lb h g))
      (current_square_law v (seen G b b) (part_square G y b b (onward p b j)) (product (size_square y) (product (dividers G b j) (fourth (ratios G b j))))
      (rw e at (part_branches G tree proper y b b j (onward p b j) lb h g)))

-- ---- two calculations over one way. R k b j holds between their results for b and j; k grows by cost i with the branch of i, and h bounds it
module _ {A B : Type 0} (p : ℕ → ℕ) (n : ℕ) (tree : (i : ℕ) → 0 < i → i < n → p i < i) (h cost : ℕ → ℕ) (grows : (i : ℕ) → 0 < i → i < n → cost i + h (p i) ≤ h i)
    (R : ℕ → ℕ → ℕ → A → B → Type 0) (more : (j k b c : ℕ) (x : A) (y : B) → j ≤ k → R j b c x y → R k b c x y)
    (step : ℕ → ℕ → A → A) (step' : ℕ → ℕ → B → B) (z : A) (z' : B) (start : (b : ℕ) → b < n → R 0 b b z z')
    (up : (k i j : ℕ) (x : A) (y : B) → 0 < i → i < n → j < n → R k (p i) j x y → R (cost i + k) i j (step i (p i) x) (step' i (p i) y))
    (down : (k b i : ℕ) (x : A) (y : B) → 0 < i → b < n → i < n → R k b (p i) x y → R (cost i + k) b i (step (p i) i x) (step' (p i) i y)) where
  held_by : (f b j : ℕ) → b + j ≤ f → b < n → j < n → R (h b + h j) b j (between_by p step z f b j) (between_by p step' z' f b j)
  held_by zero b j m lb lj = let e : b ≡ j = omega arith in rw (← e) (more 0 _ b b z z' (omega arith) (start b lb))
  held_by (suc f) b j m lb lj =
      orders
      (λ s t.
      R (h b + h j) b j
      (cond s z
      (cond t (cond (ltb (p j) j) (step (p j) j (between_by p step z f b (p j))) z) (cond (ltb (p b) b) (step b (p b) (between_by p step z f (p b) j)) z)))
      (cond s z'
      (cond t (cond (ltb (p j) j) (step' (p j) j (between_by p step' z' f b (p j))) z') (cond (ltb (p b) b) (step' b (p b) (between_by p step' z' f (p b) j)) z'))))
      b j
      (λ e t. rw (← e) (more 0 _ b b z z' (omega arith) (start b lb)))
      (λ e.
      let l = tree j (omega arith) lj in
      rw (lt-ltb (p j) j l)
      (more (cost j + (h b + h (p j))) _ b j _ _ (omega (arith, grows j (omega arith) lj)) (down _ b j _ _ (omega arith) lb lj (held_by f b (p j) (omega arith) lb (omega arith)))))
      (λ e.
      let l = tree b (omega arith) lb in
      rw (lt-ltb (p b) b l)
      (more (cost b + (h (p b) + h j)) _ b j _ _ (omega (arith, grows b (omega arith) lb)) (up _ b j _ _ (omega arith) lb lj (held_by f (p b) j (omega arith) (omega arith) lj))))

  pub between_held : (b j : ℕ) → b < n → j < n → R (h b + h j) b j (between p step z b j) (between p step' z' b j)
  unfolding between
  between_held b j = held_by (b + j) b j (omega arith)

-- the same where R counts branches and does not look at the ends
module _ {A B : Type 0} (p : ℕ → ℕ) (n : ℕ) (tree : (i : ℕ) → 0 < i → i < n → p i < i) (R : ℕ → A → B → Type 0)
    (more : (j k : ℕ) (x : A) (y : B) → j ≤ k → R j x y → R k x y) (step : ℕ → ℕ → A → A) (step' : ℕ → ℕ → B → B) (z : A) (z' : B) (start : R 0 z z')
    (steps : (k b c : ℕ) (x : A) (y : B) → b < n → c < n → joined p b c ≡ true → R k x y → R (suc k) (step b c x) (step' b c y)) where
  pub between_related : (b j : ℕ) → b < n → j < n → R (depth p b + depth p j) (between p step z b j) (between p step' z' b j)
  between_related =
      between_held p n tree (depth p) (λ i. 1) (λ i z l. omega (arith, depth_more p i (tree i z l))) (λ k b c. R k) (λ j k b c. more j k) step step' z z' (λ b l. start)
      (λ k i j x y z li lj r.
      let l = tree i z li in
      more (suc k) (1 + k) _ _ (omega arith) (steps k i (p i) x y li (omega arith) (neighbour_joined p i i (p i) (neighbour_parent p i i l (λ q. omega arith))).0 r))
      (λ k b i x y z lb li r.
      let l = tree i z li in
      more (suc k) (1 + k) _ _ (omega arith) (steps k (p i) i x y (omega arith) li (neighbour_joined p (p i) (p i) i (neighbour_child p (p i) (p i) i l refl (λ q. omega arith))).0 r))

-- ---- dividers lie between 0 and 1
pub divider_most : (z x : Point) → (divider_of z x).top ≤ (divider_of z x).under
unfolding divider_of
divider_most z x = go (is_nothing x)
  where
    go : (s : Bool) → (cond s (whole 1) (quotient (size_square x) (size_square (sum z x)))).top ≤ (cond s (whole 1) (quotient (size_square x) (size_square (sum z x)))).under
    go true = omega arith
    go false = poly (z.re ∷ z.im ∷ z.den ∷ x.re ∷ x.im ∷ x.den ∷ []) (search read depth 40 fits 20000) refl

pub divider_some : (z x : Point) → 0 < z.den → 0 < x.den → 0 < (divider_of z x).top
unfolding divider_of
divider_some z x hz hx = go (is_nothing x) refl
  where
    go : (s : Bool) → is_nothing x ≡ s → 0 < (cond s (whole 1) (quotient (size_square x) (size_square (sum z x)))).top
    go true e = omega arith
    go false e = mul-pos (norm_pos x.re x.im (eqb-false (x.re + x.im) 0 e)) (mul-pos (mul-pos hz hx) (mul-pos hz hx))

module _ (G : Grid) (tree : Treelike G) (proper : Proper G) where
  crossing_proper : (b c : ℕ) → b < G.count → c < G.count → joined (parent_of G) b c ≡ true → 0 < (crossing G b c).den
  crossing_proper b c lb lc e = go (ltb c b) refl
    where
      go : (s : Bool) → ltb c b ≡ s → 0 < (cond s (G.branch b).z (G.branch c).z).den
      go true q = proper.branch b (to_parent (parent_of G) b c e q).0 lb
      go false q = proper.branch c (to_child (parent_of G) b c e q).0 lc

  behind_proper : (b c : ℕ) → b < G.count → c < G.count → joined (parent_of G) b c ≡ true → 0 < (behind G b c).den
  behind_proper b c lb lc e = go (ltb c b) refl
    where
      go : (s : Bool) → ltb c b ≡ s → 0 < (cond s (times_square exact (G.branch b).below (G.branch b).above (inverse (seen G c b))) (inverse (seen G c b))).den
      go true q = let v = (proper.volts b (to_parent (parent_of G) b c e q).0 lb).0 in mul-pos (mul-pos (inverse_proper (seen G c b)) v) v
      go false q = inverse_proper (seen G c b)

  -- and so does their product
  pub dividers_sound : (b j : ℕ) → b < G.count → j < G.count → (0 < (dividers G b j).top) × ((dividers G b j).top ≤ (dividers G b j).under)
  dividers_sound =
      between_related (parent_of G) G.count tree (λ k x y. (0 < x.top) × (x.top ≤ x.under)) (λ j k x y l h. h)
      (λ b c x. product x (divider G b c)) (λ b c x. x) (whole 1) (whole 1) (omega arith, omega arith)
      (λ k b c x y lb lc e h. (
        mul-pos h.0 (divider_some (crossing G b c) (behind G b c) (crossing_proper b c lb lc e) (behind_proper b c lb lc e)),
        mul-le-mul h.1 (divider_most (crossing G b c) (behind G b c)),
      ))

  -- nothing on the way is divided by 0
  part_proper : (y : Point) (w b j : ℕ) (l : List ℕ) → 0 < y.den → b < G.count → Leads (parent_of G) G.count w b l j → Fed (G.own j) → 0 < (part_square G y w b l).under
  part_proper y w b j [] z lb h g = let f = fed_way G tree proper w b j [] lb h g in mul-pos (mul-pos z z) (norm_pos _ _ (λ q. omega (arith, f.reactive)))
  part_proper y w b j (c ∷ l) z lb h g =
      let f = fed_way G tree proper w b j (c ∷ l) lb h g in
      let t = through_proper G b c (seen G c b) in
      mul-pos (mul-pos (mul-pos t t) (norm_pos _ _ (λ q. omega (arith, f.reactive)))) (part_proper y b c j l z h.1 h.2 g)

  pub share_proper : (v : ℕ) (y : Point) (b j : ℕ) → 0 < y.den → b < G.count → j < G.count → 0 < (G.own j).im → 0 < (share_square G v y b j).under
  unfolding share_square
  share_proper v y b j z lb lj m =
      let g : Fed (G.own j) = record { proper = proper.own j lj; reactive = m } in
      let h = leads (parent_of G) G.count tree b j lb lj in
      let i = fed_inverse (seen G b b) (fed_way G tree proper b b j (onward (parent_of G) b j) lb h g) in
      mul-pos (mul-pos (omega arith) (norm_pos _ _ (λ q. omega (arith, i.reactive)))) (part_proper y b b j (onward (parent_of G) b j) z lb h g)

  -- no rated ratio is 0, so that a current can be carried back
  ratio_some : (b c : ℕ) → b < G.count → c < G.count → joined (parent_of G) b c ≡ true → (0 < (ratio G b c).top) × (0 < (ratio G b c).under)
  ratio_some b c lb lc e = go (ltb c b) refl
    where
      go : (s : Bool) → ltb c b ≡ s → Some (cond s (record { top = (G.branch b).above; under = (G.branch b).below }) (record { top = (G.branch c).below; under = (G.branch c).above }))
      go true q = proper.volts b (to_parent (parent_of G) b c e q).0 lb
      go false q = let v = proper.volts c (to_child (parent_of G) b c e q).0 lc in (v.1, v.0)

  pub ratios_some : (b j : ℕ) → b < G.count → j < G.count → (0 < (ratios G b j).top) × (0 < (ratios G b j).under)
  ratios_some b j lb lj =
      rw (branches_between (parent_of G) G.count tree (ratio G) b j lb lj)
      (between_related (parent_of G) G.count tree (λ k x y. (0 < x.top) × (0 < x.under)) (λ j k x y l h. h)
      (λ b c x. product x (ratio G b c)) (λ b c x. x) (whole 1) (whole 1) (omega arith, omega arith)
      (λ k b c x y lb lc e h. let r = ratio_some b c lb lc e in (mul-pos h.0 r.0, mul-pos h.1 r.1)) b j lb lj)

  pub terminal_proper : (v : ℕ) (y : Point) (b j : ℕ) → 0 < y.den → b < G.count → j < G.count → 0 < (G.own j).im → 0 < (terminal_square G v y b j).under
  unfolding terminal_square
  terminal_proper v y b j z lb lj m = let r = ratios_some b j lb lj in mul-pos (share_proper v y b j z lb lj m) (mul-pos r.0 r.0)

  -- THE SHARE AT THE TERMINALS: as the share, with ρ² for ρ⁴
  pub terminal_square_law : (v : ℕ) (y : Point) (b j : ℕ) → b < G.count → j < G.count → 0 < (G.own j).im
      → Equal (terminal_square G v y b j) (product (record { top = v * v; under = 30000 }) (product (size_square y) (product (dividers G b j) (product (ratios G b j) (ratios G b j)))))
  unfolding terminal_square
  terminal_square_law v y b j lb lj m = put (v * v) (size_square y) (dividers G b j) (ratios G b j) (share_square G v y b j) (share_square_law G tree proper v y b j lb lj m)
    where
      put : (w : ℕ) (Y D R S : Fraction) → Equal S (product (record { top = w; under = 30000 }) (product Y (product D (fourth R))))
          → Equal (quotient S (product R R)) (product (record { top = w; under = 30000 }) (product Y (product D (product R R))))
      put w Y D R S e = equal (w ∷ Y.top ∷ Y.under ∷ D.top ∷ D.under ∷ R.top ∷ R.under ∷ S.top ∷ S.under ∷ []) e (search read depth 40 fits 20000) refl

  -- nor is anything on it nothing: a share of 0 would mean that there is no such machine
  pub share_some : (v : ℕ) (y : Point) (b j : ℕ) → 0 < v → 0 < y.den → 0 < y.im → b < G.count → j < G.count → 0 < (G.own j).im → 0 < (share_square G v y b j).top
  share_some v y b j v₀ d₀ y₀ lb lj m =
      positive (share_square G v y b j) (share_calculated G v y b j) (share_square_law G tree proper v y b j lb lj m) (share_proper v y b j d₀ lb lj m)
      (mul-pos (mul-pos v₀ v₀) (mul-pos (norm_pos _ _ (λ q. omega arith)) (mul-pos (dividers_sound b j lb lj).0 (mul-pos (mul-pos r r) (mul-pos r r)))))
    where
      r : 0 < (ratios G b j).top
      r = (ratios_some b j lb lj).0

      positive : (x z : Fraction) → Equal x z → 0 < x.under → 0 < z.top → 0 < x.top
      positive x z e h k = go x.top e
        where
          go : (t : ℕ) → t * z.under ≡ z.top * x.under → 0 < t
          go zero q = absurd (omega (arith, mul-pos k h, q))
          go (suc t) q = omega arith
