-- Two sweeps over a tree give what a walk from each bus gives, in the same numbers: one towards bus 0, one away from it.
-- Assumes nothing.
use Rattle.std.specs.Prelude.{ℕ, zero, suc, ◌+◌, ◌-◌, ◌≤◌, ◌<◌, ◌≡◌, Bool, ltb, eqb}
use Rattle.std.proofs.Common.{sym, ◌∙◌, ap, ⊎_elim, arith, lt-ltb, le-ltb, eq-eqb, eqb-true, ne_eqb}
use Rattle.std.proofs.lemmas.Bool.{eqb-false}
use Rattle.std.proofs.Math.Path.{refl}
use Rattle.std.proofs.Math.Bool.{true, false, cond}
use Rattle.enclosure.specs.Exact.{Ops}
use Rattle.tree.specs.Limits.{max_branches, walk_steps}
use Rattle.tree.specs.Grid.{joined, neighbour, sum_over, walk, Grid, parent_of, Treelike, through, admittances, seen_by}
use Rattle.tree.specs.laws.Walk.{over_same, over_none, over_one, joined_cases, neighbour_joined, neighbour_parent, only_walk}
use Rattle.tree.specs.laws.Toward.{depth, by_depth}

-- ---- `sum_over` in parts: the numbers from lo up to lo + m, the last one first
abbrev pub over_from : {A : Type 0} → (A → A → A) → (ℕ → Bool) → (ℕ → A) → A → ℕ → ℕ → A
over_from add joins g z lo zero = z
over_from add joins g z lo (suc m) = cond (joins lo) (add (over_from add joins g z (suc lo) m) (g lo)) (over_from add joins g z (suc lo) m)

module _ {A : Type 0} (add : A → A → A) (joins : ℕ → Bool) (g : ℕ → A) where
  pub over_from_law : (z : A) (lo m : ℕ) → sum_over add joins g z (m + lo) ≡ sum_over add joins g (over_from add joins g z lo m) lo
  over_from_law z lo zero = rw zero_plus
    where
      zero_plus : zero + lo ≡ lo
      zero_plus = omega arith
  over_from_law z lo (suc m) = rw (shift m lo) (over_from_law z (suc lo) m)
    where
      shift : (m lo : ℕ) → suc m + lo ≡ m + suc lo
      shift m lo = omega arith

-- the same parts, where tests and elements agree
pub from_same : {A : Type 0} (add : A → A → A) (joins joins' : ℕ → Bool) (g g' : ℕ → A) (z : A) (lo m : ℕ)
    → ((i : ℕ) → lo ≤ i → i < m + lo → joins i ≡ joins' i) → ((i : ℕ) → lo ≤ i → i < m + lo → g i ≡ g' i) → over_from add joins g z lo m ≡ over_from add joins' g' z lo m
from_same add joins joins' g g' z lo zero j h = refl
from_same add joins joins' g g' z lo (suc m) j h =
    rw (j lo (omega arith) (omega arith), h lo (omega arith) (omega arith), from_same add joins joins' g g' z (suc lo) m (λ i l n. j i (omega arith) (omega arith)) (λ i l n. h i (omega arith) (omega arith)))

-- ---- neighbours of b by their numbers
module _ (p : ℕ → ℕ) (n : ℕ) (tree : (i : ℕ) → 0 < i → i < n → p i < i) where
  -- past b: its children
  neighbour_past : (b w i : ℕ) → b < i → (i ≡ w → ⊥) → neighbour p b w i ≡ eqb (p i) b
  unfolding neighbour joined
  neighbour_past b w i l h = rw (ne_eqb i w h, le-ltb i b (omega arith), lt-ltb b i l)

  neighbour_self : (b w : ℕ) → neighbour p b w b ≡ false
  unfolding neighbour joined
  neighbour_self b w = go (eqb b w)
    where
      go : (s : Bool) → cond s false (cond (ltb b b) (eqb (p b) b) (cond (ltb b b) (eqb (p b) b) false)) ≡ false
      go true = refl
      go false = rw (le-ltb b b (omega arith))

  neighbour_without : (b w : ℕ) → neighbour p b w w ≡ false
  unfolding neighbour
  neighbour_without b w = rw (eq-eqb w w refl)

  -- before b: its parent alone
  neighbour_before : (b w i : ℕ) → i < b → (i ≡ p b → ⊥) → neighbour p b w i ≡ false
  unfolding neighbour joined
  neighbour_before b w i l h = go (eqb i w)
    where
      go : (s : Bool) → cond s false (cond (ltb i b) (eqb (p b) i) (cond (ltb b i) (eqb (p i) b) false)) ≡ false
      go true = refl
      go false = rw (lt-ltb i b l, ne_eqb (p b) i (λ e. h (sym e)))

-- ---- the two sweeps: rise i is what is seen of i at its parent, fall b what is seen of its parent at b
module _ {A : Type 0} (o : Ops A) (z own : ℕ → A) (G : Grid) (rise fall : ℕ → A) where
  -- what is seen of a neighbour i at b
  abbrev pub side : ℕ → ℕ → A
  side b i = cond (ltb i b) (fall b) (rise i)

  -- what is gathered at b without w
  abbrev pub gathers : ℕ → ℕ → A
  gathers b w = sum_over o.add (neighbour (parent_of G) b w) (side b) (own b) G.count

  pub record Swept : Type 0 where
    pub rises : (i : ℕ) → 0 < i → i < G.count → rise i ≡ through o z G (parent_of G i) i (gathers i (parent_of G i))
    pub falls : (b : ℕ) → 0 < b → b < G.count → fall b ≡ through o z G b (parent_of G b) (gathers (parent_of G b) b)

  module _ (tree : Treelike G) (s : Swept) where
    sentence : (b w : ℕ) → b < G.count → gathers b w ≡ sum_over o.add (neighbour (parent_of G) b w) (λ i. through o z G b i (gathers i b)) (own b) G.count
    sentence b w l =
        over_same o.add (neighbour (parent_of G) b w) (neighbour (parent_of G) b w) (side b) (λ i. through o z G b i (gathers i b)) (own b) G.count
        (λ i m. refl)
        (λ i m e. ⊎_elim (up i m) (down i m) (joined_cases (parent_of G) b i (neighbour_joined (parent_of G) b w i e).0))
      where
        up : (i : ℕ) → i < G.count → (i < b) × (parent_of G b ≡ i) → side b i ≡ through o z G b i (gathers i b)
        up i m u = rw (lt-ltb i b u.0, ← u.1) (s.falls b (omega arith) l)

        down : (i : ℕ) → i < G.count → (b < i) × (parent_of G i ≡ b) → side b i ≡ through o z G b i (gathers i b)
        down i m u = rw (le-ltb i b (omega arith), ← u.1) (s.rises i (omega arith) m)

    -- THE SWEEPS ARE THE WALK, where no bus is deeper than `max_branches`: the same numbers, rounded or exact
    pub swept_walk : ((i : ℕ) → i < G.count → depth (parent_of G) i ≤ max_branches) → (b w : ℕ) → b < G.count → gathers b w ≡ seen_by o z own G walk_steps b w
    swept_walk d b w l =
        only_walk (admittances o z own G) (parent_of G) G.count max_branches (depth (parent_of G)) (by_depth (parent_of G) G.count max_branches tree d) gathers sentence walk_steps b w l (omega arith)

  -- ---- for code: what each sweep adds up, in its order
  abbrev child : ℕ → ℕ → Bool
  child b i = eqb (parent_of G i) b

  -- b itself and its children past lo, the last one first
  abbrev pub gathers_past : ℕ → ℕ → A
  gathers_past b lo = over_from o.add (child b) rise (own b) (suc lo) (G.count - suc lo)

  module _ (tree : Treelike G) where
    -- the children past lo first, whatever is left out below
    parts : (b w lo : ℕ) → b ≤ lo → lo < G.count → w ≤ lo → gathers b w ≡ sum_over o.add (neighbour (parent_of G) b w) (side b) (gathers_past b lo) (suc lo)
    parts b w lo l m h =
        let e : G.count - suc lo + suc lo ≡ G.count = omega arith in
        let r = over_from_law o.add (neighbour (parent_of G) b w) (side b) (own b) (suc lo) (G.count - suc lo) in
        (rw e at r)
        ∙ ap (λ (x : A). sum_over o.add (neighbour (parent_of G) b w) (side b) x (suc lo))
        (from_same o.add (neighbour (parent_of G) b w) (child b) (side b) rise (own b) (suc lo) (G.count - suc lo)
        (λ i a c. neighbour_past (parent_of G) G.count tree b w i (omega arith) (λ q. omega arith)) (λ i a c. rw (le-ltb i b (omega arith))))

    -- TOWARDS BUS 0: what is seen at b without its parent, all its children added
    pub gathers_up : (b : ℕ) → 0 < b → b < G.count → gathers b (parent_of G b) ≡ gathers_past b b
    gathers_up b z l =
        let t = tree b z l in
        parts b (parent_of G b) b (omega arith) l (omega arith)
        ∙ over_none o.add (neighbour (parent_of G) b (parent_of G b)) (side b) (gathers_past b b) (suc b) (λ i m. go i m)
      where
        go : (i : ℕ) → i < suc b → neighbour (parent_of G) b (parent_of G b) i ≡ false
        go i m = test (eqb i b) (eqb i (parent_of G b)) refl refl
          where
            test : (s t : Bool) → eqb i b ≡ s → eqb i (parent_of G b) ≡ t → neighbour (parent_of G) b (parent_of G b) i ≡ false
            test true t e f = rw (eqb-true i b e) (neighbour_self (parent_of G) G.count tree b (parent_of G b))
            test false true e f = rw (eqb-true i (parent_of G b) f) (neighbour_without (parent_of G) G.count tree b (parent_of G b))
            test false false e f = neighbour_before (parent_of G) G.count tree b (parent_of G b) i (omega (arith, eqb-false i b e)) (eqb-false i (parent_of G b) f)

    -- b itself adds nothing, and its parent comes last; bus 0 has none
    ends : (b w : ℕ) (x : A) → b < G.count → (0 < b → parent_of G b ≡ w → ⊥) → sum_over o.add (neighbour (parent_of G) b w) (side b) x (suc b) ≡ cond (ltb 0 b) (o.add x (fall b)) x
    ends zero w x l h = over_none o.add (neighbour (parent_of G) 0 w) (side 0) x 1 (λ i m. let q : i ≡ 0 = omega arith in rw q (neighbour_self (parent_of G) G.count tree 0 w))
    ends (suc b) w x l h =
        let t = tree (suc b) (omega arith) l in
        over_one o.add (neighbour (parent_of G) (suc b) w) (side (suc b)) x (parent_of G (suc b)) (suc (suc b)) (omega arith) (neighbour_parent (parent_of G) (suc b) w t (h (omega arith))) (λ i m q. other i m q)
        ∙ rw (lt-ltb (parent_of G (suc b)) (suc b) t, lt-ltb 0 (suc b) (omega arith))
      where
        other : (i : ℕ) → i < suc (suc b) → (i ≡ parent_of G (suc b) → ⊥) → neighbour (parent_of G) (suc b) w i ≡ false
        other i m q = test (eqb i (suc b)) refl
          where
            test : (s : Bool) → eqb i (suc b) ≡ s → neighbour (parent_of G) (suc b) w i ≡ false
            test true e = rw (eqb-true i (suc b) e) (neighbour_self (parent_of G) G.count tree (suc b) w)
            test false e = neighbour_before (parent_of G) G.count tree (suc b) w i (omega (arith, eqb-false i (suc b) e)) q

    -- AT A BUS: its children, then its parent
    pub gathers_all : (b : ℕ) → b < G.count → gathers b b ≡ cond (ltb 0 b) (o.add (gathers_past b b) (fall b)) (gathers_past b b)
    gathers_all b l = parts b b b (omega arith) l (omega arith) ∙ ends b b (gathers_past b b) l (λ z e. omega (arith, tree b z l))

    -- what the parent of c has of its children without c: those past c, then those before it
    abbrev pub gathers_beside : ℕ → A
    gathers_beside c = over_from o.add (child (parent_of G c)) rise (gathers_past (parent_of G c) c) (suc (parent_of G c)) (c - suc (parent_of G c))

    -- AWAY FROM BUS 0: what is seen at the parent of c without c
    pub gathers_down : (c : ℕ) → 0 < c → c < G.count
        → gathers (parent_of G c) c ≡ cond (ltb 0 (parent_of G c)) (o.add (gathers_beside c) (fall (parent_of G c))) (gathers_beside c)
    gathers_down c z l =
        let b = parent_of G c in
        let t = tree c z l in
        let e : c - suc b + suc b ≡ c = omega arith in
        let r = over_from_law o.add (neighbour (parent_of G) b c) (side b) (gathers_past b c) (suc b) (c - suc b) in
        parts b c c (omega arith) l (omega arith)
        ∙ ap (λ (s : Bool). sum_over o.add (neighbour (parent_of G) b c) (side b) (cond s (o.add (gathers_past b c) (side b c)) (gathers_past b c)) c) (neighbour_without (parent_of G) G.count tree b c)
        ∙ (rw e at r)
        ∙ ap (λ (x : A). sum_over o.add (neighbour (parent_of G) b c) (side b) x (suc b))
        (from_same o.add (neighbour (parent_of G) b c) (child b) (side b) rise (gathers_past b c) (suc b) (c - suc b)
        (λ i u v. neighbour_past (parent_of G) G.count tree b c i (omega arith) (λ q. omega arith)) (λ i u v. rw (le-ltb i b (omega arith))))
        ∙ ends b c (gathers_beside c) (omega arith) (λ y q. omega (arith, tree b y (omega arith)))
