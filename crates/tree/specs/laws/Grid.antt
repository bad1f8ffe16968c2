-- Laws of what is seen: a branch by its three cases; document 01's sentence, which knows no fuel; how many steps are enough; and on what
-- it depends. Assumes nothing.
use Rattle.std.specs.Prelude.{ℕ, ◌+◌, ◌*◌, ◌≤◌, ◌<◌, ◌≡◌, refl, Bool, true, false, ltb}
use Rattle.std.proofs.Common.{sym, ◌∙◌, ap, arith}
use Rattle.enclosure.specs.Exact.{Point, Ops, exact}
use Rattle.tree.specs.Limits.{max_branches, walk_steps}
use Rattle.tree.specs.Grid.{joined, walk, Grid, through, times_square, Treelike, Sentence, seen, admittances, parent_of, seen_by}
use Rattle.tree.specs.laws.Walk.{by_number, more_fuel, walk_equation, only_walk, walk_same, to_parent, to_child}
use Rattle.tree.specs.laws.Toward.{depth, by_depth}

-- its three cases, as equations and as one rule
module _ {A : Type 0} (o : Ops A) (z : ℕ → A) (G : Grid) (b i : ℕ) (y : A) where
  pub through_nothing : o.empty y ≡ true → through o z G b i y ≡ o.none
  unfolding through
  through_nothing e = rw e

  pub through_parent : o.empty y ≡ false → ltb i b ≡ true
      → through o z G b i y ≡ o.inverse (o.add (z b) (times_square o (G.branch b).below (G.branch b).above (o.inverse y)))
  unfolding through
  through_parent e d = rw (e, d)

  pub through_child : o.empty y ≡ false → ltb i b ≡ false
      → through o z G b i y ≡ o.inverse (times_square o (G.branch i).above (G.branch i).below (o.add (z i) (o.inverse y)))
  unfolding through
  through_child e d = rw (e, d)

  pub through_cases : (P : A → Type 0) → (o.empty y ≡ true → P o.none)
      → (o.empty y ≡ false → ltb i b ≡ true → P (o.inverse (o.add (z b) (times_square o (G.branch b).below (G.branch b).above (o.inverse y)))))
      → (o.empty y ≡ false → ltb i b ≡ false → P (o.inverse (times_square o (G.branch i).above (G.branch i).below (o.add (z i) (o.inverse y)))))
      → P (through o z G b i y)
  through_cases P none parent child = go (o.empty y) (ltb i b) refl refl
    where
      go : (e d : Bool) → o.empty y ≡ e → ltb i b ≡ d → P (through o z G b i y)
      go true d p q = rw (through_nothing p) (none p)
      go false true p q = rw (through_parent p q) (parent p q)
      go false false p q = rw (through_child p q) (child p q)

-- what is seen satisfies it
pub seen_sentence : (G : Grid) → Treelike G → Sentence G (seen G)
unfolding seen
seen_sentence G t b w l =
    walk_equation (admittances exact (λ i. (G.branch i).z) G.own G) (parent_of G) G.count G.count (λ i. i) (by_number (parent_of G) G.count t) (2 * G.count + 1) b w l (omega arith)

-- and nothing else does
pub sentence_seen : (G : Grid) → Treelike G → (S : ℕ → ℕ → Point) → Sentence G S → (b w : ℕ) → b < G.count → S b w ≡ seen G b w
unfolding seen
sentence_seen G t S q b w l =
    only_walk (admittances exact (λ i. (G.branch i).z) G.own G) (parent_of G) G.count G.count (λ i. i) (by_number (parent_of G) G.count t) S q (2 * G.count + 1) b w l (omega arith)

-- ---- `walk_steps` ARE ENOUGH where no bus is deeper than `max_branches`
pub seen_steps : (G : Grid) → Treelike G → ((i : ℕ) → i < G.count → depth (parent_of G) i ≤ max_branches) → (b w : ℕ) → b < G.count
    → seen G b w ≡ seen_by exact (λ i. (G.branch i).z) G.own G walk_steps b w
unfolding seen
seen_steps G t d b w l =
    let W = admittances exact (λ i. (G.branch i).z) G.own G in
    let p = parent_of G in
    let n = G.count in
    more_fuel W p n n (λ i. i) (by_number p n t) (2 * n + 1) (2 * n + walk_steps) b w l (omega arith) (omega arith)
    ∙ more_fuel W p n max_branches (depth p) (by_depth p n max_branches t d) (2 * n + walk_steps) walk_steps b w l (omega arith) (omega arith)

-- ---- what is seen depends on nothing but the tree, the rated volts, the impedances and the buses' own admittances
pub record Shaped (G H : Grid) : Type 0 where
  pub count : G.count ≡ H.count
  pub parent : (i : ℕ) → i < G.count → parent_of G i ≡ parent_of H i
  pub above : (i : ℕ) → 0 < i → i < G.count → (G.branch i).above ≡ (H.branch i).above
  pub below : (i : ℕ) → 0 < i → i < G.count → (G.branch i).below ≡ (H.branch i).below

pub seen_same : {A : Type 0} (o : Ops A) (z z' own own' : ℕ → A) (G H : Grid) → Shaped G H
    → ((i : ℕ) → 0 < i → i < G.count → z i ≡ z' i) → ((b : ℕ) → b < G.count → own b ≡ own' b)
    → (fuel b w : ℕ) → b < G.count → seen_by o z own G fuel b w ≡ seen_by o z' own' H fuel b w
seen_same {A} o z z' own own' G H s hz ho fuel b w l =
    walk_same o.add own own' (through o z G) (through o z' H) (parent_of G) (parent_of H) G.count s.parent ho comes fuel b w l
    ∙ ap (λ (n : ℕ). walk (admittances o z' own' H) (parent_of H) n fuel b w) s.count
  where
    comes : (b i : ℕ) (x : A) → b < G.count → i < G.count → joined (parent_of G) b i ≡ true → through o z G b i x ≡ through o z' H b i x
    comes b i x lb li e =
        through_cases o z G b i x (λ t. t ≡ through o z' H b i x)
        (λ p. sym (through_nothing o z' H b i x p))
        (λ p q. let c = (to_parent (parent_of G) b i e q).0 in rw (through_parent o z' H b i x p q, hz b c lb, s.above b c lb, s.below b c lb))
        (λ p q. let c = (to_child (parent_of G) b i e q).0 in rw (through_child o z' H b i x p q, hz i c li, s.above i c li, s.below i c li))
