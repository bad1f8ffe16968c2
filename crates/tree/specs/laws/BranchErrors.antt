-- The cost of a branch in any rounded calculation that keeps the rules of nearness.
-- Assumes nothing.
use Rattle.std.specs.Prelude.{ℕ, ◌+◌, ◌≤◌, ◌<◌, ◌≡◌, true}
use Rattle.std.proofs.Common.{sym, ◌∙◌, arith}
use Rattle.enclosure.specs.Exact.{Ops}
use Rattle.enclosure.specs.laws.Nearness.{Rules}
use Rattle.tree.specs.Grid.{joined, Grid, parent_of, times_square, through}
use Rattle.tree.specs.laws.Walk.{to_parent, to_child}
use Rattle.tree.specs.laws.Grid.{through_nothing, through_parent, through_child, through_cases}

module _ {A B : Type 0} (o : Ops A) (o' : Ops B) (R : ℕ → A → B → Type 0) (Factor : ℕ → Type 0) (limit a v s : ℕ) (rules : Rules o o' R Factor limit a v s) where
  square_near : (k p q : ℕ) (x : A) (y : B) → Factor p → Factor q → k + s ≤ limit → R k x y → R (k + s + s) (times_square o p q x) (times_square o' p q y)
  square_near k p q x y hp hq l r = rules.near_scale (k + s) p q _ _ hp hq l (rules.near_scale k p q x y hp hq (omega arith) r)

  module _ (G : Grid) (z : ℕ → A) (z' : ℕ → B) (k₀ : ℕ)
      (near-z : (i : ℕ) → 0 < i → i < G.count → R k₀ (z i) (z' i))
      (volts : (i : ℕ) → 0 < i → i < G.count → Factor (G.branch i).above × Factor (G.branch i).below) where
    -- two inverses, a ratio twice, a sum
    pub through_near : (k b i : ℕ) (x : A) (x' : B) → b < G.count → i < G.count → joined (parent_of G) b i ≡ true → k₀ ≤ k → k + (v + v + s + s + a) ≤ limit → R k x x'
        → R (k + (v + v + s + s + a)) (through o z G b i x) (through o' z' G b i x')
    through_near k b i x x' hb hi w m l r =
        through_cases o z G b i x (λ t. R (k + (v + v + s + s + a)) t (through o' z' G b i x'))
        (λ e. rw (through_nothing o' z' G b i x' (sym same ∙ e)) (rules.more 0 _ _ _ (omega arith) rules.near_none))
        (λ e d.
        let p = (to_parent (parent_of G) b i w d).0 in
        rw (through_parent o' z' G b i x' (sym same ∙ e) d)
        (rules.more (k + v + s + s + a + v) _ _ _ (omega arith)
        (rules.near_inverse (k + v + s + s + a) _ _ (omega arith)
        (rules.near_add (k + v + s + s) _ _ _ _ (omega arith)
        (rules.more k₀ _ _ _ (omega arith) (near-z b p hb))
        (square_near (k + v) _ _ _ _ (volts b p hb).1 (volts b p hb).0 (omega arith) (rules.near_inverse k _ _ (omega arith) r))))))
        (λ e d.
        let p = (to_child (parent_of G) b i w d).0 in
        rw (through_child o' z' G b i x' (sym same ∙ e) d)
        (rules.more (k + v + a + s + s + v) _ _ _ (omega arith)
        (rules.near_inverse (k + v + a + s + s) _ _ (omega arith)
        (square_near (k + v + a) _ _ _ _ (volts i p hi).0 (volts i p hi).1 (omega arith)
        (rules.near_add (k + v) _ _ _ _ (omega arith)
        (rules.more k₀ _ _ _ (omega arith) (near-z i p hi))
        (rules.near_inverse k _ _ (omega arith) r))))))
      where
        same : o.empty x ≡ o'.empty x'
        same = rules.near_empty k x x' (omega arith) r
