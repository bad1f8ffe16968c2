-- By the rated ratios of a way a current is carried almost as by the nominal volts of its ends: a factor of 11/9 for each transformer bounds
-- the difference.
-- Assumes nothing.
use Rattle.std.specs.Prelude.{ℕ, zero, suc, ◌+◌, ◌*◌, ◌^◌, ◌≤◌, ◌<◌, refl, [], ◌∷◌}
use Rattle.std.proofs.Common.{arith, le_refl, mul-le-mul, pow-suc, pow-add, lt-ltb, le-ltb}
use Rattle.std.proofs.Math.Nat.{le_dest}
use Rattle.algebra.specs.Reading.{from, read, ◌⊹◌, ◌⋆◌}
use Rattle.enclosure.specs.Fraction.{Fraction, whole, product}
use Rattle.tree.specs.Grid.{Grid, parent_of, Treelike}
use Rattle.tree.specs.Shares.{ratio, ratios}
use Rattle.tree.specs.laws.Shares.{between_held, branches_between}

-- ---- U gives the nominal volts; t i is 1 where the branch of i is a transformer and 0 where it is a line, h i counts the transformers between
-- bus 0 and i
pub record Crossed (G : Grid) (U t h : ℕ → ℕ) : Type 0 where
  pub above : (i : ℕ) → 0 < i → i < G.count → 9 ^ t i * ((G.branch i).above * U i) ≤ 11 ^ t i * ((G.branch i).below * U (parent_of G i))
  pub below : (i : ℕ) → 0 < i → i < G.count → 9 ^ t i * ((G.branch i).below * U (parent_of G i)) ≤ 11 ^ t i * ((G.branch i).above * U i)
  pub counts : (i : ℕ) → 0 < i → i < G.count → t i + h (parent_of G i) ≤ h i

-- x is at most w/u times (11/9)^k
abbrev pub Level : ℕ → ℕ → ℕ → Fraction → Type 0
Level k u w x = 9 ^ k * (x.top * u) ≤ 11 ^ k * (x.under * w)

nine : (d : ℕ) → 9 ^ d ≤ 11 ^ d
nine zero = omega arith
nine (suc d) = rw (pow-suc 9 d, pow-suc 11 d) (mul-le-mul (nine d) (omega arith))

level_more : (j k u w : ℕ) (x : Fraction) → j ≤ k → Level j u w x → Level k u w x
level_more j k u w x l h =
    rw (← (le_dest l).1, pow-add 9 j (le_dest l).0, pow-add 11 j (le_dest l).0) (put (9 ^ j) (11 ^ j) (9 ^ (le_dest l).0) (11 ^ (le_dest l).0) (x.top * u) (x.under * w) h (nine (le_dest l).0))
  where
    put : (a A b B m n : ℕ) → a * m ≤ A * n → b ≤ B → a * b * m ≤ A * B * n
    put a A b B m n h g = from (a ∷ A ∷ b ∷ B ∷ m ∷ n ∷ []) (b ⋆ h ⊹ A * n ⋆ g) (search read depth 40 fits 20000) refl

-- a branch more, with the ratio p/q, before the way and after it
module _ (t k u v w p q : ℕ) (x : Fraction) where
  level_near : 9 ^ t * (p * u) ≤ 11 ^ t * (q * v) → Level k v w x → Level (t + k) u w (product x (record { top = p; under = q }))
  level_near h g = rw (pow-add 9 t k, pow-add 11 t k) (put (9 ^ t) (11 ^ t) (9 ^ k) (11 ^ k) x.top x.under h g)
    where
      put : (a A b B m n : ℕ) → a * (p * u) ≤ A * (q * v) → b * (m * v) ≤ B * (n * w) → a * b * (m * p * u) ≤ A * B * (n * q * w)
      put a A b B m n h g = from (a ∷ A ∷ b ∷ B ∷ m ∷ n ∷ p ∷ q ∷ u ∷ v ∷ w ∷ []) (b * m ⋆ h ⊹ A * q ⋆ g) (search read depth 40 fits 20000) refl

  level_far : 9 ^ t * (p * v) ≤ 11 ^ t * (q * w) → Level k u v x → Level (t + k) u w (product x (record { top = p; under = q }))
  level_far h g = rw (pow-add 9 t k, pow-add 11 t k) (put (9 ^ t) (11 ^ t) (9 ^ k) (11 ^ k) x.top x.under h g)
    where
      put : (a A b B m n : ℕ) → a * (p * v) ≤ A * (q * w) → b * (m * u) ≤ B * (n * v) → a * b * (m * p * u) ≤ A * B * (n * q * w)
      put a A b B m n h g = from (a ∷ A ∷ b ∷ B ∷ m ∷ n ∷ p ∷ q ∷ u ∷ v ∷ w ∷ []) (a * p ⋆ g ⊹ B * n ⋆ h) (search read depth 40 fits 20000) refl

-- and at least w/u over (11/9)^k
abbrev pub Levelled : ℕ → ℕ → ℕ → Fraction → Type 0
Levelled k u w x = Level k u w x × Level k w u (record { top = x.under; under = x.top })

module _ (G : Grid) (U t h : ℕ → ℕ) (tree : Treelike G) (c : Crossed G U t h) where
  pub levelled_up : (k i j : ℕ) (x : Fraction) → 0 < i → i < G.count → Levelled k (U (parent_of G i)) (U j) x → Levelled (t i + k) (U i) (U j) (product x (ratio G i (parent_of G i)))
  levelled_up k i j x z li r =
      rw (lt-ltb (parent_of G i) i (tree i z li)) (
        level_near (t i) k (U i) (U (parent_of G i)) (U j) (G.branch i).above (G.branch i).below x (c.above i z li) r.0,
        level_far (t i) k (U j) (U (parent_of G i)) (U i) (G.branch i).below (G.branch i).above (record { top = x.under; under = x.top }) (c.below i z li) r.1,
      )

  pub levelled_down : (k b i : ℕ) (x : Fraction) → 0 < i → i < G.count → Levelled k (U b) (U (parent_of G i)) x → Levelled (t i + k) (U b) (U i) (product x (ratio G (parent_of G i) i))
  levelled_down k b i x z li r =
      let l = tree i z li in
      rw (le-ltb i (parent_of G i) (omega arith)) (
        level_far (t i) k (U b) (U (parent_of G i)) (U i) (G.branch i).below (G.branch i).above x (c.below i z li) r.0,
        level_near (t i) k (U i) (U (parent_of G i)) (U b) (G.branch i).above (G.branch i).below (record { top = x.under; under = x.top }) (c.above i z li) r.1,
      )

  pub levelled_more : (j k u w : ℕ) (x : Fraction) → j ≤ k → Levelled j u w x → Levelled k u w x
  levelled_more j k u w x l r = (level_more j k u w x l r.0, level_more j k w u (record { top = x.under; under = x.top }) l r.1)

  -- THE RATIOS OF A WAY lie within (11/9)^k of U j/U b, k the transformers between bus 0 and both ends
  pub ratios_level : (b j : ℕ) → b < G.count → j < G.count → Levelled (h b + h j) (U b) (U j) (ratios G b j)
  ratios_level b j lb lj =
      rw (branches_between (parent_of G) G.count tree (ratio G) b j lb lj)
      (between_held (parent_of G) G.count tree h t c.counts (λ k b j x y. Levelled k (U b) (U j) x) (λ j k b d x y. levelled_more j k (U b) (U d) x)
      (λ b d x. product x (ratio G b d)) (λ b d x. x) (whole 1) (whole 1) (λ b l. (le_refl _, le_refl _))
      (λ k i j x y z li lj. levelled_up k i j x z li) (λ k b i x y z lb li. levelled_down k b i x z li) b j lb lj)
