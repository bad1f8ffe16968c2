-- Laws of `SumAtMost` and `SumAtLeast`: bounds of each magnitude that are fractions give a bound of the sum; and how far apart two sums are.
-- Assumes nothing.
use Rattle.std.specs.Prelude.{ℕ, zero, suc, ◌*◌, ◌<◌, [], ◌∷◌, refl}
use Rattle.std.proofs.Common.{arith, le_refl, mul-pos}
use Rattle.algebra.specs.Reading.{from, from_over, read, ◌⊹◌, ◌⋆◌}
use Rattle.enclosure.specs.laws.Root.{root_le}
use Rattle.enclosure.specs.Fraction.{Fraction, Most, plus, product, total, SumAtMost, SumAtLeast}

-- ---- `Most` with sums, products and squares
pub most_trans : (x y z : Fraction) → 0 < y.under → Most x y → Most y z → Most x z
most_trans x y z p h k =
    from_over (x.top ∷ x.under ∷ y.top ∷ y.under ∷ z.top ∷ z.under ∷ []) y.under p (z.under ⋆ h ⊹ x.under ⋆ k) (search read depth 40 fits 20000) refl

plus_most : (x x' y y' : Fraction) → Most x x' → Most y y' → Most (plus x y) (plus x' y')
plus_most x x' y y' h k =
    from (x.top ∷ x.under ∷ x'.top ∷ x'.under ∷ y.top ∷ y.under ∷ y'.top ∷ y'.under ∷ []) (y.under * y'.under ⋆ h ⊹ x.under * x'.under ⋆ k) (search read depth 40 fits 20000) refl

product_most : (x x' y y' : Fraction) → Most x x' → Most y y' → Most (product x y) (product x' y')
product_most x x' y y' h k =
    from (x.top ∷ x.under ∷ x'.top ∷ x'.under ∷ y.top ∷ y.under ∷ y'.top ∷ y'.under ∷ []) (y.top * y'.under ⋆ h ⊹ x'.top * x.under ⋆ k) (search read depth 40 fits 20000) refl

-- of two numbers with squares on both sides of s
square_most : (x s y : Fraction) → 0 < s.under → Most (product x x) s → Most s (product y y) → Most x y
square_most x s y p h k =
    root_le (x.top * y.under) (y.top * x.under)
    (from_over (x.top ∷ x.under ∷ y.top ∷ y.under ∷ s.top ∷ s.under ∷ []) s.under p (y.under * y.under ⋆ h ⊹ x.under * x.under ⋆ k) (search read depth 40 fits 20000) refl)

-- ---- larger weights or parts, larger sums
pub total_most : (m : ℕ) (w w' f f' : ℕ → Fraction) (C : Fraction) → ((j : ℕ) → j < m → Most (w j) (w' j)) → ((j : ℕ) → j < m → Most (f j) (f' j)) → Most (total m w f C) (total m w' f' C)
total_most zero w w' f f' C h k = le_refl _
total_most (suc m) w w' f f' C h k =
    plus_most _ _ _ _ (total_most m w w' f f' C (λ j l. h j (omega arith)) (λ j l. k j (omega arith))) (product_most _ _ _ _ (h m (omega arith)) (k m (omega arith)))

pub total_proper : (m : ℕ) (w f : ℕ → Fraction) (C : Fraction) → 0 < C.under → ((j : ℕ) → j < m → 0 < (w j).under) → ((j : ℕ) → j < m → 0 < (f j).under) → 0 < (total m w f C).under
total_proper zero w f C c h k = c
total_proper (suc m) w f C c h k = mul-pos (total_proper m w f C c (λ j l. h j (omega arith)) (λ j l. k j (omega arith))) (mul-pos (h m (omega arith)) (k m (omega arith)))

module _ (m : ℕ) (w s : ℕ → Fraction) (C N : Fraction) (proper : (j : ℕ) → j < m → 0 < (s j).under) (weights : (j : ℕ) → j < m → 0 < (w j).under) (c : 0 < C.under) where
  -- A SUM IS AT MOST N where fractions that are not below the magnitudes have a sum of at most N
  pub sum_at_most : (u : ℕ → Fraction) → ((j : ℕ) → j < m → (0 < (u j).under) × Most (s j) (product (u j) (u j))) → Most (total m w u C) N → SumAtMost m w s C N
  sum_at_most u h n f k =
      most_trans _ (total m w u C) _ (total_proper m w u C c weights (λ j l. (h j l).0))
      (total_most m w w f u C (λ j l. le_refl _) (λ j l. square_most (f j) (s j) (u j) (proper j l) (k j l).1 (h j l).1)) n

  -- A SUM IS AT LEAST N where fractions that are not above the magnitudes have a sum of at least N
  pub sum_at_least : (l : ℕ → Fraction) → ((j : ℕ) → j < m → (0 < (l j).under) × Most (product (l j) (l j)) (s j)) → Most N (total m w l C) → SumAtLeast m w s C N
  sum_at_least u h n f k =
      most_trans _ (total m w u C) _ (total_proper m w u C c weights (λ j l. (h j l).0)) n
      (total_most m w w u f C (λ j l. le_refl _) (λ j l. square_most (u j) (s j) (f j) (proper j l) (h j l).1 (k j l).1))

  -- for magnitudes that are fractions, the definitions mean what they should
  pub most_plain : (r : ℕ → Fraction) → ((j : ℕ) → j < m → (0 < (r j).under) × Most (product (r j) (r j)) (s j)) → SumAtMost m w s C N → Most (total m w r C) N
  most_plain r h k = k r h

  pub least_plain : (r : ℕ → Fraction) → ((j : ℕ) → j < m → (0 < (r j).under) × Most (s j) (product (r j) (r j))) → SumAtLeast m w s C N → Most N (total m w r C)
  least_plain r h k = k r h
