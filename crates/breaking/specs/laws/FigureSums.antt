-- A figure for a weighted sum of magnitudes, in whole numbers: each magnitude has bounds in steps of 1/4,096, each weight is in
-- thousandths and at most 1.7 % too large, and the rest C has whole bounds. The figure is never below the sum, nor above it by more than
-- 3 % and 4. Assumes nothing.
use Rattle.std.specs.Prelude.{ℕ, zero, suc, ◌+◌, ◌-◌, ◌*◌, ◌/◌, ◌≤◌, ◌<◌, refl, [], ◌∷◌}
use Rattle.std.proofs.Common.{zero-le, arith, le_refl, le_trans, mul-le-mul, lit<}
use Rattle.algebra.specs.Reading.{from, read, ◌⊹◌, ◌⋆◌}
use Rattle.enclosure.specs.Fraction.{Fraction, Most, whole, product, total, SumAtMost, SumAtLeast}
use Rattle.enclosure.specs.Doubles.{under_root}
use Rattle.enclosure.specs.laws.RootBounds.{RootHolds, bounds_above, bounds_under, bounds_close}
use Rattle.enclosure.specs.laws.Magnitudes.{sum_at_most, sum_at_least, most_trans}
use Rattle.tree.specs.Limits.{covered_sources}
use Rattle.breaking.specs.Doubles.{weighed, amperes_up}

-- g 0 + .. + g (m − 1)
abbrev pub sum_of : ℕ → (ℕ → ℕ) → ℕ
sum_of zero g = 0
sum_of (suc m) g = sum_of m g + g m

abbrev pub fine : ℕ → Fraction
fine n = record { top = n; under = 4096 }

abbrev pub thousandths : ℕ → Fraction
thousandths n = record { top = n; under = 1000 }

-- the figure from all steps: rounded up to whole numbers, and the rest's upper bound
abbrev pub figure_of : ℕ → ℕ → ℕ
figure_of S U = amperes_up S + U

-- ---- what is known of one magnitude with the square s and the weight w: it is from l to e steps, and the weight that is used is w'
pub record PartHolds (w w' e l : ℕ) (s : Fraction) : Type 0 where
  pub proper : 0 < s.under
  pub above : Most s (product (fine e) (fine e))
  pub below : Most (product (fine l) (fine l)) s
  pub close : 16383 * e ≤ 16384 * (l + 3)
  pub weight : w ≤ w'
  pub weight_close : 1000 * w' ≤ 1017 * w
  pub weight_most : w' ≤ 1000

-- from one root
pub part_of_root : (w w' : ℕ) (S : Fraction) (r : ℕ) → 0 < S.under → RootHolds (16777216 * S.top) S.under r → w ≤ w' → 1000 * w' ≤ 1017 * w → w' ≤ 1000 → PartHolds w w' (r + 1) (under_root r) S
part_of_root w w' S r p h a b c =
    record { proper = p; above = bounds_above S r h; below = bounds_under S r h; close = bounds_close r; weight = a; weight_close = b; weight_most = c }

-- and of the rest
pub record Rest (L U : ℕ) (C : Fraction) : Type 0 where
  pub proper : 0 < C.under
  pub low : L * C.under ≤ C.top
  pub high : C.top ≤ U * C.under
  pub narrow : 1000 * U ≤ 1000 * (L + 2) + U

-- ---- weights in thousandths and magnitudes in steps: their sum is one fraction over 4,096,000
more_most : (p k a b t u : ℕ) → t * 4096000 ≤ (p + k * 4096000) * u → (t * (1000 * 4096) + a * b * u) * 4096000 ≤ (p + a * b + k * 4096000) * (u * (1000 * 4096))
more_most p k a b t u h = from (p ∷ k ∷ a ∷ b ∷ t ∷ u ∷ []) (4096000 ⋆ h) (search read depth 40 fits 20000) refl

more_least : (p k a b t u : ℕ) → (p + k * 4096000) * u ≤ t * 4096000 → (p + a * b + k * 4096000) * (u * (1000 * 4096)) ≤ (t * (1000 * 4096) + a * b * u) * 4096000
more_least p k a b t u h = from (p ∷ k ∷ a ∷ b ∷ t ∷ u ∷ []) (4096000 ⋆ h) (search read depth 40 fits 20000) refl

abbrev over : ℕ → ℕ → Fraction
over p k = record { top = p + k * 4096000; under = 4096000 }

total_high : (m : ℕ) (w n : ℕ → ℕ) (C : Fraction) (U : ℕ) → C.top ≤ U * C.under → Most (total m (λ j. thousandths (w j)) (λ j. fine (n j)) C) (over (sum_of m (λ j. w j * n j)) U)
total_high zero w n C U h = from (C.top ∷ C.under ∷ U ∷ []) (4096000 ⋆ h) (search read depth 40 fits 20000) refl
total_high (suc m) w n C U h = more_most (sum_of m (λ j. w j * n j)) U (w m) (n m) _ _ (total_high m w n C U h)

total_low : (m : ℕ) (w n : ℕ → ℕ) (C : Fraction) (L : ℕ) → L * C.under ≤ C.top → Most (over (sum_of m (λ j. w j * n j)) L) (total m (λ j. thousandths (w j)) (λ j. fine (n j)) C)
total_low zero w n C L h = from (C.top ∷ C.under ∷ L ∷ []) (4096000 ⋆ h) (search read depth 40 fits 20000) refl
total_low (suc m) w n C L h = more_least (sum_of m (λ j. w j * n j)) L (w m) (n m) _ _ (total_low m w n C L h)

-- ---- one part: rounded up it is no less than with the exact weight, and how much more than l steps with that
part_high : (w w' e : ℕ) → w ≤ w' → w * e ≤ 1000 * weighed w' e
part_high w w' e h = go (w * e) (w' * e) (mul-le-mul h (le_refl e))
  where
    go : (x y : ℕ) → x ≤ y → x ≤ 1000 * ((y + 999) / 1000)
    go x y h = omega arith

part_low : (w w' e l : ℕ) → 16383 * e ≤ 16384 * (l + 3) → 1000 * w' ≤ 1017 * w → w' ≤ 1000 → 16383000000 * weighed w' e ≤ 16662528 * (w * l) + 65518617000
part_low w w' e l h k o =
    go (w' * e) (w * l)
    (from (w ∷ w' ∷ e ∷ l ∷ []) (1000 * w' ⋆ h ⊹ 16384 * l ⋆ k ⊹ 49152000 ⋆ o) (search read depth 40 fits 20000) refl)
  where
    go : (x y : ℕ) → 16383000 * x ≤ 16662528 * y + 49152000000 → 16383000000 * ((x + 999) / 1000) ≤ 16662528 * y + 65518617000
    go x y h = omega arith

sum_high : (m : ℕ) (w w' e : ℕ → ℕ) → ((j : ℕ) → j < m → w j ≤ w' j) → sum_of m (λ j. w j * e j) ≤ 1000 * sum_of m (λ j. weighed (w' j) (e j))
sum_high zero w w' e h = le_refl 0
sum_high (suc m) w w' e h = go _ _ _ _ (sum_high m w w' e (λ j l. h j (omega arith))) (part_high (w m) (w' m) (e m) (h m (omega arith)))
  where
    go : (a b c d : ℕ) → a ≤ 1000 * b → c ≤ 1000 * d → a + c ≤ 1000 * (b + d)
    go a b c d h k = omega arith

sum_low : (m : ℕ) (w w' e l : ℕ → ℕ) (s : ℕ → Fraction) → ((j : ℕ) → j < m → PartHolds (w j) (w' j) (e j) (l j) (s j))
    → 16383000000 * sum_of m (λ j. weighed (w' j) (e j)) ≤ 16662528 * sum_of m (λ j. w j * l j) + 65518617000 * m
sum_low zero w w' e l s h = le_refl 0
sum_low (suc m) w w' e l s h =
    let p = h m (omega arith) in
    go _ _ _ _ (sum_low m w w' e l s (λ j n. h j (omega arith))) (part_low (w m) (w' m) (e m) (l m) p.close p.weight_close p.weight_most)
  where
    go : (a b c d : ℕ) → 16383000000 * a ≤ 16662528 * b + 65518617000 * m → 16383000000 * c ≤ 16662528 * d + 65518617000
        → 16383000000 * (a + c) ≤ 16662528 * (b + d) + 65518617000 * suc m
    go a b c d h k = omega arith

-- ---- the figure against both sums
figure_high : (p S U : ℕ) → p ≤ 1000 * S → (p + U * 4096000) * 1 ≤ figure_of S U * 4096000
figure_high p S U h = omega arith

figure_low : (m p S L U : ℕ) → m ≤ covered_sources → 16383000000 * S ≤ 16662528 * p + 65518617000 * m → 1000 * U ≤ 1000 * (L + 2) + U
    → 100 * (figure_of S U - 4) * 4096000 ≤ (p + L * 4096000) * 103
figure_low m p S L U few h k = omega arith

-- ---- THE FIGURE IS NEVER BELOW THE SUM, nor above it by more than 3 % and 4
module _ (m : ℕ) (few : m ≤ covered_sources) (w w' e l : ℕ → ℕ) (s : ℕ → Fraction) (parts : (j : ℕ) → j < m → PartHolds (w j) (w' j) (e j) (l j) (s j)) (L U : ℕ) (C : Fraction) (rest : Rest L U C) where
  pub figure_at_most : SumAtMost m (λ j. thousandths (w j)) s C (whole (figure_of (sum_of m (λ j. weighed (w' j) (e j))) U))
  figure_at_most =
      sum_at_most m (λ j. thousandths (w j)) s C _ (λ j k. (parts j k).proper) (λ j k. lit< tt) rest.proper (λ j. fine (e j)) (λ j k. (lit< tt, (parts j k).above))
      (most_trans _ (over (sum_of m (λ j. w j * e j)) U) _ (lit< tt) (total_high m w e C U rest.high)
      (figure_high (sum_of m (λ j. w j * e j)) (sum_of m (λ j. weighed (w' j) (e j))) U (sum_high m w w' e (λ j k. (parts j k).weight))))

  pub figure_at_least : SumAtLeast m (λ j. thousandths (w j)) s C (record { top = 100 * (figure_of (sum_of m (λ j. weighed (w' j) (e j))) U - 4); under = 103 })
  figure_at_least =
      sum_at_least m (λ j. thousandths (w j)) s C _ (λ j k. (parts j k).proper) (λ j k. lit< tt) rest.proper (λ j. fine (l j)) (λ j k. (lit< tt, (parts j k).below))
      (most_trans _ (over (sum_of m (λ j. w j * l j)) L) _ (lit< tt)
      (figure_low m (sum_of m (λ j. w j * l j)) (sum_of m (λ j. weighed (w' j) (e j))) L U few (sum_low m w w' e l s parts) rest.narrow)
      (total_low m w l C L rest.low))

-- ---- sizes: nothing overflows
pub weighed_most : (w n : ℕ) → w ≤ 1000 → weighed w n ≤ n
weighed_most w n h = go (w * n) (mul-le-mul h (le_refl n))
  where
    go : (x : ℕ) → x ≤ 1000 * n → (x + 999) / 1000 ≤ n
    go x h = omega arith

pub steps_most : (m : ℕ) (w' e : ℕ → ℕ) (B : ℕ) → ((j : ℕ) → j < m → (w' j ≤ 1000) × (e j ≤ B)) → sum_of m (λ j. weighed (w' j) (e j)) ≤ m * B
steps_most zero w' e B h = zero-le
steps_most (suc m) w' e B h =
    go _ _ (steps_most m w' e B (λ j l. h j (omega arith))) (le_trans (weighed_most (w' m) (e m) (h m (omega arith)).0) (h m (omega arith)).1)
  where
    go : (a b : ℕ) → a ≤ m * B → b ≤ B → a + b ≤ suc m * B
    go a b h k = from (a ∷ b ∷ m ∷ B ∷ []) (h ⊹ k) (search read depth 40 fits 20000) refl
