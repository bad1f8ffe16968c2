-- What stands where in the table that is laid over a lent one, and the sum of the steps by places. Assumes nothing.
use Rattle.std.specs.Prelude.{ℕ, zero, suc, ◌+◌, ◌*◌, ◌<◌, ◌≡◌, refl, List, [], ◌∷◌, Float, length, get_or}
use Rattle.std.proofs.Common.{◌∙◌, arith}
use Rattle.std.specs.Float.{nan}
use Rattle.breaking.specs.laws.FigureSums.{sum_of}
use Rattle.network.specs.declared.study.Source.{Source}
use Rattle.network.specs.Network.{source_at}
use Rattle.network.specs.laws.Tables.{laid_at}
use Rattle.breaking.specs.declared.parts.Part.{Part}
use Rattle.network.specs.Tables.{laid_over}
use Rattle.breaking.specs.Doubles.{table_of, steps_from}
use Rattle.breaking.specs.laws.Tables.{table_length}

-- ---- the table of a list of sources
lower_at_law : (part : Source → Part) (l : List Source) (j : ℕ) → j < length l → get_or (table_of part l) (2 * j) nan ≡ (part (source_at l j)).lower
lower_at_law part [] j h = absurd (omega arith)
lower_at_law part (p ∷ l) zero h = refl
lower_at_law part (p ∷ l) (suc j) h = let e : 2 * suc j ≡ suc (suc (2 * j)) = omega arith in rw e (lower_at_law part l j (omega arith))

upper_at_law : (part : Source → Part) (l : List Source) (j : ℕ) → j < length l → get_or (table_of part l) (2 * j + 1) nan ≡ (part (source_at l j)).upper
upper_at_law part [] j h = absurd (omega arith)
upper_at_law part (p ∷ l) zero h = refl
upper_at_law part (p ∷ l) (suc j) h = let e : 2 * suc j + 1 ≡ suc (suc (2 * j + 1)) = omega arith in rw e (upper_at_law part l j (omega arith))

-- ---- laid over a lent table
module _ (part : Source → Part) (l : List Source) (lent : List Float) (j : ℕ) (h : j < length l) where
  pub laid_lower : get_or (laid_over (table_of part l) lent) (2 * j) nan ≡ (part (source_at l j)).lower
  laid_lower = laid_at (table_of part l) lent (2 * j) (omega (arith, table_length part l)) ∙ lower_at_law part l j h

  pub laid_upper : get_or (laid_over (table_of part l) lent) (2 * j + 1) nan ≡ (part (source_at l j)).upper
  laid_upper = laid_at (table_of part l) lent (2 * j + 1) (omega (arith, table_length part l)) ∙ upper_at_law part l j h

-- ---- the sum of the steps
sum_first : (m : ℕ) (g : ℕ → ℕ) → sum_of (suc m) g ≡ g 0 + sum_of m (λ j. g (suc j))
sum_first zero g = omega arith
sum_first (suc m) g = omega (arith, sum_first m g)

pub sum_same : (m : ℕ) (f g : ℕ → ℕ) → ((j : ℕ) → j < m → f j ≡ g j) → sum_of m f ≡ sum_of m g
sum_same zero f g h = refl
sum_same (suc m) f g h = omega (arith, sum_same m f g (λ j l. h j (omega arith)), h m (omega arith))

steps_more : (part : Source → Part) (total : ℕ) (l : List Source) → steps_from part total l ≡ total + sum_of (length l) (λ j. (part (source_at l j)).steps)
steps_more part total [] = omega arith
steps_more part total (p ∷ l) =
    steps_more part (total + (part p).steps) l ∙ omega (arith, sum_first (length l) (λ j. (part (source_at (p ∷ l) j)).steps))

pub steps_sum : (part : Source → Part) (l : List Source) → steps_from part 0 l ≡ sum_of (length l) (λ j. (part (source_at l j)).steps)
steps_sum part l = steps_more part 0 l ∙ omega arith
