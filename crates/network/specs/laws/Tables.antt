-- What stands where in a table over which numbers are laid. Assumes nothing.
use Rattle.std.specs.Prelude.{ℕ, zero, suc, ◌+◌, ◌≤◌, ◌<◌, ◌≡◌, refl, List, [], ◌∷◌, ◌++◌, Float, length, get_or, drop}
use Rattle.std.proofs.Common.{sym, ◌∙◌, ap, arith, length-append, length-drop}
use Rattle.std.specs.Float.{nan}
use Rattle.std.proofs.Math.ListN.{get_or-append}
use Rattle.std.proofs.lemmas.List.Edits.{sets, sets-eq}
use Rattle.network.specs.Tables.{laid_over}

drop_first : (l m : List Float) → drop (length l) (l ++ m) ≡ m
drop_first [] m = refl
drop_first (x ∷ l) m = drop_first l m

pub laid_at : (numbers lent : List Float) (i : ℕ) → i < length numbers → get_or (laid_over numbers lent) i nan ≡ get_or numbers i nan
laid_at numbers lent i h = get_or-append numbers _ nan i h

-- where there is room for them
module _ (numbers lent : List Float) (room : length numbers ≤ length lent) where
  pub laid_length : length (laid_over numbers lent) ≡ length lent
  laid_length = length-append numbers _ ∙ omega (arith, length-drop (length numbers) lent)

  -- as straight-line code or a loop lays them
  pub laid_sets : sets lent 0 numbers ≡ laid_over numbers lent
  laid_sets =
      let z : 0 + length numbers ≡ length numbers = omega arith in
      sets-eq numbers lent 0 (omega arith) ∙ rw z

-- beyond so many numbers
pub laid_beyond : (numbers lent : List Float) (k : ℕ) → k ≡ length numbers → drop k (laid_over numbers lent) ≡ drop k lent
laid_beyond numbers lent k e = rw e (drop_first numbers (drop (length numbers) lent))

first_of_drop : (k : ℕ) (l : List Float) → get_or (drop k l) 0 nan ≡ get_or l k nan
first_of_drop zero l = refl
first_of_drop (suc k) [] = refl
first_of_drop (suc k) (x ∷ l) = first_of_drop k l

-- the first number beyond
pub number_beyond : (k : ℕ) (l m : List Float) → drop k l ≡ drop k m → get_or l k nan ≡ get_or m k nan
number_beyond k l m e = sym (first_of_drop k l) ∙ ap (λ (d : List Float). get_or d 0 nan) e ∙ first_of_drop k m
