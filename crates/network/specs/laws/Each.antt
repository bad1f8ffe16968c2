-- What holds of each element of a list, also of lists made from it: joined, with an element left out or put in place of another, filtered.
use Rattle.std.specs.Prelude.{Bool, List, [], ◌∷◌, ◌++◌, ℕ, zero, suc, ◌≤◌, ◌<◌, length, get_or, set}
use Rattle.std.proofs.Common.{arith}
use Rattle.tree.specs.Grid.{filtered}
use Rattle.network.specs.Network.{removed}
use Rattle.network.specs.laws.Tests.{by_test}

abbrev pub Each : {X : Type 0} → (X → Type 0) → List X → Type 0
Each P [] = Unit
Each P (x ∷ l) = P x × Each P l

module _ {X : Type 0} (P : X → Type 0) where
  pub each_at : (d : X) (l : List X) → Each P l → (i : ℕ) → i < length l → P (get_or l i d)
  each_at d [] e i h = absurd (omega arith)
  each_at d (x ∷ l) e zero h = e.0
  each_at d (x ∷ l) e (suc i) h = each_at d l e.1 i (omega arith)

  pub each_so : (Q : X → Type 0) (l : List X) → ((x : X) → P x → Q x) → Each P l → Each Q l
  each_so Q [] h e = tt
  each_so Q (x ∷ l) h e = (h x e.0, each_so Q l h e.1)

  pub each_both : (a b : List X) → Each P a → Each P b → Each P (a ++ b)
  each_both [] b e f = f
  each_both (x ∷ a) b e f = (e.0, each_both a b e.1 f)

  pub each_removed : (j : ℕ) (l : List X) → Each P l → Each P (removed j l)
  each_removed j [] e = tt
  each_removed zero (x ∷ l) e = e.1
  each_removed (suc j) (x ∷ l) e = (e.0, each_removed j l e.1)

  pub each_set : (j : ℕ) (y : X) → P y → (l : List X) → Each P l → Each P (set l j y)
  each_set j y p [] e = tt
  each_set zero y p (x ∷ l) e = (p, e.1)
  each_set (suc j) y p (x ∷ l) e = (e.0, each_set j y p l e.1)

  pub each_filtered : (f : X → Bool) (l : List X) → Each P l → Each P (filtered f l)
  each_filtered f [] e = tt
  each_filtered f (x ∷ l) e =
      by_test (f x)
      (λ t. rw t (e.0, each_filtered f l e.1))
      (λ t. rw t (each_filtered f l e.1))

-- neither makes a list longer
pub length_removed : {X : Type 0} (j : ℕ) (l : List X) → length (removed j l) ≤ length l
length_removed j [] = omega arith
length_removed zero (x ∷ l) = omega arith
length_removed (suc j) (x ∷ l) = omega (arith, length_removed j l)

pub length_filtered : {X : Type 0} (f : X → Bool) (l : List X) → length (filtered f l) ≤ length l
length_filtered f [] = omega arith
length_filtered f (x ∷ l) = by_test (f x) (λ t. rw t (omega (arith, length_filtered f l))) (λ t. rw t (omega (arith, length_filtered f l)))
