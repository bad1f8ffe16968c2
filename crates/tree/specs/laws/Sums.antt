-- Laws of sums over a list: elements that may be left out, lists alike, one element more. Assumes nothing.
use Rattle.std.specs.Prelude.{ℕ, zero, suc, ◌+◌, ◌<◌, ◌≡◌, refl, Bool, true, false, cond, List, [], ◌∷◌, length, get_or, take}
use Rattle.std.proofs.Common.{sym, ◌∙◌, ap, arith, add-one}
use Rattle.tree.specs.Grid.{sum_of, filtered}

-- the sum of f over the numbers below n
abbrev pub sums : (ℕ → ℕ) → ℕ → ℕ
sums f zero = 0
sums f (suc n) = sums f n + f n

-- elements that fail a test which every counted element passes may as well be left out
sum_filtered : {S A : Type 0} (add : A → A → A) (t f : S → Bool) → ((s : S) → t s ≡ true → f s ≡ true) → (y : S → A) (z : A) (l : List S)
    → sum_of add t y z l ≡ sum_of add t y z (filtered f l)
sum_filtered add t f h y z [] = refl
sum_filtered {S} {A} add t f h y z (s ∷ l) = go (f s) (t s) refl refl (λ x. sum_filtered add t f h y x l)
  where
    go : (c d : Bool) → f s ≡ c → t s ≡ d → ((x : A) → sum_of add t y x l ≡ sum_of add t y x (filtered f l))
        → sum_of add t y (cond d (add z (y s)) z) l ≡ sum_of add t y z (cond c (s ∷ filtered f l) (filtered f l))
    go true d e q r = r (cond d (add z (y s)) z) ∙ ap (λ (c : Bool). sum_of add t y (cond c (add z (y s)) z) (filtered f l)) (sym q)
    go false true e q r = let w : true ≡ false = sym (h s q) ∙ e in let c : ◌≡◌ {A = ℕ} 0 1 = cc in absurd (omega arith)
    go false false e q r = r z

-- THE SAME SUM, where the elements that can count agree, in order
pub sum_alike : {S A : Type 0} (add : A → A → A) (t f : S → Bool) → ((s : S) → t s ≡ true → f s ≡ true) → (y : S → A) (z : A) (l l' : List S)
    → filtered f l ≡ filtered f l' → sum_of add t y z l ≡ sum_of add t y z l'
sum_alike add t f h y z l l' e = sum_filtered add t f h y z l ∙ ap (sum_of add t y z) e ∙ sym (sum_filtered add t f h y z l')

-- the same sum, where the elements give the same
pub sum_same : {S A : Type 0} (add : A → A → A) (t : S → Bool) (y y' : S → A) → ((s : S) → y s ≡ y' s) → (z : A) (l : List S) → sum_of add t y z l ≡ sum_of add t y' z l
sum_same add t y y' h z [] = refl
sum_same add t y y' h z (s ∷ l) = rw (← h s) (sum_same add t y y' h (cond (t s) (add z (y s)) z) l)

-- ---- for code: one more element in a loop
pub sum_more : {S A : Type 0} (add : A → A → A) (t : S → Bool) (y : S → A) (z : A) (l : List S) (d : S) (i : ℕ) → i < length l
    → sum_of add t y z (take (i + 1) l) ≡ cond (t (get_or l i d)) (add (sum_of add t y z (take i l)) (y (get_or l i d))) (sum_of add t y z (take i l))
sum_more {S} {A} add t y z l d i h = rw add-one (go z l i h)
  where
    go : (z : A) (l : List S) (i : ℕ) → i < length l
        → sum_of add t y z (take (suc i) l) ≡ cond (t (get_or l i d)) (add (sum_of add t y z (take i l)) (y (get_or l i d))) (sum_of add t y z (take i l))
    go z [] i h = absurd (omega arith)
    go z (s ∷ l) zero h = refl
    go z (s ∷ l) (suc i) h = go (cond (t s) (add z (y s)) z) l i (omega arith)
