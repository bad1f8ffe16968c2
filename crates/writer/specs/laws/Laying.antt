-- A text laid into a buffer from a place on: one after another, and one from its last byte to its first.
use Rattle.std.specs.Prelude.{◌≡◌, ◌≢◌, List, [], ◌∷◌, ◌++◌, ℕ, suc, ◌+◌, ◌≤◌, set, drop}
use Rattle.std.proofs.Common.{sym, ◌∙◌, arith, add-one, length-append}
use Rattle.std.proofs.Math.Path.{ap}
use Rattle.std.proofs.Math.ListN.{length}
use Rattle.network.specs.laws.Arrays.{sets_append}
use Rattle.std.proofs.lemmas.List.Edits.{sets, sets-eq}
use Rattle.std.proofs.Math.Seq.{length-sets}
use Rattle.std.proofs.lemmas.List.{set_comm}

-- its bytes, and the place where the next goes
abbrev pub Placed : Type 0
Placed = List ℕ × ℕ

-- a text at the place, and the place behind it
unfoldable pub laid : Placed → List ℕ → Placed
laid f text = (sets f.0 f.1 text, f.1 + length text)

-- ---- a text after another
laid_append : (f : Placed) (xs ys : List ℕ) → laid f (xs ++ ys) ≡ laid (laid f xs) ys
unfolding laid
laid_append f xs ys = let e : f.1 + length (xs ++ ys) ≡ f.1 + length xs + length ys = omega (arith, length-append xs ys) in rw (sets_append f.0 f.1 xs ys, e)

-- the same by steps: laying a text leads from f to g, and another from g to h
pub laid_both : (f g : Placed) (xs ys : List ℕ) {h : Placed} → laid f xs ≡ g → laid g ys ≡ h → laid f (xs ++ ys) ≡ h
laid_both f g xs ys p q = laid_append f xs ys ∙ ap (λ (k : Placed). laid k ys) p ∙ q

pub laid_nothing : (f : Placed) → laid f [] ≡ f
unfolding laid
laid_nothing f = let e : f.1 + 0 ≡ f.1 = omega arith in rw e

pub laid_byte : (l : List ℕ) (at b : ℕ) (text : List ℕ) → laid (l, at) (b ∷ text) ≡ laid (set l at b, at + 1) text
unfolding laid
laid_byte l at b text = let e : at + suc (length text) ≡ suc at + length text = omega arith in rw (add-one at, e)

pub laid_two : (l : List ℕ) (at a b : ℕ) → laid (l, at) (a ∷ b ∷ []) ≡ (set (set l at a) (at + 1) b, at + 2)
unfolding laid
laid_two l at a b = rw (add-one at)

-- ---- a text from its last byte on
pub sets_last : (l : List ℕ) (at : ℕ) (xs : List ℕ) (y : ℕ) → sets l at (xs ++ (y ∷ [])) ≡ sets (set l (at + length xs) y) at xs
sets_last l at [] y = let e : at + 0 ≡ at = omega arith in rw e
sets_last l at (x ∷ xs) y =
    let e : suc at + length xs ≡ at + suc (length xs) = omega arith in
    let apart : at ≢ at + suc (length xs) = λ z. omega arith in
    sets_last (set l at x) (suc at) xs y ∙ rw (e, set_comm l at (at + suc (length xs)) x y apart)

-- ---- what is laid
-- where there is room, the buffer begins with the text, and its bytes beyond it are kept
pub laid_first : (l text : List ℕ) {m : List ℕ} {end : ℕ} → length text ≤ length l → laid (l, 0) text ≡ (m, end)
    → (m ≡ text ++ drop (length text) l) × (end ≡ length text)
unfolding laid
laid_first l text {m} {end} h e =
    let z : 0 + length text ≡ length text = omega arith in
    (ap (λ (f : Placed). f.0) (sym e) ∙ sets-eq text l 0 (omega arith) ∙ rw z, ap (λ (f : Placed). f.1) (sym e) ∙ z)

-- the place behind a text, and the length of the buffer, which stays
module _ (l : List ℕ) (at : ℕ) (text : List ℕ) {m : List ℕ} {end : ℕ} (e : laid (l, at) text ≡ (m, end)) where
  pub laid_end : end ≡ at + length text
  unfolding laid
  laid_end = ap (λ (f : Placed). f.1) (sym e)

  pub laid_length : length m ≡ length l
  unfolding laid
  laid_length = ap (λ (f : Placed). length f.0) (sym e) ∙ length-sets l at text
