-- An array in a struct has as many elements as its list of data tuples, what is read within an array does not depend on what would be
-- read past its end, and a list is written into an array in parts. Assumes nothing.
use Rattle.std.specs.Prelude.{◌≡◌, refl, List, [], ◌∷◌, ◌++◌, map, ℕ, zero, suc, ◌+◌, ◌<◌, length, get_or, set}
use Rattle.std.proofs.Common.{sym, ◌∙◌, arith}
use Rattle.std.proofs.lemmas.List.{length-map}
use Rattle.std.proofs.lemmas.List.Edits.{sets}

-- the length of an array in a struct, from what owning the struct tells of its list of data tuples
pub length_mapped : {X Y : Type 0} (f : X → Y) (l : List X) (n : ℕ) → length (map f l) ≡ n → length l ≡ n
length_mapped f l n e = sym (length-map l f) ∙ e

-- within an array it does not matter what would be read past its end
pub read_inside : {X : Type 0} (l : List X) (i : ℕ) (d e : X) → i < length l → get_or l i d ≡ get_or l i e
read_inside [] i d e h = absurd (omega arith)
read_inside (x ∷ l) zero d e h = refl
read_inside (x ∷ l) (suc i) d e h = read_inside l i d e (omega arith)

-- a list written after another
pub sets_append : {X : Type 0} (l : List X) (at : ℕ) (xs ys : List X) → sets l at (xs ++ ys) ≡ sets (sets l at xs) (at + length xs) ys
sets_append l at [] ys = let e : at + 0 ≡ at = omega arith in rw e
sets_append l at (x ∷ xs) ys = let e : suc at + length xs ≡ at + suc (length xs) = omega arith in sets_append (set l at x) (suc at) xs ys ∙ rw e
