-- Laws of stretches: one byte more, what comes after one, and that rows and fields are made of them. Assumes nothing.
use Rattle.std.specs.Prelude.{◌≡◌, refl, Bool, true, false, cond, ◌&&◌, List, [], ◌∷◌, ℕ, suc, ◌+◌, ◌-◌, ◌≤◌, ◌<◌, leb, eqb, length, drop}
use Rattle.std.proofs.Common.{arith, add-one, suc-add, add_assoc, leb-true, leb-false, le-leb, drop_of_length-le, length-drop, drop-cons, drop-drop, length-take-le}
use Rattle.std.proofs.lemmas.Bool.{lt-leb}
use Rattle.std.proofs.Math.Dec.{leb-zero, leb-suc-suc}
use Rattle.network.specs.laws.Tests.{by_test}
use Rattle.reader.specs.File.{cr, lf, comma, rows, fields}
use Rattle.reader.specs.Stretches.{before, stretch, at_crlf, at_comma}

-- the fields that begin at a place or after it; past the end there is none
abbrev pub fields_from : List ℕ → ℕ → List (List ℕ)
fields_from l at = cond (leb at (length l)) (fields (drop at l)) []

-- ---- one byte more
module _ (stop : List ℕ → Bool) (l : List ℕ) (i : ℕ) where
  pub before_none : i < length l → stop (drop i l) ≡ true → before stop (drop i l) ≡ 0
  before_none h e = let d = drop-cons l i 0 h in rw d (rw (rw d at e))

  pub before_more : i < length l → stop (drop i l) ≡ false → before stop (drop i l) ≡ before stop (drop (i + 1) l) + 1
  before_more h e = let d = drop-cons l i 0 h in rw (d, add-one i) (rw (rw d at e) (omega arith))

  pub before_end : length l ≤ i → before stop (drop i l) ≡ 0
  before_end h = rw (drop_of_length-le l h)

pub before_le : (stop : List ℕ → Bool) (l : List ℕ) → before stop l ≤ length l
before_le stop [] = omega arith
before_le stop (b ∷ bs) = by_test (stop (b ∷ bs)) (λ t. rw t (omega arith)) (λ t. rw t (omega (arith, before_le stop bs)))

-- ---- a text is its first row and the rows after the CRLF
pub rows_step : (b : ℕ) (bs : List ℕ) → rows (b ∷ bs) ≡ stretch at_crlf (b ∷ bs) ∷ rows (drop (before at_crlf (b ∷ bs) + 2) (b ∷ bs))
rows_step b [] = refl
rows_step b (c ∷ bs) =
    by_test (eqb b cr && eqb c lf)
    (λ t. rw t)
    (λ t. rw (t, rows_step c bs, suc-add))

-- ---- a list of bytes is its first field and the fields after the comma
from_next : (b : ℕ) (bs : List ℕ) (k : ℕ) → fields_from (b ∷ bs) (suc k) ≡ fields_from bs k
from_next b bs k = rw (leb-suc-suc k (length bs))

pub fields_step : (l : List ℕ) → fields l ≡ stretch at_comma l ∷ fields_from l (before at_comma l + 1)
fields_step [] = refl
fields_step (b ∷ bs) =
    by_test (eqb b comma)
    (λ t. rw (t, from_next b bs 0, leb-zero (length bs)))
    (λ t. rw (t, fields_step bs, suc-add (before at_comma bs) 1, from_next b bs (before at_comma bs + 1)))

from_drop : (l : List ℕ) (at k : ℕ) → at ≤ length l → fields_from (drop at l) k ≡ fields_from l (at + k)
from_drop l at k h =
    by_test (leb (at + k) (length l))
    (λ t. rw (t, length-drop at l, le-leb k (length l - at) (omega (arith, leb-true (at + k) (length l) t)), drop-drop k at l))
    (λ t. rw (t, length-drop at l, lt-leb k (length l - at) (omega (arith, leb-false (at + k) (length l) t))))

-- the fields from a place on are the one that begins there and those after its comma
pub from_step : (l : List ℕ) (at : ℕ) → at ≤ length l → fields_from l at ≡ stretch at_comma (drop at l) ∷ fields_from l (at + before at_comma (drop at l) + 1)
from_step l at h =
    let n = before at_comma (drop at l) in
    rw (le-leb at (length l) h, fields_step (drop at l), from_drop l at (n + 1) h, add_assoc at n 1)

pub length_stretch : (stop : List ℕ → Bool) (l : List ℕ) → length (stretch stop l) ≡ before stop l
length_stretch stop l = length-take-le (before stop l) l (before_le stop l)
