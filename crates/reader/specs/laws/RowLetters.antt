-- What a row says stands in its place, a start in the first row and a record in any other, and the row begins with its letter.
use Rattle.std.specs.Prelude.{◌≡◌, refl, Bool, true, false, ◌&&◌, List, [], ◌∷◌, ℕ, eqb, length, get_or}
use Rattle.std.proofs.Common.{◌∙◌, eqb-true}
use Rattle.network.specs.laws.Tests.{by_test, both_true}
use Rattle.reader.specs.declared.Row.{Row}
use Rattle.reader.specs.declared.Row.TheVariants.{Start, WithBus, WithSource, Malformed}
use Rattle.reader.specs.File.{bus_count_ok, source_count_ok, comma, letter_s, letter_b, letter_p, fields, all_numbers, amounts, record_of, fields_row, row_of}

abbrev pub Begins : Bool → List ℕ → Row → Type 0
Begins top r (Start t) = (top ≡ true) × (get_or r 0 0 ≡ letter_s)
Begins top r (WithBus b) = (top ≡ false) × (get_or r 0 0 ≡ letter_b)
Begins top r (WithSource p) = (top ≡ false) × (get_or r 0 0 ≡ letter_p)
Begins top r Malformed = Unit

record_begins : (top : Bool) (letter : ℕ) (v r : List ℕ) → get_or r 0 0 ≡ letter → Begins top r (record_of top letter v)
unfolding record_of
record_begins true letter v r e =
    by_test (eqb letter letter_s && eqb (length v) 1)
    (λ t. rw t (refl, e ∙ eqb-true letter letter_s (both_true (eqb letter letter_s) (eqb (length v) 1) t).0))
    (λ t. rw t tt)
record_begins false letter v r e =
    by_test (eqb letter letter_b && bus_count_ok (length v))
    (λ t. rw t (refl, e ∙ eqb-true letter letter_b (both_true (eqb letter letter_b) (bus_count_ok (length v)) t).0))
    (λ t. rw t
    (by_test (eqb letter letter_p && source_count_ok (length v))
    (λ u. rw u (refl, e ∙ eqb-true letter letter_p (both_true (eqb letter letter_p) (source_count_ok (length v)) u).0))
    (λ u. rw u tt)))

pub row_begins : (top : Bool) (r : List ℕ) → Begins top r (row_of top r)
unfolding row_of fields_row
row_begins top [] = tt
row_begins top (letter ∷ []) = tt
row_begins top (letter ∷ b ∷ rest) =
    by_test (eqb b comma)
    (λ t. rw t
    (by_test (all_numbers (fields rest))
    (λ u. rw u (record_begins top letter (amounts (fields rest)) (letter ∷ b ∷ rest) refl))
    (λ u. rw u tt)))
    (λ t. rw t tt)
