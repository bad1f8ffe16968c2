-- From a row's bytes to what it says: its letter, its comma, and the numbers after them.
use Rattle.std.specs.Prelude.{◌≡◌, refl, Bool, true, false, ◌&&◌, ◌||◌, List, [], ◌∷◌, ℕ, ◌≤◌, ◌<◌, leb, ltb, eqb, length, take, drop, get_or}
use Rattle.std.proofs.Common.{ap, sym, ◌∙◌, arith, eq-eqb, ne_eqb, leb-false, ltb-true, ltb-false, length-take, length-take-le, get_or-take}
use Rattle.std.proofs.Math.ListN.{get_or-eq_default}
use Rattle.network.specs.laws.Tests.{by_test, both_true}
use Rattle.reader.specs.declared.Numbers.{Numbers}
use Rattle.reader.specs.declared.Row.TheVariants.{Start, WithBus, WithSource, Malformed}
use Rattle.reader.specs.File.{bus_fields, source_fields, short_source_fields, most_fields, bus_count_ok, source_count_ok, comma, letter_s, letter_b, letter_p, fields, all_numbers, amounts, bus_of, source_of, record_of, fields_row, row_of}
use Rattle.reader.specs.Collected.{Filled}
use Rattle.reader.specs.laws.Collected.{Collected}

-- ---- a letter and the first numbers of an array
-- zeros behind them are the same as no numbers
same_at : (n : ℕ) (v : List ℕ) → Filled n v → (i : ℕ) → get_or (take n v) i 0 ≡ get_or v i 0
same_at n v z i =
    by_test (ltb i n)
    (λ t. get_or-take n v i 0 (ltb-true i n t))
    (λ t. let h = ltb-false i n t in get_or-eq_default (take n v) 0 (omega (arith, length-take n v)) ∙ sym (z i h))

module _ (letter count : ℕ) (v : List ℕ) (few : count ≤ most_fields) (filled : Filled count v) (whole : length v ≡ most_fields) where
  counted : length (take count v) ≡ count
  counted = length-take-le count v (omega arith)

  same : (i : ℕ) → get_or (take count v) i 0 ≡ get_or v i 0
  same = same_at count v filled

  pub start_row : (eqb letter letter_s && eqb count 1) ≡ true → record_of true letter (take count v) ≡ Start (get_or v 0 0)
  unfolding record_of
  start_row e =
      rw (counted, e) (ap Start (same 0))

  pub no_start_row : (eqb letter letter_s && eqb count 1) ≡ false → record_of true letter (take count v) ≡ Malformed
  unfolding record_of
  no_start_row e = rw (counted, e)

  pub bus_row_law : (eqb letter letter_b && bus_count_ok count) ≡ true → record_of false letter (take count v) ≡ WithBus (bus_of v)
  unfolding record_of
  bus_row_law e = rw (counted, e, same 0, same 1, same 2, same 3, same 4, same 5, same 6, same 7, same 8, same 9)

  pub source_row : (eqb letter letter_b && bus_count_ok count) ≡ false → (eqb letter letter_p && source_count_ok count) ≡ true → record_of false letter (take count v) ≡ WithSource (source_of v)
  unfolding record_of
  source_row b e = rw (counted, b, e, same 0, same 1, same 2, same 3, same 4, same 5, same 6, same 7, same 8, same 9, same 10, same 11)

  pub no_record_row : (eqb letter letter_b && bus_count_ok count) ≡ false → (eqb letter letter_p && source_count_ok count) ≡ false → record_of false letter (take count v) ≡ Malformed
  unfolding record_of
  no_record_row b e = rw (counted, b, e)

-- ---- the fields of a row, collected
length_amounts : (fs : List (List ℕ)) → length (amounts fs) ≡ length fs
length_amounts [] = refl
length_amounts (f ∷ fs) = omega (arith, length_amounts fs)

last_false : (a : Bool) {b : Bool} → b ≡ false → (a && b) ≡ false
last_false true e = e
last_false false e = refl

-- more numbers than any row has are no record
too_many_law : (first : Bool) (letter : ℕ) (v : List ℕ) → most_fields < length v → record_of first letter v ≡ Malformed
unfolding record_of
too_many_law true letter v h = rw (last_false (eqb letter letter_s) (ne_eqb (length v) 1 (λ e. omega arith)))
too_many_law false letter v h =
    rw (
      last_false (eqb letter letter_b) (ne_eqb (length v) bus_fields (λ e. omega arith)),
      last_false (eqb letter letter_p) (both_false (ne_eqb (length v) short_source_fields (λ e. omega arith)) (ne_eqb (length v) source_fields (λ e. omega arith))),
    )
  where
    both_false : {a b : Bool} → a ≡ false → b ≡ false → (a || b) ≡ false
    both_false p q = rw (p, q)

module _ (first : Bool) (letter : ℕ) (fs : List (List ℕ)) (r : Numbers) (g : Collected fs r) where
  pub fields_taken : r.ok ≡ true → fields_row first letter fs ≡ record_of first letter (take r.count r.values)
  unfolding fields_row
  fields_taken e =
      let h = both_true (all_numbers fs) (leb (length fs) most_fields) (sym g.tested ∙ e) in
      rw (h.0, g.same e)

  pub fields_broken : r.ok ≡ false → fields_row first letter fs ≡ Malformed
  unfolding fields_row
  fields_broken e =
      by_test (all_numbers fs)
      (λ t.
      let k : r.ok ≡ leb (length fs) most_fields = rw t at g.tested in
      rw t (too_many_law first letter (amounts fs) (omega (arith, leb-false (length fs) most_fields (sym k ∙ e), length_amounts fs))))
      (λ t. rw t)

-- ---- the bytes of a row
pub row_short : (first : Bool) (l : List ℕ) → length l < 2 → row_of first l ≡ Malformed
unfolding row_of
row_short first [] h = refl
row_short first (a ∷ []) h = refl
row_short first (a ∷ b ∷ l) h = absurd (omega arith)

pub row_other : (first : Bool) (l : List ℕ) → (get_or l 1 0 ≡ comma → ⊥) → row_of first l ≡ Malformed
unfolding row_of
row_other first [] h = refl
row_other first (a ∷ []) h = refl
row_other first (a ∷ b ∷ l) h = rw (ne_eqb b comma h)

pub row_fields : (first : Bool) (l : List ℕ) → 2 ≤ length l → get_or l 1 0 ≡ comma → row_of first l ≡ fields_row first (get_or l 0 0) (fields (drop 2 l))
unfolding row_of
row_fields first [] h e = absurd (omega arith)
row_fields first (a ∷ []) h e = absurd (omega arith)
row_fields first (a ∷ b ∷ l) h e = rw (eq-eqb b comma e)
