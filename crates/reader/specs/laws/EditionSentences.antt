-- Order 2's sentences on two editions and one file, as theorems about texts alone; and three small texts, read by computing.
-- Assumes nothing.
use Rattle.std.specs.Prelude.{ℕ, zero, suc, ◌+◌, ◌≤◌, ◌<◌, ◌≡◌, refl, Bool, true, false, cond, ◌||◌, ◌⊎◌, List, [], ◌∷◌, ◌++◌, ltb, eqb, length, take}
use Rattle.std.proofs.Common.{sym, inl, inr, ⊎_elim, append_assoc, arith, lit<, length-append, ltb-true, ltb-false, eqb-true}
use Rattle.std.proofs.Math.Seq.{take-append_seam}
use Rattle.std.proofs.lemmas.Bool.{eqb-false}
use Rattle.network.specs.Records.{branch_ok}
use Rattle.network.specs.SourceKinds.{ranges_ok, fields_ok}
use Rattle.network.specs.Network.{Limits, here, along}
use Rattle.network.specs.Grounds.{depth_ok, bus_record_number, bus_number_in, after_bus_in, source_record_number, source_number_in, after_source_in, close_number, after_close}
use Rattle.network.specs.laws.Tests.{by_test, never, one_true}
use Rattle.reader.specs.File.{letter_b, letter_p, rows, length_ok, value_of, number_of, record_of, fields_row, row_of, refused_at, close_after, read_from_in, read_in, read_of}
use Rattle.reader.specs.Editions.{first_edition, lettered, too_many_buses, too_many, surplus_after, full_after, first_surplus, OldEdition}
use Rattle.reader.specs.laws.Editions.{old_edition}

-- what the clause `edition` of `read` says of each text
kept : (text : List ℕ) → OldEdition first_edition text (read_of text)
kept text = old_edition first_edition here (record { buses = omega arith; sources = omega arith }) text

-- "The limits become 128 buses and 512 sources"
pub new_limits : (text : List ℕ) → read_of text ≡ read_in (record { buses = 128; sources = 512 }) text
new_limits text = refl

-- "A file which the old edition accepts reads as before"
pub reads_as_before : (text : List ℕ) → (read_in (record { buses = 64; sources = 256 }) text).number ≡ 0 → read_of text ≡ read_in (record { buses = 64; sources = 256 }) text
reads_as_before text e = (kept text).as_before e

-- ---- "with 23 or 24": the number of a row that is too many is one of the two
one_of_two : (t : Bool) → (cond {A = ℕ} t 23 24 ≡ 23) ⊎ (cond {A = ℕ} t 23 24 ≡ 24)
one_of_two true = inl refl
one_of_two false = inr refl

full_number : (L : Limits) (before rs : List (List ℕ)) → 0 < surplus_after L before rs → (full_after L before rs ≡ 23) ⊎ (full_after L before rs ≡ 24)
full_number L before [] h = absurd (omega arith)
full_number L before (r ∷ rs) h =
    by_test (too_many L (before ++ (r ∷ [])))
    (λ t. rw t (one_of_two (too_many_buses L (before ++ (r ∷ [])))))
    (λ t. rw t (full_number L (before ++ (r ∷ [])) rs (rw t at h)))

-- "a larger one which the new edition accepts is met by an old edition with 23 or 24 at its first surplus row"
pub larger_is_met : (text : List ℕ) → (read_of text).number ≡ 0 → 0 < first_surplus (record { buses = 64; sources = 256 }) text
    → (((read_in (record { buses = 64; sources = 256 }) text).number ≡ 23) ⊎ ((read_in (record { buses = 64; sources = 256 }) text).number ≡ 24))
    × ((read_in (record { buses = 64; sources = 256 }) text).row ≡ first_surplus (record { buses = 64; sources = 256 }) text)
larger_is_met text a h = rw ((kept text).larger a h) (full_number first_edition [] (rows text) h, refl)

-- and the old edition accepts every other file which the new edition accepts: one that it refuses has a surplus row
pub no_other_refused : (text : List ℕ) → (read_of text).number ≡ 0 → ((read_in (record { buses = 64; sources = 256 }) text).number ≡ 0 → ⊥)
    → 0 < first_surplus (record { buses = 64; sources = 256 }) text
no_other_refused text a h =
    by_test (eqb (first_surplus first_edition text) 0)
    (λ t. absurd (h ((kept text).other a (eqb-true (first_surplus first_edition text) 0 t))))
    (λ t. let z = eqb-false (first_surplus first_edition text) 0 t in omega (arith, z))

-- ---- "its first surplus row": the rows up to it are too many, and those before it are not
module _ (L : Limits) where
  surplus_first : (before rs : List (List ℕ)) → 0 < surplus_after L before rs
      → (too_many L (take (surplus_after L before rs) (before ++ rs)) ≡ true)
      × ((j : ℕ) → length before < j → j < surplus_after L before rs → too_many L (take j (before ++ rs)) ≡ false)
  surplus_first before [] h = absurd (omega arith)
  surplus_first before (r ∷ rs) h =
      let more = before ++ (r ∷ []) in
      let size : length more ≡ length before + 1 = length-append before (r ∷ []) in
      let whole : more ++ rs ≡ before ++ (r ∷ rs) = append_assoc before (r ∷ []) rs in
      let seam : take (length before + 1) (before ++ (r ∷ rs)) ≡ more = rw (← size, ← whole) (take-append_seam more rs) in
      by_test (too_many L more)
      (λ t. rw t (rw seam t, λ j a b. absurd (omega arith)))
      (λ t.
      let rest = surplus_first more rs (rw t at h) in
      rw (t, ← whole) (
        rest.0,
        λ j a b.
            by_test (eqb j (length before + 1))
            (λ e. rw (eqb-true j (length before + 1) e, ← size, take-append_seam more rs) t)
            (λ e. let z = eqb-false j (length before + 1) e in rest.1 j (omega (arith, z, size)) b),
      ))

  within : (rs : List (List ℕ)) → too_many L rs ≡ false → (lettered letter_b rs ≤ L.buses) × (lettered letter_p rs ≤ L.sources)
  within rs e = let t = none_true (ltb L.buses (lettered letter_b rs)) (ltb L.sources (lettered letter_p rs)) e in (ltb-false L.buses (lettered letter_b rs) t.0, ltb-false L.sources (lettered letter_p rs) t.1)
    where
      none_true : (a b : Bool) → (a || b) ≡ false → (a ≡ false) × (b ≡ false)
      none_true true b h = never (sym h)
      none_true false b h = (refl, h)

  over : (rs : List (List ℕ)) → too_many L rs ≡ true → (L.buses < lettered letter_b rs) ⊎ (L.sources < lettered letter_p rs)
  over rs e = ⊎_elim (λ t. inl (ltb-true L.buses (lettered letter_b rs) t)) (λ t. inr (ltb-true L.sources (lettered letter_p rs) t)) (one_true (ltb L.buses (lettered letter_b rs)) (ltb L.sources (lettered letter_p rs)) e)

-- up to this row more than 64 rows begin with B (66), or more than 256 with P (80); up to a row before it neither
pub first_surplus_row : (text : List ℕ) → 0 < first_surplus (record { buses = 64; sources = 256 }) text
    → ((64 < lettered 66 (take (first_surplus (record { buses = 64; sources = 256 }) text) (rows text))) ⊎ (256 < lettered 80 (take (first_surplus (record { buses = 64; sources = 256 }) text) (rows text))))
    × ((j : ℕ) → j < first_surplus (record { buses = 64; sources = 256 }) text → (lettered 66 (take j (rows text)) ≤ 64) × (lettered 80 (take j (rows text)) ≤ 256))
first_surplus_row text h =
    (over first_edition (take (first_surplus first_edition text) (rows text)) first.0, before)
  where
    first : (too_many first_edition (take (first_surplus first_edition text) (rows text)) ≡ true)
        × ((j : ℕ) → 0 < j → j < first_surplus first_edition text → too_many first_edition (take j (rows text)) ≡ false)
    first = surplus_first first_edition [] (rows text) h

    before : (j : ℕ) → j < first_surplus first_edition text → (lettered 66 (take j (rows text)) ≤ 64) × (lettered 80 (take j (rows text)) ≤ 256)
    before zero b = (omega arith, omega arith)
    before (suc j) b = within first_edition (take (suc j) (rows text)) (first.1 (suc j) (omega arith) b)

-- ---- three small texts, and an edition with room for one bus and one source
abbrev small : Limits
small = record { buses = 1; sources = 1 }

-- S,6
abbrev start : List ℕ
start = 83 ∷ 44 ∷ 54 ∷ []

-- B,0,400,0,0,0,0,0,0,1,2
abbrev bus : List ℕ
bus = 66 ∷ 44 ∷ 48 ∷ 44 ∷ 52 ∷ 48 ∷ 48 ∷ 44 ∷ 48 ∷ 44 ∷ 48 ∷ 44 ∷ 48 ∷ 44 ∷ 48 ∷ 44 ∷ 48 ∷ 44 ∷ 48 ∷ 44 ∷ 49 ∷ 44 ∷ 50 ∷ []

-- B,0,400,1,0,9,9,1,0,1,2
abbrev second_bus : List ℕ
second_bus = 66 ∷ 44 ∷ 48 ∷ 44 ∷ 52 ∷ 48 ∷ 48 ∷ 44 ∷ 49 ∷ 44 ∷ 48 ∷ 44 ∷ 57 ∷ 44 ∷ 57 ∷ 44 ∷ 49 ∷ 44 ∷ 48 ∷ 44 ∷ 49 ∷ 44 ∷ 50 ∷ []

-- P,1,0,5000,10,0,0,0
abbrev feeder : List ℕ
feeder = 80 ∷ 44 ∷ 49 ∷ 44 ∷ 48 ∷ 44 ∷ 53 ∷ 48 ∷ 48 ∷ 48 ∷ 44 ∷ 49 ∷ 48 ∷ 44 ∷ 48 ∷ 44 ∷ 48 ∷ 44 ∷ 48 ∷ []

-- P,4,0,1000,200,0,0,0
abbrev converter : List ℕ
converter = 80 ∷ 44 ∷ 52 ∷ 44 ∷ 48 ∷ 44 ∷ 49 ∷ 48 ∷ 48 ∷ 48 ∷ 44 ∷ 50 ∷ 48 ∷ 48 ∷ 44 ∷ 48 ∷ 44 ∷ 48 ∷ 44 ∷ 48 ∷ []

abbrev end : List ℕ
end = 13 ∷ 10 ∷ []

abbrev one_of_each : List ℕ
one_of_each = start ++ end ++ bus ++ end ++ feeder ++ end

abbrev two_buses : List ℕ
two_buses = start ++ end ++ bus ++ end ++ second_bus ++ end ++ feeder ++ end

abbrev two_sources : List ℕ
two_sources = start ++ end ++ bus ++ end ++ feeder ++ end ++ converter ++ end

-- what the small edition makes of a text, as it is proved of each two editions
small_kept : (text : List ℕ) → OldEdition small text (read_of text)
small_kept text = old_edition small here (record { buses = omega arith; sources = omega arith }) text

-- this edition accepts all three
pub three_accepted : ((read_of one_of_each).number ≡ 0) × ((read_of two_buses).number ≡ 0) × ((read_of two_sources).number ≡ 0)
unfolding read_in read_from_in row_of fields_row record_of number_of value_of length_ok close_after after_bus_in bus_number_in bus_record_number branch_ok depth_ok along after_source_in source_number_in source_record_number ranges_ok fields_ok after_close close_number
three_accepted = (refl, refl, refl)

-- the small edition accepts one of each, which has no row too many for it, and this edition reads it as the small one does
pub small_accepts : (read_in (record { buses = 1; sources = 1 }) one_of_each).number ≡ 0
small_accepts = (small_kept one_of_each).other three_accepted.0 refl

pub small_read_as_before : read_of one_of_each ≡ read_in (record { buses = 1; sources = 1 }) one_of_each
small_read_as_before = (small_kept one_of_each).as_before small_accepts

-- it meets two buses with 23 at row 3, and two sources with 24 at row 4
pub two_buses_met : read_in (record { buses = 1; sources = 1 }) two_buses ≡ refused_at 23 3
two_buses_met = (small_kept two_buses).larger three_accepted.1 (lit< tt)

pub two_sources_met : read_in (record { buses = 1; sources = 1 }) two_sources ≡ refused_at 24 4
two_sources_met = (small_kept two_sources).larger three_accepted.2 (lit< tt)
