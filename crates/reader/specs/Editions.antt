-- Two editions of the program and one file (document 02, order 2): "A file which the old edition accepts reads as before, while a larger
-- one which the new edition accepts is met by an old edition with 23 or 24 at its first surplus row."
use Rattle.std.specs.Prelude.{ℕ, ◌+◌, ◌<◌, ◌≡◌, Bool, cond, ◌||◌, List, [], ◌∷◌, ◌++◌, ltb, eqb, length, get_or}
use Rattle.network.specs.Network.{Limits}
use Rattle.reader.specs.File.{letter_b, letter_p, rows, Outcome, refused_at, read_in}

-- the limits of the edition of document 01: "At most 64 buses, 256 sources." An edition is told by its limits alone here, and reads rows as
-- this one does. Of a text whose source rows have seven fields each that comes to document 01's own edition, which knows no others: it
-- accepts the same texts and refuses at the same rows, a source of kind 5 with 10 where it is 11 or 12 here
abbrev pub first_edition : Limits
first_edition = record { buses = 64; sources = 256 }

-- how many rows begin with a letter
abbrev pub lettered : ℕ → List (List ℕ) → ℕ
lettered letter [] = 0
lettered letter (r ∷ rs) = cond (eqb (get_or r 0 0) letter) 1 0 + lettered letter rs

-- more rows of buses, or more rows of sources, than an edition has room for
abbrev pub too_many_buses : Limits → List (List ℕ) → Bool
too_many_buses L rs = ltb L.buses (lettered letter_b rs)

abbrev pub too_many : Limits → List (List ℕ) → Bool
too_many L rs = too_many_buses L rs || ltb L.sources (lettered letter_p rs)

-- the number, from 1 and counting the rows before, of the first row with which the rows so far are too many; 0 where there is none
abbrev pub surplus_after : Limits → List (List ℕ) → List (List ℕ) → ℕ
surplus_after L before [] = 0
surplus_after L before (r ∷ rs) = cond (too_many L (before ++ (r ∷ []))) (length before + 1) (surplus_after L (before ++ (r ∷ [])) rs)

-- "with 23 or 24": by the table that this row finds full
abbrev pub full_after : Limits → List (List ℕ) → List (List ℕ) → ℕ
full_after L before [] = 0
full_after L before (r ∷ rs) =
    cond (too_many L (before ++ (r ∷ []))) (cond (too_many_buses L (before ++ (r ∷ []))) 23 24) (full_after L (before ++ (r ∷ [])) rs)

-- "its first surplus row"; a file is "a larger one" where this is not 0
abbrev pub first_surplus : Limits → List ℕ → ℕ
first_surplus L text = surplus_after L [] (rows text)

abbrev pub met_at : Limits → List ℕ → Outcome
met_at L text = refused_at (full_after L [] (rows text)) (first_surplus L text)

-- what an edition of limits L, the old one, makes of a text of which the new one makes o
pub record OldEdition (L : Limits) (text : List ℕ) (o : Outcome) : Type 0 where
  -- "A file which the old edition accepts reads as before"
  pub as_before : (read_in L text).number ≡ 0 → o ≡ read_in L text
  -- "a larger one which the new edition accepts is met by an old edition with 23 or 24 at its first surplus row"
  pub larger : o.number ≡ 0 → 0 < first_surplus L text → read_in L text ≡ met_at L text
  -- and no other file is accepted by the new edition and not by one of these limits
  pub other : o.number ≡ 0 → first_surplus L text ≡ 0 → (read_in L text).number ≡ 0
