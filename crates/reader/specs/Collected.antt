-- The numbers of a row as the reader collects them, field by field; and what they are to the row's fields. Assumes nothing.
use Rattle.std.specs.Prelude.{◌≡◌, Bool, true, false, cond, List, [], ◌∷◌, ℕ, ◌+◌, ◌≤◌, leb, set, get_or, replicate}
use Rattle.reader.specs.declared.Number.{Number}
use Rattle.reader.specs.declared.Number.TheVariants.{Value, Broken}
use Rattle.reader.specs.declared.Numbers.{Numbers}
use Rattle.reader.specs.File.{most_fields, number_of}

-- so many numbers, which are all that the row has, or not
abbrev pub counted : Bool → ℕ → List ℕ → Numbers
counted ok count values = record { ok = ok; count = count; values = values }

-- by what a field is
abbrev pub entered : Number → (ℕ → Numbers) → Numbers → Numbers
entered (Value n) next stop = next n
entered Broken next stop = stop

-- the fields that follow `count` others: up to the first that is no number, or for which no row has room
abbrev pub collect : List (List ℕ) → ℕ → List ℕ → Numbers
collect [] count values = counted true count values
collect (f ∷ fs) count values =
    entered (number_of f)
    (λ n. cond (leb most_fields count) (counted false count values) (collect fs (count + 1) (set values count n)))
    (counted false count values)

abbrev pub collected : List (List ℕ) → Numbers
collected fs = collect fs 0 (replicate most_fields 0)

-- ---- what that is to the fields
-- behind the first numbers stand zeros: a list with fewer numbers than places is filled with them
abbrev pub Filled : ℕ → List ℕ → Type 0
Filled count values = (i : ℕ) → count ≤ i → get_or values i 0 ≡ 0
