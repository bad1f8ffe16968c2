-- Rows taken as additions: what the rows behind the first come to, by the additions of a part and the rows behind it.
use Rattle.std.specs.Prelude.{cond, List, [], ◌∷◌, ℕ, ◌+◌, eqb, drop}
use Rattle.network.specs.declared.additions.Addition.TheVariants.{OfBus, OfSource}
use Rattle.network.specs.declared.additions.Entry.{Entry}
use Rattle.network.specs.Network.{Network}
use Rattle.network.specs.Additions.{addition_number, after_addition}
use Rattle.reader.specs.declared.Row.{Row}
use Rattle.reader.specs.declared.Row.TheVariants.{Start, WithBus, WithSource, Malformed}
use Rattle.reader.specs.declared.parts.RowEntry.{RowEntry}
use Rattle.reader.specs.declared.parts.RowEntry.TheVariants.{Record, Nothing}
use Rattle.reader.specs.declared.parts.Part.{Part}
use Rattle.reader.specs.File.{rows, Outcome, refused_at, read_from}

-- what a row behind the first adds
abbrev pub entry_of : Row → RowEntry
entry_of (Start t) = Nothing
entry_of (WithBus b) = Record (record { addition = OfBus b })
entry_of (WithSource p) = Record (record { addition = OfSource p })
entry_of Malformed = Nothing

-- what follows additions, by how many rows stand before it and the network
abbrev pub Following : Type 0
Following = ℕ → Network → Outcome

-- additions behind i rows, up to the first that is refused, and what follows them
abbrev pub added_then : Following → ℕ → Network → List Entry → Outcome
added_then follow i n [] = follow i n
added_then follow i n (e ∷ es) =
    cond (eqb (addition_number n e.addition) 0)
    (added_then follow (i + 1) (after_addition n e.addition) es)
    (refused_at (addition_number n e.addition) (i + 1))

-- what follows the additions of a part: a row that breaks the form, or the rows from the next place on
abbrev pub behind : Part → List ℕ → Following
behind part text i n = cond part.malformed (refused_at 16 (i + 1)) (read_from i n (rows (drop part.next text)))
