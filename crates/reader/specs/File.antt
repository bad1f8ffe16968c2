-- What the text of a file means, by document 01, "The file": its rows, their fields and numbers, the records that these give, and
-- the outcome of taking them in order.
use Rattle.std.specs.Prelude.{Bool, true, false, not, cond, ◌&&◌, ◌||◌, List, [], ◌∷◌, ◌++◌, ℕ, ◌+◌, ◌*◌, ◌-◌, ◌^◌, ltb, eqb, length, get_or}
use Rattle.network.specs.declared.study.Bus.{Bus}
use Rattle.network.specs.declared.study.Source.{Source}
use Rattle.network.specs.Records.{in_range}
use Rattle.network.specs.Network.{Network, network, Limits, here}
use Rattle.network.specs.Grounds.{start_number, start_network, bus_number_in, after_bus_in, source_number_in, after_source_in, close_number, after_close, Call, starting, adding_bus, adding_source, closing, empty_network}
use Rattle.reader.specs.declared.Number.{Number}
use Rattle.reader.specs.declared.Number.TheVariants.{Value, Broken}
use Rattle.reader.specs.declared.Reading.{Reading}
use Rattle.reader.specs.declared.Row.{Row}
use Rattle.reader.specs.declared.Row.TheVariants.{Start, WithBus, WithSource, Malformed}

-- ---- the figures of the file's form
-- "up to 65,536 bytes"
abbrev pub max_bytes : ℕ
max_bytes = 65536

-- "`B,` with ten fields or `P,` with seven"; "Source records become twelve fields" (document 02, order 5); and the most numbers that are
-- taken of a row, more than any row has: the console's lines take theirs the same way, and have more
abbrev pub bus_fields : ℕ
bus_fields = 10

abbrev pub source_fields : ℕ
source_fields = 12

abbrev pub short_source_fields : ℕ
short_source_fields = 7

abbrev pub most_fields : ℕ
most_fields = 16

-- how many numbers make a bus row, and how many a source row: "a P row of seven is still read as if filled with zeros"
abbrev pub bus_count_ok : ℕ → Bool
bus_count_ok count = eqb count bus_fields

abbrev pub source_count_ok : ℕ → Bool
source_count_ok count = eqb count short_source_fields || eqb count source_fields

-- the bytes CR, LF, comma, 0, 9, S, B and P
abbrev pub cr : ℕ
cr = 13

abbrev pub lf : ℕ
lf = 10

abbrev pub comma : ℕ
comma = 44

abbrev pub digit0 : ℕ
digit0 = 48

abbrev pub digit9 : ℕ
digit9 = 57

abbrev pub letter_s : ℕ
letter_s = 83

abbrev pub letter_b : ℕ
letter_b = 66

abbrev pub letter_p : ℕ
letter_p = 80

-- ---- rows and fields
-- a byte put before the first of the stretches that follow it
abbrev pub on_first : ℕ → List (List ℕ) → List (List ℕ)
on_first b [] = (b ∷ []) ∷ []
on_first b (r ∷ rs) = (b ∷ r) ∷ rs

-- "CRLF line ends (last optional)": after a last CRLF no row follows. A CR or an LF alone is a byte of its row.
abbrev pub rows : List ℕ → List (List ℕ)
rows [] = []
rows (b ∷ []) = (b ∷ []) ∷ []
rows (b ∷ c ∷ bs) = cond (eqb b cr && eqb c lf) ([] ∷ rows bs) (on_first b (rows (c ∷ bs)))

-- "A field is taken as the stretch of the file's own bytes between its commas."
abbrev pub fields : List ℕ → List (List ℕ)
fields [] = [] ∷ []
fields (b ∷ bs) = cond (eqb b comma) ([] ∷ fields bs) (on_first b (fields bs))

-- ---- numbers
-- "A number is 1 to 10 digits, no leading zero save 0 itself, below 2³².": the length and the first digit
unfoldable pub length_ok : List ℕ → Bool
length_ok f = in_range (length f) 1 10 && (eqb (length f) 1 || not (eqb (get_or f 0 0) digit0))

abbrev pub digits : List ℕ → Bool
digits [] = true
digits (b ∷ bs) = in_range b digit0 digit9 && digits bs

-- the number that digits make after those of n
abbrev pub digits_value : ℕ → List ℕ → ℕ
digits_value n [] = n
digits_value n (b ∷ bs) = digits_value (10 * n + (b - digit0)) bs

unfoldable pub value_of : List ℕ → Number
value_of f = cond (digits f && ltb (digits_value 0 f) (2 ^ 32)) (Value (digits_value 0 f)) Broken

-- a field that is a number, and any other
unfoldable pub number_of : List ℕ → Number
number_of f = cond (length_ok f) (value_of f) Broken

-- the two cases of `Number`: whether it is one, and which
abbrev pub is_number : Number → Bool
is_number (Value n) = true
is_number Broken = false

abbrev pub amount : Number → ℕ
amount (Value n) = n
amount Broken = 0

abbrev pub all_numbers : List (List ℕ) → Bool
all_numbers [] = true
all_numbers (f ∷ fs) = is_number (number_of f) && all_numbers fs

abbrev pub amounts : List (List ℕ) → List ℕ
amounts [] = []
amounts (f ∷ fs) = amount (number_of f) ∷ amounts fs

-- ---- records
-- "Bus record, ten fields", in their order. A number that the list does not have would be 0; a row that has too few numbers gives no
-- record (`record_of`)
abbrev pub bus_of : List ℕ → Bus
bus_of v = record {
  parent = get_or v 0 0;
  volts = get_or v 1 0;
  kind = get_or v 2 0;
  f1 = get_or v 3 0;
  f2 = get_or v 4 0;
  f3 = get_or v 5 0;
  f4 = get_or v 6 0;
  f5 = get_or v 7 0;
  rating = get_or v 8 0;
  peak_rating = get_or v 9 0;
}

-- "Source record, seven fields", and order 5's five, in their order. A number that the list does not have is 0: "as if filled with zeros"
abbrev pub source_of : List ℕ → Source
source_of v = record {
  kind = get_or v 0 0;
  bus = get_or v 1 0;
  f1 = get_or v 2 0;
  f2 = get_or v 3 0;
  f3 = get_or v 4 0;
  f4 = get_or v 5 0;
  f5 = get_or v 6 0;
  low = get_or v 7 0;
  high = get_or v 8 0;
  transformer_kva = get_or v 9 0;
  uk = get_or v 10 0;
  ur = get_or v 11 0;
}

-- "Row 1 is `S,tolerance`; then `B,` with ten fields or `P,` with seven, in any mixture.", or with twelve: by whether the row is the
-- first, its letter and its numbers
unfoldable pub record_of : Bool → ℕ → List ℕ → Row
record_of true letter v = cond (eqb letter letter_s && eqb (length v) 1) (Start (get_or v 0 0)) Malformed
record_of false letter v =
    cond (eqb letter letter_b && bus_count_ok (length v)) (WithBus (bus_of v))
    (cond (eqb letter letter_p && source_count_ok (length v)) (WithSource (source_of v)) Malformed)

unfoldable pub fields_row : Bool → ℕ → List (List ℕ) → Row
fields_row first letter fs = cond (all_numbers fs) (record_of first letter (amounts fs)) Malformed

-- a row: a letter, a comma, and fields that are all numbers
unfoldable pub row_of : Bool → List ℕ → Row
row_of first [] = Malformed
row_of first (letter ∷ []) = Malformed
row_of first (letter ∷ b ∷ rest) = cond (eqb b comma) (fields_row first letter (fields rest)) Malformed

-- ---- the four cases of `Row`: the number that a row is refused with, 0 where it is accepted, and the network after it
-- "16 text breaks the file form: given for that row before its record is tried"
abbrev pub row_number_in : Limits → Network → Row → ℕ
row_number_in L n (Start t) = start_number t
row_number_in L n (WithBus b) = bus_number_in L n b
row_number_in L n (WithSource p) = source_number_in L n p
row_number_in L n Malformed = 16

abbrev pub after_row_in : Limits → Network → Row → Network
after_row_in L n (Start t) = start_network t
after_row_in L n (WithBus b) = after_bus_in L n b
after_row_in L n (WithSource p) = after_source_in L n p
after_row_in L n Malformed = n

abbrev pub row_number : Network → Row → ℕ
row_number = row_number_in here

abbrev pub after_row : Network → Row → Network
after_row = after_row_in here

-- ---- the whole text
pub record Outcome : Type 0 where
  pub number : ℕ
  pub row : ℕ
  pub network : Network

abbrev pub outcome_of : Reading → Outcome
outcome_of r = record { number = r.number; row = r.row; network = network r.study }

-- "giving number and row (from 1), and an empty open study of tolerance 6"
abbrev pub refused_at : ℕ → ℕ → Outcome
refused_at number row = record { number = number; row = row; network = empty_network }

-- "An accepted call carries number 0, an accepted file also row 0."
abbrev pub accepted_as : Network → Outcome
accepted_as n = record { number = 0; row = 0; network = n }

-- "The reader closes the study at the end."; "25 closing without a source (from the reader: last row)": after i rows
unfoldable pub close_after : ℕ → Network → Outcome
close_after i n = cond (eqb (close_number n) 0) (accepted_as (after_close n)) (refused_at (close_number n) i)

-- "It stops at the first refusal": the rows that follow i others
unfoldable pub read_from_in : Limits → ℕ → Network → List (List ℕ) → Outcome
read_from_in L i n [] = close_after i n
read_from_in L i n (r ∷ rs) =
    cond (eqb (row_number_in L n (row_of (eqb i 0) r)) 0)
    (read_from_in L (i + 1) (after_row_in L n (row_of (eqb i 0) r)) rs)
    (refused_at (row_number_in L n (row_of (eqb i 0) r)) (i + 1))

abbrev pub read_from : ℕ → Network → List (List ℕ) → Outcome
read_from = read_from_in here

-- "up to 65,536 bytes"; "for empty or overlong text, row 1"
unfoldable pub read_in : Limits → List ℕ → Outcome
read_in L text = cond (in_range (length text) 1 max_bytes) (read_from_in L 0 empty_network (rows text)) (refused_at 16 1)

-- WHAT A TEXT MEANS in this edition
abbrev pub read_of : List ℕ → Outcome
read_of = read_in here

-- ---- a file as calls
-- "an accepted file counts as a start, additions and a closing by its rows"
abbrev pub call_of : Row → List Call
call_of (Start t) = starting t ∷ []
call_of (WithBus b) = adding_bus b ∷ []
call_of (WithSource p) = adding_source p ∷ []
call_of Malformed = []

-- the rows that follow i others
abbrev pub calls_from : ℕ → List (List ℕ) → List Call
calls_from i [] = closing ∷ []
calls_from i (r ∷ rs) = call_of (row_of (eqb i 0) r) ++ calls_from (i + 1) rs

abbrev pub calls : List ℕ → List Call
calls text = calls_from 0 (rows text)

-- "A refused start or file leaves tolerance 6 and no records"
unfoldable pub calls_read : List ℕ → List Call
calls_read text = cond (eqb (read_of text).number 0) (calls text) (starting 6 ∷ [])
