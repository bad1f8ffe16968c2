-- The lines that answer a call, by README, "Answers".
use Rattle.std.specs.Prelude.{ℕ, ◌+◌, ◌*◌, ◌/◌, ◌%◌, cond, List, [], ◌∷◌, ◌++◌, ltb, take, drop, Float}
use Rattle.enclosure.specs.Exact.{of_nat}
use Rattle.network.specs.declared.query.Found.{Found}
use Rattle.printing.specs.Printed.{whole_of, amount_of, decimal, next_text, amperes_text, letter_text}
use Rattle.reader.specs.File.{lf, comma}

-- the bytes of `error,`
abbrev pub error : List ℕ
error = 101 ∷ 114 ∷ 114 ∷ 111 ∷ 114 ∷ 44 ∷ []

-- "`error,` and a reason"
unfoldable pub error_line : List ℕ → List ℕ
error_line reason = error ++ reason ++ (lf ∷ [])

-- "the number of the ground, 0 where accepted"
unfoldable pub number_line : ℕ → List ℕ
number_line number = decimal number ++ (lf ∷ [])

-- "number and row"
unfoldable pub reading_line : ℕ → ℕ → List ℕ
reading_line number row = decimal number ++ next_text row ++ (lf ∷ [])

-- "the number, six amperes, W, O or C, and the margin or excess"
unfoldable pub found_line : Found → List ℕ
found_line f = decimal f.number ++ amperes_text f.amperes ++ letter_text f.verdict ++ next_text (whole_of (amount_of f.verdict)) ++ (lf ∷ [])

-- ---- the answer to `write`, of any length
-- "each byte is 0x55 before the call"
abbrev pub filler : ℕ
filler = 85

-- "in lower-case hexadecimal digits": half a byte
unfoldable pub hex_digit : ℕ → ℕ
hex_digit half = cond (ltb half 10) (48 + half) (87 + half)

-- a byte, its high half first
abbrev pub hex_byte : ℕ → List ℕ
hex_byte b = hex_digit (b / 16) ∷ hex_digit (b % 16) ∷ []

-- "HEX": the digits of each byte in turn
unfoldable pub hex_text : List ℕ → List ℕ
hex_text [] = []
hex_text (b ∷ bytes) = hex_byte b ++ hex_text bytes

-- "number, LENGTH" and the comma before HEX
unfoldable pub written_head : ℕ → ℕ → List ℕ
written_head number size = decimal number ++ next_text size ++ (comma ∷ [])

-- "number, LENGTH and HEX, all ROOM lent bytes"
unfoldable pub written_line : ℕ → ℕ → List ℕ → List ℕ
written_line number size lent = written_head number size ++ hex_text lent ++ (lf ∷ [])

-- how many bytes' digits fill a line
abbrev pub chunk : ℕ
chunk = 128

-- how many chunks so many bytes have; the last may be empty
abbrev pub chunk_count : ℕ → ℕ
chunk_count count = count / chunk + 1

-- the bytes of one of them, counted from 0
unfoldable pub chunk_of : ℕ → List ℕ → List ℕ
chunk_of k bytes = take chunk (drop (k * chunk) bytes)

-- ---- the answer to `breaking`, of any length too
-- "each number is 7 before the call"
abbrev pub table_filler : Float
table_filler = of_nat 7

-- "the number and FIGURE"
unfoldable pub broken_head : ℕ → Float → List ℕ
broken_head number figure = decimal number ++ next_text (whole_of figure)

-- "all ROOM lent numbers", each behind a comma; of none nothing follows
unfoldable pub numbers_text : List Float → List ℕ
numbers_text [] = []
numbers_text (x ∷ numbers) = next_text (whole_of x) ++ numbers_text numbers

-- "the number, FIGURE and all ROOM lent numbers"
unfoldable pub broken_line : ℕ → Float → List Float → List ℕ
broken_line number figure lent = broken_head number figure ++ numbers_text lent ++ (lf ∷ [])

-- ---- the answer to `report`: "the number and all ROOM lent numbers"
unfoldable pub report_line : ℕ → List Float → List ℕ
report_line number lent = decimal number ++ numbers_text lent ++ (lf ∷ [])

-- how many numbers fill a line
abbrev pub few : ℕ
few = 12

-- how many times a few so many numbers are; the last may be none
abbrev pub few_count : ℕ → ℕ
few_count count = count / few + 1

-- a few of them, counted from 0
unfoldable pub few_of : ℕ → List Float → List Float
few_of k numbers = take few (drop (k * few) numbers)
