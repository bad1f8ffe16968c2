-- Each answer fits a line, or its parts do and are the answer when joined; worked answers. Assumes nothing.
use Rattle.std.specs.Prelude.{ℕ, zero, suc, ◌+◌, ◌*◌, ◌≤◌, ◌≡◌, refl, List, [], ◌∷◌, ◌++◌, length, take, drop, Float}
use Rattle.std.proofs.Common.{div-add-mod', mod-lt, arith, append_assoc, length-append, length-take, take_all, take-add}
use Rattle.std.specs.Float.Ieee.{lt, of_int, to_unsigned}
use Rattle.enclosure.specs.Exact.{of_nat}
use Rattle.network.specs.declared.query.Found.{Found}
use Rattle.printing.specs.Printed.{whole_of, amount_of, decimal, next_text}
use Rattle.printing.specs.laws.Printed.{decimal_length, next_length, amperes_length, letter_length}
use Rattle.printing.specs.Line.{room}
use Rattle.reader.specs.File.{lf}
use Rattle.console.specs.Answers.{hex_text, written_line, hex_digit, written_head, chunk_of, error_line, number_line, reading_line, found_line, chunk, chunk_count, table_filler, broken_head, numbers_text, broken_line, few, few_count, few_of}

-- CR, LF and 0x55 are `0d0a55`; a closed study with no byte lent is `30,0,`
worked : (hex_text (13 ∷ 10 ∷ 85 ∷ []) ≡ 48 ∷ 100 ∷ 48 ∷ 97 ∷ 53 ∷ 53 ∷ []) × (written_line 30 0 [] ≡ 51 ∷ 48 ∷ 44 ∷ 48 ∷ 44 ∷ 10 ∷ [])
unfolding hex_digit hex_text written_head written_line decimal next_text
worked = (refl, refl)

-- the digits of the first k chunks, as they are written one after the other
unfoldable pub chunks_text : ℕ → List ℕ → List ℕ
chunks_text zero bytes = []
chunks_text (suc k) bytes = chunks_text k bytes ++ hex_text (chunk_of k bytes)

-- ---- each fits a line
pub error_fits : (reason : List ℕ) → length reason ≤ 200 → length (error_line reason) ≤ room
unfolding error_line
error_fits reason h = simp length-append (omega arith)

pub number_fits : (number : ℕ) → length (number_line number) ≤ room
unfolding number_line
number_fits number = simp length-append (omega (arith, decimal_length number))

pub reading_fits : (number row : ℕ) → length (reading_line number row) ≤ room
unfolding reading_line
reading_fits number row = simp length-append (omega (arith, decimal_length number, next_length row))

pub found_fits : (f : Found) → length (found_line f) ≤ room
unfolding found_line
found_fits f =
    simp length-append
    (omega (arith, decimal_length f.number, amperes_length f.amperes, letter_length f.verdict, next_length (whole_of (amount_of f.verdict))))

-- ---- each part of the answer to `write` fits a line
pub head_fits : (number size : ℕ) → length (written_head number size) ≤ room
unfolding written_head
head_fits number size = simp length-append (omega (arith, decimal_length number, next_length size))

hex_length : (bytes : List ℕ) → length (hex_text bytes) ≡ 2 * length bytes
unfolding hex_text
hex_length [] = refl
hex_length (b ∷ bytes) = omega (arith, hex_length bytes)

pub chunk_fits : (k : ℕ) (bytes : List ℕ) → length (hex_text (chunk_of k bytes)) ≤ room
unfolding chunk_of
chunk_fits k bytes = omega (arith, hex_length (chunk_of k bytes), length-take chunk (drop (k * chunk) bytes))

-- ---- and the parts joined, the head, the chunks and LF, are the answer
hex_both : (a b : List ℕ) → hex_text (a ++ b) ≡ hex_text a ++ hex_text b
unfolding hex_text
hex_both [] b = refl
hex_both (x ∷ a) b = rw (hex_both a b)

first_chunks : (k : ℕ) (bytes : List ℕ) → chunks_text k bytes ≡ hex_text (take (k * chunk) bytes)
unfolding chunks_text chunk_of hex_text
first_chunks zero bytes = refl
first_chunks (suc k) bytes =
    let more : suc k * chunk ≡ k * chunk + chunk = omega arith in
    rw (more, take-add (k * chunk) chunk bytes, hex_both, first_chunks k bytes)

pub parts_joined : (number size : ℕ) (lent : List ℕ)
    → written_head number size ++ chunks_text (chunk_count (length lent)) lent ++ (lf ∷ []) ≡ written_line number size lent
unfolding written_line
parts_joined number size lent =
    let n = length lent in
    rw (first_chunks (chunk_count n) lent, take_all (chunk_count n * chunk) lent (omega (arith, div-add-mod' n chunk, mod-lt n {m = chunk} (omega arith))))

-- ---- the same of the answer to `breaking`
-- two numbers lent to a study that is not closed, and none
worked_broken : (broken_line 22 (of_nat 0) (table_filler ∷ table_filler ∷ []) ≡ 50 ∷ 50 ∷ 44 ∷ 48 ∷ 44 ∷ 55 ∷ 44 ∷ 55 ∷ 10 ∷ []) × (broken_line 22 (of_nat 0) [] ≡ 50 ∷ 50 ∷ 44 ∷ 48 ∷ 10 ∷ [])
unfolding broken_head broken_line numbers_text decimal next_text lt of_int to_unsigned
worked_broken = (refl, refl)

-- the numbers as they are written, a few after the other
unfoldable pub fews_text : ℕ → List Float → List ℕ
fews_text zero numbers = []
fews_text (suc k) numbers = fews_text k numbers ++ numbers_text (few_of k numbers)

pub broken_head_fits : (number : ℕ) (figure : Float) → length (broken_head number figure) ≤ room
unfolding broken_head
broken_head_fits number figure = simp length-append (omega (arith, decimal_length number, next_length (whole_of figure)))

pub decimal_fits : (number : ℕ) → length (decimal number) ≤ room
decimal_fits number = omega (arith, decimal_length number)

numbers_length : (numbers : List Float) → length (numbers_text numbers) ≤ 21 * length numbers
unfolding numbers_text
numbers_length [] = omega arith
numbers_length (x ∷ numbers) = simp length-append (omega (arith, next_length (whole_of x), numbers_length numbers))

pub few_fit : (k : ℕ) (numbers : List Float) → length (numbers_text (few_of k numbers)) ≤ room
unfolding few_of
few_fit k numbers = omega (arith, numbers_length (few_of k numbers), length-take few (drop (k * few) numbers))

pub numbers_both : (a b : List Float) → numbers_text (a ++ b) ≡ numbers_text a ++ numbers_text b
unfolding numbers_text
numbers_both [] b = refl
numbers_both (x ∷ a) b = rw (numbers_both a b, append_assoc)

first_fews : (k : ℕ) (numbers : List Float) → fews_text k numbers ≡ numbers_text (take (k * few) numbers)
unfolding fews_text few_of numbers_text
first_fews zero numbers = refl
first_fews (suc k) numbers =
    let more : suc k * few ≡ k * few + few = omega arith in
    rw (more, take-add (k * few) few numbers, numbers_both, first_fews k numbers)

pub fews_joined : (number : ℕ) (figure : Float) (lent : List Float)
    → broken_head number figure ++ fews_text (few_count (length lent)) lent ++ (lf ∷ []) ≡ broken_line number figure lent
unfolding broken_line
fews_joined number figure lent =
    let n = length lent in
    rw (first_fews (few_count n) lent, take_all (few_count n * few) lent (omega (arith, div-add-mod' n few, mod-lt n {m = few} (omega arith))))
