-- What a turn of the loops counts and lays: the next number of a row, the next row of the records; and how long these are at most.
use Rattle.std.specs.Prelude.{◌≡◌, refl, List, [], ◌∷◌, ◌++◌, map, ℕ, ◌+◌, ◌*◌, ◌≤◌, ◌<◌, length, set, take, drop, get_or}
use Rattle.std.proofs.Common.{sym, ap, ◌∙◌, append_assoc, mul-suc, arith, add-one, length-append, drop_of_length-le, length-take-le, drop-cons, get_or-take}
use Rattle.network.specs.Network.{Network}
use Rattle.reader.specs.File.{cr, lf, comma, letter_s, letter_b, letter_p}
use Rattle.printing.specs.Printed.{decimal}
use Rattle.printing.specs.laws.Printed.{decimal_length}
use Rattle.writer.specs.Text.{bus_numbers, source_numbers, follow, row_text, ended_row, record_rows, text_of}
use Rattle.writer.specs.laws.Laying.{Placed, laid, laid_byte, laid_both}

-- ---- numbers
abbrev pub numbers_text : List ℕ → List ℕ
numbers_text vs = follow (map decimal vs)

next_number : (vs : List ℕ) (i : ℕ) → i < length vs → numbers_text (drop i vs) ≡ (comma ∷ decimal (get_or vs i 0)) ++ numbers_text (drop (i + 1) vs)
next_number vs i h = rw (add-one i, drop-cons vs i 0 h)

pub next_number_length : (vs : List ℕ) (i : ℕ) → i < length vs
    → length (numbers_text (drop i vs)) ≡ 1 + length (decimal (get_or vs i 0)) + length (numbers_text (drop (i + 1) vs))
next_number_length vs i h = ap length (next_number vs i h) ∙ length-append (comma ∷ decimal (get_or vs i 0)) (numbers_text (drop (i + 1) vs)) ∙ omega arith

pub next_number_laid : (l m : List ℕ) (at end : ℕ) (vs : List ℕ) (i : ℕ) (tail : List ℕ) → i < length vs
    → laid (set l at comma, at + 1) (decimal (get_or vs i 0)) ≡ (m, end)
    → laid (m, end) (numbers_text (drop (i + 1) vs) ++ tail) ≡ laid (l, at) (numbers_text (drop i vs) ++ tail)
next_number_laid l m at end vs i tail h e =
    let digits = decimal (get_or vs i 0) in
    let later = numbers_text (drop (i + 1) vs) in
    sym (
    ap (λ (text : List ℕ). laid (l, at) (text ++ tail)) (next_number vs i h)
    ∙ laid_byte l at comma (digits ++ later ++ tail)
    ∙ ap (laid (set l at comma, at + 1)) (append_assoc digits later tail)
    ∙ laid_both (set l at comma, at + 1) (m, end) digits (later ++ tail) e refl
    )

-- whatever a number is, it has at most twenty digits
pub numbers_most : (vs : List ℕ) → length (numbers_text vs) ≤ 21 * length vs
numbers_most [] = omega arith
numbers_most (v ∷ vs) = omega (arith, length-append (decimal v) (numbers_text vs), decimal_length v, numbers_most vs)

pub ended_row_length : (letter : ℕ) (vs : List ℕ) → length (ended_row letter vs) ≡ 3 + length (numbers_text vs)
ended_row_length letter vs = length-append (row_text letter vs) (cr ∷ lf ∷ []) ∙ omega arith

-- ---- rows
pub record_rows_most : {X : Type 0} (letter : ℕ) (numbers : X → List ℕ) (most : ℕ) → ((x : X) → 3 + 21 * length (numbers x) ≤ most) → (l : List X)
    → length (record_rows letter numbers l) ≤ most * length l
record_rows_most letter numbers most h [] = omega arith
record_rows_most letter numbers most h (x ∷ l) =
    omega (
      arith,
      length-append (ended_row letter (numbers x)) (record_rows letter numbers l),
      ended_row_length letter (numbers x),
      numbers_most (numbers x),
      h x,
      record_rows_most letter numbers most h l,
      mul-suc most (length l),
    )

-- of the records of an array that are counted, the rows of those from place i on
abbrev pub rows_from : {X : Type 0} → ℕ → (X → List ℕ) → List X → ℕ → ℕ → List ℕ
rows_from letter numbers array total i = record_rows letter numbers (drop i (take total array))

module _ {X : Type 0} (letter : ℕ) (numbers : X → List ℕ) (array : List X) (total : ℕ) (room : total ≤ length array) where
  pub rows_most : (most : ℕ) → ((x : X) → 3 + 21 * length (numbers x) ≤ most) → length (record_rows letter numbers (take total array)) ≤ most * total
  rows_most most h = rw (length-take-le total array room) at (record_rows_most letter numbers most h (take total array))

  pub rows_end : (i : ℕ) → total ≤ i → rows_from letter numbers array total i ≡ []
  rows_end i h = rw (drop_of_length-le (take total array) {i = i} (omega (arith, length-take-le total array room)))

  -- the next row, from the numbers of the record at place i
  module _ (d : X) (i : ℕ) (h : i < total) (vs : List ℕ) (same : vs ≡ numbers (get_or array i d)) where
    next_row : rows_from letter numbers array total i ≡ ended_row letter vs ++ rows_from letter numbers array total (i + 1)
    next_row =
        let p : i < length (take total array) = omega (arith, length-take-le total array room) in
        rw (add-one i, drop-cons (take total array) i d p, get_or-take total array i d h, same)

    pub next_row_length : length (rows_from letter numbers array total i) ≡ length (ended_row letter vs) + length (rows_from letter numbers array total (i + 1))
    next_row_length = ap length next_row ∙ length-append (ended_row letter vs) (rows_from letter numbers array total (i + 1))

    pub next_row_laid : (f g : Placed) → laid f (ended_row letter vs) ≡ g
        → laid g (rows_from letter numbers array total (i + 1)) ≡ laid f (rows_from letter numbers array total i)
    next_row_laid f g e =
        sym (ap (laid f) next_row ∙ laid_both f g (ended_row letter vs) (rows_from letter numbers array total (i + 1)) e refl)

-- ---- the records of a study
-- as many records of an array as are counted
pub counted : {X : Type 0} (l array : List X) (total : ℕ) → total ≡ length l → take (length l) array ≡ l → take total array ≡ l
counted l array total e same = rw e same

-- ---- the whole text, in its three parts
pub text_length : (n : Network) → length (text_of n)
    ≡ length (ended_row letter_s (n.tolerance ∷ [])) + length (record_rows letter_b bus_numbers n.buses) + length (record_rows letter_p source_numbers n.sources)
unfolding text_of
text_length n =
    let start = ended_row letter_s (n.tolerance ∷ []) in
    let buses = record_rows letter_b bus_numbers n.buses in
    let sources = record_rows letter_p source_numbers n.sources in
    omega (arith, length-append start (buses ++ sources), length-append buses sources)

pub text_laid : (n : Network) (f g h : Placed) {k : Placed}
    → laid f (ended_row letter_s (n.tolerance ∷ [])) ≡ g → laid g (record_rows letter_b bus_numbers n.buses) ≡ h → laid h (record_rows letter_p source_numbers n.sources) ≡ k
    → laid f (text_of n) ≡ k
unfolding text_of
text_laid n f g h start buses sources =
    laid_both f g (ended_row letter_s (n.tolerance ∷ [])) (record_rows letter_b bus_numbers n.buses ++ record_rows letter_p source_numbers n.sources) start
    (laid_both g h (record_rows letter_b bus_numbers n.buses) (record_rows letter_p source_numbers n.sources) buses sources)
