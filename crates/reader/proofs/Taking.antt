-- The rows of a text taken one after the other: the next row, and the outcome as it stands before and after it.
use Rattle.std.specs.Prelude.{◌≡◌, List, [], ◌∷◌, ℕ, ◌+◌, ◌-◌, ◌≤◌, ◌<◌, eqb, length, take, drop}
use Rattle.std.proofs.Common.{arith, ne_eqb, length-drop, drop_of_length-le, drop-drop}
use Rattle.network.specs.Network.{Network}
use Rattle.network.specs.Grounds.{close_number, after_close}
use Rattle.reader.specs.declared.Row.{Row}
use Rattle.reader.specs.File.{rows, row_of, row_number, after_row, refused_at, accepted_as, close_after, read_from_in, read_from}
use Rattle.reader.specs.Stretches.{at_crlf, before, stretch}
use Rattle.reader.specs.laws.Stretches.{rows_step}

rows_first : (l : List ℕ) → 0 < length l → rows l ≡ stretch at_crlf l ∷ rows (drop (before at_crlf l + 2) l)
rows_first [] h = absurd (omega arith)
rows_first (b ∷ bs) h = rows_step b bs

-- ---- the row that begins at a place, and the rows behind its CRLF
module _ (text : List ℕ) (at end : ℕ) (h : at < length text) (e : end ≡ at + before at_crlf (drop at text)) where
  abbrev row : List ℕ
  row = take (end - at) (drop at text)

  pub next : rows (drop at text) ≡ row ∷ rows (drop (end + 2) text)
  next =
      let k = before at_crlf (drop at text) in
      let w : end - at ≡ k = omega arith in
      let later : at + (k + 2) ≡ end + 2 = omega arith in
      rw (rows_first (drop at text) (omega (arith, length-drop at text)), drop-drop (k + 2) at text, w, later)

  module _ (i : ℕ) (n : Network) where
    pub row_accepted : (said : Row) → said ≡ row_of (eqb i 0) row → row_number n said ≡ 0 → read_from i n (rows (drop at text)) ≡ read_from (i + 1) (after_row n said) (rows (drop (end + 2) text))
    unfolding read_from_in
    row_accepted said s z = rw (next, ← s, z)

    pub row_refused : (said : Row) → said ≡ row_of (eqb i 0) row → (k : ℕ) → k ≡ row_number n said → (k ≡ 0 → ⊥) → read_from i n (rows (drop at text)) ≡ refused_at k (i + 1)
    unfolding read_from_in
    row_refused said s k z r = rw (next, ← s, ← z, ne_eqb k 0 r)

pub rows_end : (text : List ℕ) (at i : ℕ) (n : Network) → length text ≤ at → read_from i n (rows (drop at text)) ≡ close_after i n
unfolding read_from_in
rows_end text at i n h = rw (drop_of_length-le text h)

module _ (i : ℕ) (n : Network) where
  pub close_accepted : close_number n ≡ 0 → close_after i n ≡ accepted_as (after_close n)
  unfolding close_after
  close_accepted e = rw e

  pub close_refused : (k : ℕ) → k ≡ close_number n → (k ≡ 0 → ⊥) → close_after i n ≡ refused_at k i
  unfolding close_after
  close_refused k e h = rw (← e, ne_eqb k 0 h)
