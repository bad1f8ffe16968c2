-- Each row fits a line. Assumes nothing.
use Rattle.std.specs.Prelude.{ℕ, ◌+◌, ◌≤◌, ◌≡◌, ◌++◌, length}
use Rattle.std.proofs.Common.{◌∙◌, add-one, arith, length-append, ne_eqb}
use Rattle.std.proofs.Math.Path.{sym}
use Rattle.network.specs.declared.query.Amperes.{Amperes}
use Rattle.network.specs.declared.query.Verdict.{Verdict}
use Rattle.printing.specs.laws.Printed.{decimal_length, next_length, amperes_length, letter_length}
use Rattle.printing.specs.Line.{room}
use Rattle.network.specs.Network.{Network}
use Rattle.reader.specs.File.{Outcome}
use Rattle.noldveig.specs.Rows.{bus_row, refusal_row, row_text, rows_text, board_text, printed}

-- ---- each fits a line
pub bus_fits : (bus : ℕ) (a : Amperes) (v : Verdict) → length (bus_row bus a v) ≤ room
unfolding bus_row
bus_fits bus a v = simp length-append (omega (arith, decimal_length bus, amperes_length a, letter_length v))

pub refusal_fits : (number row : ℕ) → length (refusal_row number row) ≤ room
unfolding refusal_row
refusal_fits number row = simp length-append (omega (arith, next_length number, next_length row))

-- ---- one row more, and the two cases of what is printed
pub rows_more : (n : Network) (k : ℕ) → rows_text n k ++ row_text n k ≡ rows_text n (k + 1)
unfolding rows_text
rows_more n k = rw (add-one k)

module _ (o : Outcome) (number : ℕ) (e : number ≡ o.number) where
  pub printed_board : number ≡ 0 → board_text o.network ≡ printed o
  unfolding printed
  printed_board z = let y : o.number ≡ 0 = sym e ∙ z in rw y

  pub printed_refusal : (number ≡ 0 → ⊥) → (row : ℕ) → row ≡ o.row → refusal_row number row ≡ printed o
  unfolding printed
  printed_refusal h row r = rw (← e, ← r, ne_eqb number 0 h)
