-- The rows that the program prints, by document 01, "The file".
use Rattle.std.specs.Prelude.{ℕ, zero, suc, cond, List, [], ◌∷◌, ◌++◌, eqb, length}
use Rattle.network.specs.declared.query.Amperes.{Amperes}
use Rattle.network.specs.declared.query.Verdict.{Verdict}
use Rattle.printing.specs.Printed.{decimal, next_text, amperes_text, letter_text}
use Rattle.network.specs.Network.{Network, bus_at}
use Rattle.network.specs.Doubles.{rated_verdict}
use Rattle.network.specs.Report.{reported_at}
use Rattle.reader.specs.File.{cr, lf, Outcome}

abbrev pub crlf : List ℕ
crlf = cr ∷ lf ∷ []

-- the bytes of `refused`
abbrev pub refused : List ℕ
refused = 114 ∷ 101 ∷ 102 ∷ 117 ∷ 115 ∷ 101 ∷ 100 ∷ []

-- "its number, the six amperes as plain decimal integers, W, O or C (within, over, close), comma separated, CRLF"
unfoldable pub bus_row : ℕ → Amperes → Verdict → List ℕ
bus_row bus a v = decimal bus ++ amperes_text a ++ letter_text v ++ crlf

-- "`refused,number,row` and CRLF"
unfoldable pub refusal_row : ℕ → ℕ → List ℕ
refusal_row number row = refused ++ next_text number ++ next_text row ++ crlf

-- "per bus, from 0 up": the row of bus b of a network, with what a report gives there and the verdict on it; those of the first k buses, and
-- of all
abbrev pub row_text : Network → ℕ → List ℕ
row_text n b = bus_row b (reported_at n b) (rated_verdict (bus_at n.buses b) (reported_at n b))

unfoldable pub rows_text : Network → ℕ → List ℕ
rows_text n zero = []
rows_text n (suc k) = rows_text n k ++ row_text n k

abbrev pub board_text : Network → List ℕ
board_text n = rows_text n (length n.buses)

-- what is printed of a text that is read: its board, or its refusal
unfoldable pub printed : Outcome → List ℕ
printed o = cond (eqb o.number 0) (board_text o.network) (refusal_row o.number o.row)
