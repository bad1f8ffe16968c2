-- THE PRINTED ROW, from the bytes of a file: the decimals that the program prints of a bus are those of six whole numbers that keep demand
-- 3 for the network of the file's rows, and the letter is that of document 01's verdict on them. Assumes nothing.
use Rattle.std.specs.Prelude.{ℕ, ◌<◌, ◌≡◌, List, ◌++◌, length}
use Rattle.std.proofs.Common.{◌∙◌, ap}
use Rattle.network.specs.declared.query.Amperes.{Amperes}
use Rattle.network.specs.declared.query.Verdict.{Verdict}
use Rattle.network.specs.Network.{Network, bus_at}
use Rattle.network.specs.Doubles.{rated_verdict}
use Rattle.network.specs.Grounds.{run}
use Rattle.network.specs.laws.Rebuilt.{Rebuilt, run_rebuilt}
use Rattle.network.specs.Demand.{Figures, WholeAmperes, Demand, verdict_at}
use Rattle.network.specs.Report.{reported_at}
use Rattle.network.specs.laws.Promise.{verdict_rated}
use Rattle.network.specs.laws.Report.{row_demand}
use Rattle.printing.specs.Printed.{decimal, letter_text}
use Rattle.printing.specs.laws.Printed.{figures_text}
use Rattle.printing.specs.laws.WholePrinted.{amperes_printed}
use Rattle.reader.specs.File.{read_of, calls}
use Rattle.reader.specs.laws.FileAsCalls.{read_run, read_closed}
use Rattle.noldveig.specs.Rows.{crlf, bus_row, row_text}

-- the row of a bus by six whole numbers: number,lower,upper,lower,upper,peak,peak,letter and CRLF
abbrev pub figures_row : ℕ → Figures → Verdict → List ℕ
figures_row bus f v = decimal bus ++ figures_text f ++ letter_text v ++ crlf

-- what a row says of bus b of a network: it prints the six numbers of demand 3
pub record RowHolds (n : Network) (b : ℕ) (a : Amperes) (row : List ℕ) : Type 0 where
  pub demand : Demand n b a
  pub printed : row ≡ figures_row b demand.figures (verdict_at n b demand.figures)

-- amperes that are whole numbers are printed as these
pub row_printed : (bus : ℕ) (a : Amperes) (f : Figures) (v : Verdict) → WholeAmperes a f → bus_row bus a v ≡ figures_row bus f v
unfolding bus_row
row_printed bus a f v w = rw (amperes_printed a f w)

-- FROM THE BYTES TO THE ROW: what the program prints of bus b of an accepted text
pub row_holds : (text : List ℕ) → (read_of text).number ≡ 0 → (b : ℕ) → b < length (read_of text).network.buses
    → RowHolds (run (calls text)) b (reported_at (read_of text).network b) (row_text (read_of text).network b)
row_holds text e b l = rw (← read_run text e) held
  where
    n : Network
    n = (read_of text).network

    made : Rebuilt n
    made = rw (read_run text e) (run_rebuilt (calls text))

    held : RowHolds n b (reported_at n b) (row_text n b)
    held =
        let d = row_demand made (read_closed text e) b l in
        record {
          demand = d;
          printed = row_printed b (reported_at n b) d.figures (rated_verdict (bus_at n.buses b) (reported_at n b)) d.whole ∙ ap (figures_row b d.figures) (verdict_rated made b l (reported_at n b) d.figures d.whole);
        }
