-- THE ANSWER TO `query`: for whatever calls made the study, its decimals are those of six whole numbers that keep demand 3, and its letter
-- and its margin or excess are those of document 01's verdict on them. Assumes nothing.
use Rattle.std.specs.Prelude.{ℕ, ◌<◌, ◌≡◌, List, [], ◌∷◌, ◌++◌, length}
use Rattle.std.proofs.Common.{arith}
use Rattle.network.specs.declared.query.Found.{Found}
use Rattle.network.specs.Network.{Network, bus_at}
use Rattle.network.specs.Grounds.{Call, run}
use Rattle.network.specs.laws.Rebuilt.{run_rebuilt}
use Rattle.network.specs.laws.AcceptedRecords.{bus_rating}
use Rattle.network.specs.Demand.{Figures, verdict_at}
use Rattle.network.specs.Promise.{Kept}
use Rattle.printing.specs.Printed.{decimal, next_text, letter_text}
use Rattle.printing.specs.laws.Printed.{figures_text, amount_at}
use Rattle.printing.specs.laws.WholePrinted.{amperes_printed, amount_printed}
use Rattle.reader.specs.File.{lf}
use Rattle.console.specs.Answers.{found_line}

-- the line by six whole numbers, for bus b of a network: 0,lower,upper,lower,upper,peak,peak,letter,amount
abbrev pub figures_line : Network → ℕ → Figures → List ℕ
figures_line n b f = decimal 0 ++ figures_text f ++ letter_text (verdict_at n b f) ++ next_text (amount_at n b f) ++ (lf ∷ [])

-- what `query` promises of a bus that is there
pub line_holds : (cs : List Call) (b : ℕ) → b < length (run cs).buses → (f : Found) (k : Kept (run cs) b f) → found_line f ≡ figures_line (run cs) b k.demand.figures
unfolding found_line
line_holds cs b l f k =
    let g = k.demand.figures in
    let w = k.demand.whole in
    rw (
      k.accepted,
      amperes_printed f.amperes g w,
      k.verdict g w,
      amount_printed f.amperes g w (bus_at (run cs).buses b).rating (bus_at (run cs).buses b).peak_rating (omega (arith, (bus_rating (run_rebuilt cs) b l).1)),
    )
