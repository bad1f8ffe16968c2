-- THE ANSWER TO `report`: the decimals of an accepted call are those of the six whole numbers of each bus that keep demand 3, from bus 0 up,
-- and behind these stand the numbers as they were lent. Assumes nothing.
use Rattle.std.specs.Prelude.{◌≡◌, Bool, true, false, List, [], ◌∷◌, ◌++◌, drop, ltb, Float, ℕ, zero, suc, ◌+◌, ◌*◌, ◌≤◌, ◌<◌}
use Rattle.std.proofs.Common.{sym, ◌∙◌, append-nil, append_assoc, take-append-drop, drop-cons, ltb-true, ltb-false, arith}
use Rattle.std.proofs.Math.Path.{refl, ap}
use Rattle.std.proofs.Math.ListN.{length, take}
use Rattle.std.proofs.Math.Seq.{take-add}
use Rattle.std.specs.Float.{nan}
use Rattle.network.specs.Network.{Network}
use Rattle.network.specs.Demand.{Figures, WholeAmperes}
use Rattle.network.specs.Report.{row_in, row_numbers, ReportHolds}
use Rattle.printing.specs.Printed.{decimal, amperes_text}
use Rattle.printing.specs.laws.Printed.{figures_text}
use Rattle.printing.specs.laws.WholePrinted.{amperes_printed}
use Rattle.reader.specs.File.{lf}
use Rattle.console.specs.Answers.{numbers_text, report_line}
use Rattle.console.specs.laws.Answers.{numbers_both}

-- six whole numbers for each of the first buses
unfoldable pub rows_text : (ℕ → Figures) → ℕ → List ℕ
rows_text figures zero = []
rows_text figures (suc b) = rows_text figures b ++ figures_text (figures b)

-- the six numbers of a row
row_at : (table : List Float) (b : ℕ) → 6 * b + 5 < length table → take 6 (drop (6 * b) table) ≡ row_numbers (row_in table b)
row_at table b h =
    let e1 : 6 * b + 1 ≡ suc (6 * b) = omega arith in
    let e2 : 6 * b + 2 ≡ suc (suc (6 * b)) = omega arith in
    let e3 : 6 * b + 3 ≡ suc (suc (suc (6 * b))) = omega arith in
    let e4 : 6 * b + 4 ≡ suc (suc (suc (suc (6 * b)))) = omega arith in
    let e5 : 6 * b + 5 ≡ suc (suc (suc (suc (suc (6 * b))))) = omega arith in
    rw (e1, e2, e3, e4, e5, drop-cons table (6 * b) nan (omega arith), drop-cons table (suc (6 * b)) nan (omega arith), drop-cons table (suc (suc (6 * b))) nan (omega arith), drop-cons table (suc (suc (suc (6 * b)))) nan (omega arith), drop-cons table (suc (suc (suc (suc (6 * b))))) nan (omega arith), drop-cons table (suc (suc (suc (suc (suc (6 * b)))))) nan (omega arith))

row_text_law : (table : List Float) (b : ℕ) → numbers_text (row_numbers (row_in table b)) ≡ amperes_text (row_in table b)
unfolding numbers_text amperes_text
row_text_law table b = simp (append-nil, append_assoc)

module _ (n : Network) (lent table : List Float) (h : ReportHolds n lent table) (room : 6 * length n.buses ≤ length lent) where
  -- the six whole numbers of bus b by the promise; by whether there is such a bus, and zeros where there is none
  abbrev pub figures_if : (b : ℕ) (t : Bool) → ltb b (length n.buses) ≡ t → Figures
  figures_if b true e = (h.rows b (ltb-true b (length n.buses) e)).figures
  figures_if b false e = record { lower = 0; upper = 0; converters_lower = 0; converters_upper = 0; peak = 0; converters_peak = 0 }

  abbrev pub promised_figures : ℕ → Figures
  promised_figures b = figures_if b (ltb b (length n.buses)) refl

  whole : (b : ℕ) → b < length n.buses → WholeAmperes (row_in table b) (promised_figures b)
  whole b l = go (ltb b (length n.buses)) refl
    where
      go : (t : Bool) (e : ltb b (length n.buses) ≡ t) → WholeAmperes (row_in table b) (figures_if b t e)
      go true e = (h.rows b (ltb-true b (length n.buses) e)).whole
      go false e = absurd (let m = ltb-false b (length n.buses) e in omega arith)

  first_rows : (k : ℕ) → k ≤ length n.buses → numbers_text (take (6 * k) table) ≡ rows_text promised_figures k
  unfolding numbers_text rows_text
  first_rows zero l = refl
  first_rows (suc k) l =
      let t : 6 * suc k ≡ 6 * k + 6 = omega arith in
      let long : length table ≡ length lent = h.beyond.0 in
      let row = ap numbers_text (row_at table k (omega arith)) ∙ row_text_law table k ∙ amperes_printed (row_in table k) (promised_figures k) (whole k (omega arith)) in
      ap numbers_text (ap (λ (i : ℕ). take i table) t ∙ take-add (6 * k) 6 table)
      ∙ numbers_both (take (6 * k) table) (take 6 (drop (6 * k) table))
      ∙ rw (row, first_rows k (omega arith))

  -- what `report` promises of an accepted call
  pub report_line_holds : report_line 0 table ≡ decimal 0 ++ (rows_text promised_figures (length n.buses) ++ numbers_text (drop (6 * length n.buses) lent)) ++ (lf ∷ [])
  unfolding report_line
  report_line_holds =
      let m = 6 * length n.buses in
      let all = ap numbers_text (sym (take-append-drop m table)) ∙ numbers_both (take m table) (drop m table) in
      rw (all, first_rows (length n.buses) (omega arith), h.beyond.1)
