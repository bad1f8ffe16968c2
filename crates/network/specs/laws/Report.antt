-- THE PROMISE OF A REPORT IS KEPT by the rows as Report defines them, for whatever calls made the network. Assumes nothing.
use Rattle.std.specs.Prelude.{ℕ, zero, suc, ◌+◌, ◌*◌, ◌≤◌, ◌<◌, ◌≡◌, refl, true, false, List, ltb, Float, length, get_or}
use Rattle.std.proofs.Common.{sym, ◌∙◌, ap, arith, add-one, length-append, get_or-append-add, leb-true, le-leb, ltb-true, ltb-false, eq-eqb}
use Rattle.std.specs.Float.{nan}
use Rattle.std.proofs.Math.ListN.{get_or-append}
use Rattle.std.proofs.lemmas.List.Edits.{sets}
use Rattle.std.proofs.lemmas.Bool.{lt-leb}
use Rattle.network.specs.declared.query.Amperes.{Amperes}
use Rattle.network.specs.Network.{Network}
use Rattle.network.specs.Grounds.{run}
use Rattle.network.specs.Demand.{Demand}
use Rattle.network.specs.NearPeaks.{NearPeaks, NearReport}
use Rattle.network.specs.Promise.{machines_of}
use Rattle.network.specs.Tables.{laid_over, table_after}
use Rattle.network.specs.Report.{report_grounds, report_number, row_in, reported_at, row_numbers, rows_numbers, reported, ReportHolds, ReportPromise}
use Rattle.network.specs.laws.Acceptance.{test_of, ground}
use Rattle.network.specs.laws.AcceptedRecords.{closed_source}
use Rattle.network.specs.laws.Alike.{machines_alike}
use Rattle.network.specs.laws.Arrays.{sets_append}
use Rattle.network.specs.laws.Claim.{demand, near_peaks}
use Rattle.network.specs.laws.Rebuilt.{Rebuilt, run_rebuilt}
use Rattle.network.specs.laws.Tables.{laid_at, laid_length, laid_beyond}
use Rattle.network.specs.laws.Tests.{by_test}

-- ---- rows of six numbers, one after the other
pub rows_length : (row : ℕ → Amperes) (k : ℕ) → length (rows_numbers row k) ≡ 6 * k
unfolding rows_numbers
rows_length row zero = refl
rows_length row (suc k) = length-append (rows_numbers row k) (row_numbers (row k)) ∙ omega (arith, rows_length row k)

-- as a loop lays them: one row more
pub rows_more : (row : ℕ → Amperes) (k : ℕ) (lent table : List Float) → table ≡ sets lent 0 (rows_numbers row k)
    → sets table (6 * k) (row_numbers (row k)) ≡ sets lent 0 (rows_numbers row (k + 1))
unfolding rows_numbers
rows_more row k lent table e =
    let n : 0 + length (rows_numbers row k) ≡ 6 * k = omega (arith, rows_length row k) in
    rw (add-one k) (sym (sets_append lent 0 (rows_numbers row k) (row_numbers (row k)) ∙ rw (n, e)))

-- the number at place i of row b
row_number : (row : ℕ → Amperes) (k b i : ℕ) → b < k → i < 6 → get_or (rows_numbers row k) (6 * b + i) nan ≡ get_or (row_numbers (row b)) i nan
unfolding rows_numbers
row_number row zero b i h l = absurd (omega arith)
row_number row (suc k) b i h l =
    by_test (ltb b k)
    (λ t.
    let m = ltb-true b k t in
    get_or-append (rows_numbers row k) (row_numbers (row k)) nan (6 * b + i) (omega (arith, rows_length row k))
    ∙ row_number row k b i m l)
    (λ t.
    let e : b ≡ k = omega (arith, ltb-false b k t) in
    let n : 6 * b + i ≡ length (rows_numbers row k) + i = omega (arith, rows_length row k) in
    rw n (get_or-append-add (rows_numbers row k) (row_numbers (row k)) i nan) ∙ ap (λ (c : ℕ). get_or (row_numbers (row c)) i nan) (sym e))

-- THE ROW OF A BUS in the table over which they are laid
row_laid : (row : ℕ → Amperes) (k : ℕ) (lent : List Float) → 6 * k ≤ length lent → (b : ℕ) → b < k → row_in (laid_over (rows_numbers row k) lent) b ≡ row b
row_laid row k lent room b h =
    let at : (i : ℕ) → i < 6 → get_or (laid_over (rows_numbers row k) lent) (6 * b + i) nan ≡ get_or (row_numbers (row b)) i nan =
    λ i l. laid_at (rows_numbers row k) lent (6 * b + i) (omega (arith, rows_length row k)) ∙ row_number row k b i h l in
    let z : 6 * b + 0 ≡ 6 * b = omega arith in
    let first : get_or (laid_over (rows_numbers row k) lent) (6 * b) nan ≡ get_or (row_numbers (row b)) 0 nan = rw (← z) (at 0 (omega arith)) in
    rw (first, at 1 (omega arith), at 2 (omega arith), at 3 (omega arith), at 4 (omega arith), at 5 (omega arith))

-- ---- of a closed network
module _ {n : Network} (r : Rebuilt n) (c : n.closed ≡ true) where
  -- what a report gives at a bus keeps demand 3
  pub row_demand : (b : ℕ) → b < length n.buses → Demand n b (reported_at n b)
  row_demand b l = demand r (closed_source r c) b l

  module _ (lent : List Float) (room : 6 * length n.buses ≤ length lent) where
    table_row : (b : ℕ) → b < length n.buses → row_in (laid_over (reported n) lent) b ≡ reported_at n b
    table_row b l = row_laid (reported_at n) (length n.buses) lent room b l

    pub report_holds : ReportHolds n lent (laid_over (reported n) lent)
    report_holds = record {
      rows = λ b l. rw (table_row b l) (row_demand b l);
      same = λ b l ds d a. ap machines_of (table_row b l) ∙ machines_alike n (run ds) a b;
      beyond = (laid_length (reported n) lent (omega (arith, count)), laid_beyond (reported n) lent (6 * length n.buses) (sym count));
    }
      where
        count : length (reported n) ≡ 6 * length n.buses
        count = rows_length (reported_at n) (length n.buses)

    pub near_holds : (b : ℕ) → b < length n.buses → NearPeaks n b (row_in (laid_over (reported n) lent) b)
    near_holds b l = rw (table_row b l) (near_peaks r (closed_source r c) b l)

-- ---- what an accepted report has passed
passed : (n : Network) (room k : ℕ) → report_number n room ≡ 0 → test_of (report_grounds n room) k ≡ true
unfolding report_number
passed n room k e = ground (report_grounds n room) k refl e

pub report_room : (n : Network) (room : ℕ) → report_number n room ≡ 0 → 6 * length n.buses ≤ room
report_room n room e = leb-true _ _ (passed n room 33 e)

-- THE PROMISE IS KEPT
pub report_kept : (n : Network) (lent : List Float) → ReportPromise n lent (table_after (report_number n (length lent)) (reported n) lent)
unfolding table_after
report_kept n lent cs q e =
    rw (eq-eqb (report_number n (length lent)) 0 e)
    (report_holds (rw q (run_rebuilt cs)) (passed n (length lent) 22 e) lent (report_room n (length lent) e))

pub near_report_kept : (n : Network) (lent : List Float) → NearReport n lent (table_after (report_number n (length lent)) (reported n) lent)
unfolding table_after
near_report_kept n lent cs q e b l =
    rw (eq-eqb (report_number n (length lent)) 0 e)
    (near_holds (rw q (run_rebuilt cs)) (passed n (length lent) 22 e) lent (report_room n (length lent) e) b l)

-- ---- the number of a report in each of its cases
pub report_open : (n : Network) (room : ℕ) → n.closed ≡ false → 22 ≡ report_number n room
unfolding report_number
report_open n room e = rw e

pub report_short : (n : Network) (room : ℕ) → n.closed ≡ true → room < 6 * length n.buses → 33 ≡ report_number n room
unfolding report_number
report_short n room e h = rw (e, lt-leb _ _ h)

pub report_accepted : (n : Network) (room : ℕ) → n.closed ≡ true → 6 * length n.buses ≤ room → 0 ≡ report_number n room
unfolding report_number
report_accepted n room e h = rw (e, le-leb _ _ h)

-- the rows of an accepted report, whatever the table was
pub report_rows : (n : Network) (lent table : List Float) (number : ℕ) → number ≡ report_number n (length lent) → table ≡ table_after number (reported n) lent
    → n.closed ≡ true → 6 * length n.buses ≤ length lent → (b : ℕ) → b < length n.buses → row_in table b ≡ reported_at n b
unfolding table_after
report_rows n lent table number e t c room b l =
    let z : number ≡ 0 = e ∙ sym (report_accepted n (length lent) c room) in
    let u : table ≡ laid_over (reported n) lent = t ∙ rw (eq-eqb number 0 z) in
    ap (λ (x : List Float). row_in x b) u ∙ row_laid (reported_at n) (length n.buses) lent room b l
