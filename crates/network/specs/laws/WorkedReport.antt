-- What the promises of a query and of a report say of document 01's worked network, to the ampere. At bus 0 both ends of each range keep
-- them, and nothing beyond does. Each hypothesis of a promise is met here, so that none is one that never holds. Assumes nothing.
use Rattle.std.specs.Prelude.{ℕ, ◌*◌, ◌-◌, ◌≤◌, ◌<◌, ◌≡◌, List, Float, length, get_or}
use Rattle.std.proofs.Math.Path.{refl}
use Rattle.std.proofs.Common.{sym, ◌∙◌, arith, leb→le, ltb→lt, lit<}
use Rattle.std.specs.Float.{nan}
use Rattle.enclosure.specs.Exact.{inverse, root_of, root_up}
use Rattle.elements.specs.Factors.{t_over, t_under, numerator, denominator, factor_c, sine_of, split_of}
use Rattle.elements.specs.Peak.{PeakBound, NearPeak, peak_over, peak_under, crest}
use Rattle.elements.specs.Impedance.{line, split, feeder, generator, converter}
use Rattle.tree.specs.Grid.{joined, neighbour, through, seen, across, carried_without}
use Rattle.network.specs.declared.query.Found.{Found}
use Rattle.network.specs.SourceKinds.{impedance_of}
use Rattle.network.specs.Grid.{branch_of, above_of, below_of, impedance_at, converters_at}
use Rattle.network.specs.Demand.{Figures, WholeAmperes, driving, MachinesHold, ConvertersHold}
use Rattle.network.specs.Promise.{machines_of, Promise}
use Rattle.network.specs.NearPeaks.{MachinePeak, ConverterPeak, NearPromise, NearReport}
use Rattle.network.specs.Report.{report_number, row_in, reported_at, ReportHolds, ReportPromise}
use Rattle.network.specs.laws.Figures.{figures_one}
use Rattle.network.specs.laws.Tables.{number_beyond}
use Rattle.network.specs.laws.Worked.{two, two_calls, two_made, bare, bare_calls, bare_made, told, below_next, above_last, peak_above, near_few, lower_most, upper_least, peak_least, peak_most, converters_lower_law, converters_upper_law, converters_peak_least, converters_peak_most}

-- WHAT DEMAND 3 LEAVES OPEN at bus 0, to the ampere
pub record Ranges (f : Figures) : Type 0 where
  -- "I at bus 0 is between 7,698 and 7,699."; at most 2 A plus a thousandth of the upper apart
  pub lower : (7690 ≤ f.lower) × (f.lower ≤ 7698)
  pub upper : (7699 ≤ f.upper) × (f.upper ≤ 7707)
  -- "200 A more"
  pub converters_lower : (198 ≤ f.converters_lower) × (f.converters_lower ≤ 200)
  pub converters_upper : (200 ≤ f.converters_upper) × (f.converters_upper ≤ 202)
  -- the exact peaks are 21,773.24 A and 282.84 A; no lower, and at most 2 % plus 4 A above
  pub peak : (21774 ≤ f.peak) × (f.peak ≤ 22212)
  pub converters_peak : (283 ≤ f.converters_peak) × (f.converters_peak ≤ 292)

-- at bus 1 Z is 1.1 Ω, and I 5,773.50 A
pub record SecondRanges (f : Figures) : Type 0 where
  pub lower : f.lower ≤ 5773
  pub upper : 5774 ≤ f.upper

-- WHAT THE NEARER PEAKS LEAVE OPEN at bus 0: at most 0.15 % plus 1 A above the exact one, and a hundred-millionth plus 1 A
pub record NearRanges (f : Figures) : Type 0 where
  pub peak : (21774 ≤ f.peak) × (f.peak ≤ 21806)
  pub converters_peak : f.converters_peak ≡ 283

-- "Which bounds are given is free inside demand 3.": both ends of each range are inside
pub record Ends : Type 0 where
  pub machines_least : MachinesHold (driving two 0) (impedance_at two 0) 7690 7699 21774
  pub machines_most : MachinesHold (driving two 0) (impedance_at two 0) 7698 7707 22212
  pub converters_least : ConvertersHold (converters_at two 0) 198 200 283
  pub converters_most : ConvertersHold (converters_at two 0) 200 202 292
  pub near_least : MachinePeak (driving two 0) (impedance_at two 0) 21774
  pub near_most : MachinePeak (driving two 0) (impedance_at two 0) 21806
  pub near_converters : ConverterPeak (converters_at two 0) 283

bound_of : (n e v : ℕ) → e ≤ n * n * v → 10000 * ((n - 4) * (n - 4)) * v ≤ 10404 * e → PeakBound n e v
bound_of n e v l h = record { no_lower = l; near = λ m q. let z : m ≡ n - 4 = omega arith in rw z h }

near_of : (over under n e v : ℕ) → e ≤ n * n * v → under * under * ((n - 1) * (n - 1)) * v ≤ over * over * e → NearPeak over under n e v
near_of over under n e v l h = record { no_lower = l; near = λ m q. let z : m ≡ n - 1 = omega arith in rw z h }

pub ends : Ends
unfolding seen through joined neighbour inverse branch_of above_of below_of impedance_of line feeder split generator split_of root_of sine_of root_up factor_c peak_over peak_under crest t_over t_under numerator denominator carried_without across converter
ends = record {
  machines_least = record { proper = ltb→lt _ _ tt; reactive = ltb→lt _ _ tt; below = leb→le _ _ tt; above = leb→le _ _ tt; narrow = leb→le _ _ tt; crest = bound_of _ _ _ (leb→le _ _ tt) (leb→le _ _ tt) };
  machines_most = record { proper = ltb→lt _ _ tt; reactive = ltb→lt _ _ tt; below = leb→le _ _ tt; above = leb→le _ _ tt; narrow = leb→le _ _ tt; crest = bound_of _ _ _ (leb→le _ _ tt) (leb→le _ _ tt) };
  converters_least = record { proper = ltb→lt _ _ tt; real = refl; below = leb→le _ _ tt; above = leb→le _ _ tt; narrow = leb→le _ _ tt; crest = bound_of _ _ _ (leb→le _ _ tt) (leb→le _ _ tt) };
  converters_most = record { proper = ltb→lt _ _ tt; real = refl; below = leb→le _ _ tt; above = leb→le _ _ tt; narrow = leb→le _ _ tt; crest = bound_of _ _ _ (leb→le _ _ tt) (leb→le _ _ tt) };
  near_least = near_of _ _ _ _ _ (leb→le _ _ tt) (leb→le _ _ tt);
  near_most = near_of _ _ _ _ _ (leb→le _ _ tt) (leb→le _ _ tt);
  near_converters = near_of _ _ _ _ _ (leb→le _ _ tt) (leb→le _ _ tt);
}

-- ---- nothing beyond them is
ranges : (f : Figures) → MachinesHold (driving two 0) (impedance_at two 0) f.lower f.upper f.peak
    → ConvertersHold (converters_at two 0) f.converters_lower f.converters_upper f.converters_peak → Ranges f
ranges f m c = record {
  lower = (omega (arith, upper_least f m c, m.narrow), omega (arith, lower_most f m c));
  upper = (omega (arith, upper_least f m c), omega (arith, lower_most f m c, m.narrow));
  converters_lower = (omega (arith, converters_upper_law f m c, c.narrow), converters_lower_law f m c);
  converters_upper = (converters_upper_law f m c, omega (arith, converters_lower_law f m c, c.narrow));
  peak = (omega (arith, peak_least f m c), omega (arith, peak_most f m c));
  converters_peak = (omega (arith, converters_peak_least f m c), omega (arith, converters_peak_most f m c));
}

second_ranges : (f : Figures) → MachinesHold (driving two 1) (impedance_at two 1) f.lower f.upper f.peak → SecondRanges f
unfolding seen through joined neighbour inverse branch_of above_of below_of impedance_of line feeder split generator split_of root_of sine_of root_up factor_c
second_ranges f m =
    let l : f.lower < 5774 = below_next _ _ f.lower 5774 m.below (ltb→lt _ _ tt) in
    let u : 5773 < f.upper = above_last _ _ f.upper 5773 m.above (ltb→lt _ _ tt) in
    record { lower = omega (arith, l); upper = omega (arith, u) }

module _ (f : Figures) (m : MachinePeak (driving two 0) (impedance_at two 0) f.peak) (c : ConverterPeak (converters_at two 0) f.converters_peak) where
  near_least : 21773 < f.peak
  unfolding seen through joined neighbour inverse branch_of above_of below_of impedance_of line feeder split generator split_of root_of sine_of root_up factor_c peak_over peak_under crest t_over t_under numerator denominator
  near_least = peak_above f.peak _ _ 21773 m.no_lower (ltb→lt _ _ tt)

  near_most : f.peak < 21807
  unfolding seen through joined neighbour inverse branch_of above_of below_of impedance_of line feeder split generator split_of root_of sine_of root_up factor_c peak_over peak_under crest t_over t_under numerator denominator
  near_most = near_few 10015 10000 f.peak _ _ 21806 m (ltb→lt _ _ tt)

  near_converters_least : 282 < f.converters_peak
  unfolding carried_without across joined neighbour above_of below_of converter
  near_converters_least = peak_above f.converters_peak _ _ 282 c.no_lower (ltb→lt _ _ tt)

  near_converters_most : f.converters_peak < 284
  unfolding carried_without across joined neighbour above_of below_of converter
  near_converters_most = near_few 100000001 100000000 f.converters_peak _ _ 283 c (ltb→lt _ _ tt)

  near_ranges : NearRanges f
  near_ranges = record { peak = (omega (arith, near_least), omega (arith, near_most)); converters_peak = omega (arith, near_converters_least, near_converters_most) }

-- ---- WHOEVER ANSWERS A QUERY, by the promise alone
query_told : (f : Found) → Promise two 0 f → (g : Figures) → WholeAmperes f.amperes g → Ranges g
query_told f p g w =
    let d = (told f p).demand in
    rw (figures_one f.amperes g d.figures w d.whole) (ranges d.figures d.machines d.converters)

second_told : (f : Found) → Promise two 1 f → (g : Figures) → WholeAmperes f.amperes g → SecondRanges g
second_told f p g w =
    let d = (p two_calls (sym two_made) refl (lit< tt)).demand in
    rw (figures_one f.amperes g d.figures w d.whole) (second_ranges d.figures d.machines)

near_told : (f : Found) → NearPromise two 0 f → (g : Figures) → WholeAmperes f.amperes g → NearRanges g
near_told f p g w =
    let d = p two_calls (sym two_made) refl (lit< tt) in
    rw (figures_one f.amperes g d.figures w d.whole) (near_ranges d.figures d.machines d.converters)

-- ---- WHOEVER REPORTS ITS TWO BUSES into a table of 13 numbers, by the promise alone
pub record Rows (lent table : List Float) : Type 0 where
  -- "Every row meets demand 3 as a single query does, the peaks .."
  pub first : (g : Figures) → WholeAmperes (row_in table 0) g → Ranges g
  pub second : (g : Figures) → WholeAmperes (row_in table 1) g → SecondRanges g
  -- ".. and the sameness for networks alike in all but their converters included": with the converter and without it
  pub same : (b : ℕ) → b < 2 → machines_of (row_in table b) ≡ machines_of (reported_at bare b)
  -- "Numbers beyond the last bus's row are kept.": the 13th
  pub beyond : (length table ≡ 13) × (get_or table 12 nan ≡ get_or lent 12 nan)

module _ (lent table : List Float) (thirteen : length lent ≡ 13) where
  accepted : report_number two (length lent) ≡ 0
  unfolding report_number
  accepted = rw thirteen refl

  report_told : ReportPromise two lent table → Rows lent table
  report_told p = record {
    first = λ g w.
        let d = holds.rows 0 (lit< tt) in
        rw (figures_one (row_in table 0) g d.figures w d.whole) (ranges d.figures d.machines d.converters);
    second = λ g w.
        let d = holds.rows 1 (lit< tt) in
        rw (figures_one (row_in table 1) g d.figures w d.whole) (second_ranges d.figures d.machines);
    same = λ b l. rw bare_made at (holds.same b l bare_calls (rw bare_made refl) (rw bare_made (record { tolerance = refl; buses = refl; others = refl })));
    beyond = (holds.beyond.0 ∙ thirteen, number_beyond 12 table lent holds.beyond.1);
  }
    where
      holds : ReportHolds two lent table
      holds = p two_calls (sym two_made) accepted

  near_rows_told : NearReport two lent table → (g : Figures) → WholeAmperes (row_in table 0) g → NearRanges g
  near_rows_told p g w =
      let d = p two_calls (sym two_made) accepted 0 (lit< tt) in
      rw (figures_one (row_in table 0) g d.figures w d.whole) (near_ranges d.figures d.machines d.converters)

-- WHAT THE PROMISES SAY OF DOCUMENT 01'S WORKED NETWORK, as one table
pub record Told : Type 0 where
  -- "Z is 0.825 Ω at bus 0 and 1.1 Ω at bus 1.": demand 3 of a query there
  pub query : (f : Found) → Promise two 0 f → (g : Figures) → WholeAmperes f.amperes g → Ranges g
  pub query_second : (f : Found) → Promise two 1 f → (g : Figures) → WholeAmperes f.amperes g → SecondRanges g
  -- beside demand 3
  pub query_near : (f : Found) → NearPromise two 0 f → (g : Figures) → WholeAmperes f.amperes g → NearRanges g
  -- "one call fills a lent table, six amperes a bus from bus 0 up"
  pub report : (lent table : List Float) → length lent ≡ 13 → ReportPromise two lent table → Rows lent table
  pub report_near : (lent table : List Float) → length lent ≡ 13 → NearReport two lent table → (g : Figures) → WholeAmperes (row_in table 0) g → NearRanges g

pub told_all : Told
told_all = record { query = query_told; query_second = second_told; query_near = near_told; report = report_told; report_near = near_rows_told }
