-- Document 01's worked network of two buses, by computing the definitions; its verdict follows from demand 3 alone.
-- Assumes nothing.
use Rattle.std.specs.Prelude.{ℕ, ◌+◌, ◌*◌, ◌≤◌, ◌<◌, ◌≡◌, refl, true, List, [], ◌∷◌, Float}
use Rattle.std.proofs.Common.{sym, ◌∙◌, ap, lt_of_not-le, eqb→eq, leb→le, le→leb, ltb→lt, lit<, le-ltb, arith}
use Rattle.std.proofs.Math.Nat.{le_dest}
use Rattle.std.proofs.lemmas.Bool.{lt-leb}
use Rattle.algebra.specs.Reading.{from, read, ◌⊹◌, ◌⋆◌}
use Rattle.enclosure.specs.Exact.{inverse, root_of, root_up}
use Rattle.enclosure.specs.laws.Root.{below_of_squares}
use Rattle.elements.specs.Factors.{t_over, t_under, numerator, denominator, factor_c, sine_of, split_of}
use Rattle.elements.specs.Peak.{PeakBound, NearPeak, peak_over, peak_under, crest}
use Rattle.elements.specs.laws.Worked as factors
use Rattle.elements.specs.Impedance.{line, split, feeder, generator, converter}
use Rattle.tree.specs.Grid.{joined, neighbour, through, seen, across, carried_without}
use Rattle.network.specs.declared.study.Bus.{Bus}
use Rattle.network.specs.declared.study.Source.{Source}
use Rattle.network.specs.declared.query.Found.{Found}
use Rattle.network.specs.declared.query.Verdict.TheVariants.{Close}
use Rattle.network.specs.Demand.{verdict_on, Figures, NotAbove, NotBelow, driving, MachinesHold, ConvertersHold}
use Rattle.network.specs.Network.{Network, open_of, closed_as, along}
use Rattle.network.specs.Records.{branch_ok}
use Rattle.network.specs.SourceKinds.{ranges_ok, fields_ok, impedance_of}
use Rattle.network.specs.Grounds.{depth_ok, bus_record_number, bus_number_in, after_bus_in, source_record_number, source_number_in, after_source_in, close_number, after_close, Call, starting, adding_bus, adding_source, closing, run}
use Rattle.network.specs.Grid.{branch_of, above_of, below_of, impedance_at, converters_at}
use Rattle.network.specs.Query.{amperes_given, verdict_given, found_given}
use Rattle.network.specs.Promise.{machines_of, Kept, Promise}
use Rattle.network.specs.laws.Promise.{promised}

-- "Bus 0 at 10,000 V, feeder 100,000 kVA, ρ 0; bus 1 over a line r 0, x 1,000, 1,100 m, 1 circuit; at bus 1 a generator 10,000 V,
-- 10,000 kVA, xd 20,000, ρ 0, power factor 100", "a converter of 1,000 tenths, k 200, at bus 1"; "rating 7,898 with ample peak rating"
abbrev pub first : Bus
first = record { parent = 0; volts = 10000; kind = 0; f1 = 0; f2 = 0; f3 = 0; f4 = 0; f5 = 0; rating = 7898; peak_rating = 3000000 }

abbrev pub second : Bus
second = record { parent = 0; volts = 10000; kind = 1; f1 = 0; f2 = 1000; f3 = 1100; f4 = 1; f5 = 0; rating = 7898; peak_rating = 3000000 }

abbrev pub infeed : Source
infeed = record { kind = 1; bus = 0; f1 = 100000; f2 = 0; f3 = 0; f4 = 0; f5 = 0; low = 0; high = 0; transformer_kva = 0; uk = 0; ur = 0 }

abbrev pub machine : Source
machine = record { kind = 2; bus = 1; f1 = 10000; f2 = 10000; f3 = 20000; f4 = 0; f5 = 100; low = 0; high = 0; transformer_kva = 0; uk = 0; ur = 0 }

abbrev pub solar : Source
solar = record { kind = 4; bus = 1; f1 = 1000; f2 = 200; f3 = 0; f4 = 0; f5 = 0; low = 0; high = 0; transformer_kva = 0; uk = 0; ur = 0 }

abbrev pub two : Network
two = closed_as true (open_of 10 (first ∷ second ∷ []) (infeed ∷ machine ∷ solar ∷ []))

abbrev pub two_calls : List Call
two_calls = starting 10 ∷ adding_bus first ∷ adding_bus second ∷ adding_source infeed ∷ adding_source machine ∷ adding_source solar ∷ closing ∷ []

-- the calls that make it are accepted
pub two_made : run two_calls ≡ two
unfolding run after_bus_in bus_number_in bus_record_number branch_ok depth_ok along after_source_in source_number_in source_record_number ranges_ok fields_ok after_close close_number
two_made = refl

-- the same without the converter
abbrev pub bare : Network
bare = closed_as true (open_of 10 (first ∷ second ∷ []) (infeed ∷ machine ∷ []))

abbrev pub bare_calls : List Call
bare_calls = starting 10 ∷ adding_bus first ∷ adding_bus second ∷ adding_source infeed ∷ adding_source machine ∷ closing ∷ []

pub bare_made : run bare_calls ≡ bare
unfolding run after_bus_in bus_number_in bus_record_number branch_ok depth_ok along after_source_in source_number_in source_record_number ranges_ok fields_ok after_close close_number
bare_made = refl

impedances : ((impedance_at two 0).re ≡ 0) × (1000 * (impedance_at two 0).im ≡ 825 * (impedance_at two 0).den) × ((impedance_at two 1).re ≡ 0) × (10 * (impedance_at two 1).im ≡ 11 * (impedance_at two 1).den)
unfolding seen through joined neighbour inverse branch_of above_of below_of impedance_of line feeder split generator split_of root_of sine_of root_up factor_c
impedances = (
  eqb→eq (impedance_at two 0).re 0 tt,
  eqb→eq (1000 * (impedance_at two 0).im) (825 * (impedance_at two 0).den) tt,
  eqb→eq (impedance_at two 1).re 0 tt,
  eqb→eq (10 * (impedance_at two 1).im) (11 * (impedance_at two 1).den) tt,
)

current : NotAbove (driving two 0) (impedance_at two 0) 7698 × NotBelow (driving two 0) (impedance_at two 0) 7699
unfolding seen through joined neighbour inverse branch_of above_of below_of impedance_of line feeder split generator split_of root_of sine_of root_up factor_c
current = (leb→le _ _ tt, leb→le _ _ tt)

converters : (converters_at two 0).re ≡ 200 * (converters_at two 0).den
unfolding carried_without across joined neighbour above_of below_of converter
converters = eqb→eq (converters_at two 0).re (200 * (converters_at two 0).den) tt

-- ---- the verdict at bus 0 is close, whichever bounds are given inside demand 3
pub below_next : (x n l k : ℕ) → 30000 * (l * l) * n ≤ x → x < 30000 * (k * k) * n → l < k
below_next x n l k h g = below_of_squares l k (lt_of_not-le (λ (q : k * k ≤ l * l). absurd (le→leb 1 0 (from (x ∷ n ∷ l ∷ k ∷ []) (h ⊹ g ⊹ 30000 * n ⋆ q) (search read depth 40 fits 20000) refl))))

pub above_last : (x n u k : ℕ) → x ≤ 30000 * (u * u) * n → 30000 * (k * k) * n < x → k < u
above_last x n u k h g = below_of_squares k u (lt_of_not-le (λ (q : u * u ≤ k * k). absurd (le→leb 1 0 (from (x ∷ n ∷ u ∷ k ∷ []) (h ⊹ g ⊹ 30000 * n ⋆ q) (search read depth 40 fits 20000) refl))))

-- a peak is above whatever is below the exact one, and few amperes above a number that is too far above it
pub peak_above : (n e v k : ℕ) → e ≤ n * n * v → k * k * v < e → k < n
peak_above n e v k h g = below_of_squares k n (lt_of_not-le (λ (q : n * n ≤ k * k). absurd (le→leb 1 0 (from (n ∷ e ∷ v ∷ k ∷ []) (h ⊹ g ⊹ v ⋆ q) (search read depth 40 fits 20000) refl))))

few_above : (under over few n e v k : ℕ) → ((m : ℕ) → m + few ≡ n → under * (m * m) * v ≤ over * e) → over * e < under * (k * k) * v → n < k + few
few_above under over few n e v k near g = lt_of_not-le (λ (l : k + few ≤ n). far (le_dest l).0 (le_dest l).1)
  where
    far : (d : ℕ) → k + few + d ≡ n → ⊥
    far d q = absurd (le→leb 1 0 (from (under ∷ over ∷ d ∷ e ∷ v ∷ k ∷ []) (near (k + d) (omega arith) ⊹ g) (search read depth 40 fits 20000) refl))

peak_few : (n e v k : ℕ) → PeakBound n e v → 10404 * e < 10000 * (k * k) * v → n < k + 4
peak_few n e v k p g = few_above 10000 10404 4 n e v k p.near g

pub near_few : (over under n e v k : ℕ) → NearPeak over under n e v → over * over * e < under * under * (k * k) * v → n < k + 1
near_few over under n e v k p g = few_above (under * under) (over * over) 1 n e v k p.near g

module _ (f : Figures) (m : MachinesHold (driving two 0) (impedance_at two 0) f.lower f.upper f.peak)
    (c : ConvertersHold (converters_at two 0) f.converters_lower f.converters_upper f.converters_peak) where
  pub lower_most : f.lower < 7699
  unfolding seen through joined neighbour inverse branch_of above_of below_of impedance_of line feeder split generator split_of root_of sine_of root_up factor_c
  lower_most = below_next _ _ f.lower 7699 m.below (ltb→lt _ _ tt)

  pub upper_least : 7698 < f.upper
  unfolding seen through joined neighbour inverse branch_of above_of below_of impedance_of line feeder split generator split_of root_of sine_of root_up factor_c
  upper_least = above_last _ _ f.upper 7698 m.above (ltb→lt _ _ tt)

  pub peak_least : 21773 < f.peak
  unfolding seen through joined neighbour inverse branch_of above_of below_of impedance_of line feeder split generator split_of root_of sine_of root_up factor_c peak_over peak_under crest t_over t_under numerator denominator
  peak_least = peak_above f.peak _ _ 21773 m.crest.no_lower (ltb→lt _ _ tt)

  pub peak_most : f.peak < 22213
  unfolding seen through joined neighbour inverse branch_of above_of below_of impedance_of line feeder split generator split_of root_of sine_of root_up factor_c peak_over peak_under crest t_over t_under numerator denominator
  peak_most = peak_few f.peak _ _ 22209 m.crest (ltb→lt _ _ tt)

  -- the numbers are small here, so that they are compared as they are
  pub converters_lower_law : f.converters_lower ≤ 200
  unfolding carried_without across joined neighbour above_of below_of converter
  converters_lower_law = let h = c.below in omega arith

  pub converters_upper_law : 200 ≤ f.converters_upper
  unfolding carried_without across joined neighbour above_of below_of converter
  converters_upper_law = let h = c.above in omega arith

  pub converters_peak_least : 282 < f.converters_peak
  unfolding carried_without across joined neighbour above_of below_of converter
  converters_peak_least = peak_above f.converters_peak _ _ 282 c.crest.no_lower (ltb→lt _ _ tt)

  pub converters_peak_most : f.converters_peak < 293
  unfolding carried_without across joined neighbour above_of below_of converter
  converters_peak_most = peak_few f.converters_peak _ _ 289 c.crest (ltb→lt _ _ tt)

  close : verdict_on f 7898 3000000 ≡ Close
  close =
      rw (
        le-ltb 3000000 (f.peak + f.converters_peak) (omega (arith, peak_most, converters_peak_most)),
        le-ltb 7898 (f.lower + f.converters_lower) (omega (arith, lower_most, converters_lower_law)),
        lt-leb (f.upper + f.converters_upper) 7898 (omega (arith, upper_least, converters_upper_law)),
      )

-- ---- what keeps the promise of a query at bus 0, by that promise alone
module _ (f : Found) (p : Promise two 0 f) where
  pub told : Kept two 0 f
  told = p two_calls (sym two_made) refl (lit< tt)

  told_close : f.verdict ≡ Close
  told_close =
      let d = told.demand in
      told.verdict d.figures d.whole ∙ close d.figures d.machines d.converters

  -- the machines' figures are those of the network without the converter
  told_same : machines_of f.amperes ≡ machines_of (amperes_given bare 0)
  told_same = rw bare_made at (told.same bare_calls (rw bare_made refl) (rw bare_made (record { tolerance = refl; buses = refl; others = refl })))

-- and so by what a query gives
two_promised : Promise two 0 (found_given two 0)
two_promised = promised two 0 (found_given two 0) refl

two_close : verdict_given two 0 ≡ Close
unfolding found_given
two_close = told_close (found_given two 0) two_promised

two_same : machines_of (amperes_given two 0) ≡ machines_of (amperes_given bare 0)
unfolding found_given
two_same = told_same (found_given two 0) two_promised

two_same_each : ((amperes_given two 0).lower.0 ≡ (amperes_given bare 0).lower.0) × ((amperes_given two 0).upper.0 ≡ (amperes_given bare 0).upper.0) × ((amperes_given two 0).peak.0 ≡ (amperes_given bare 0).peak.0)
two_same_each = (ap (λ (m : Float × Float × Float). m.0) two_same, ap (λ (m : Float × Float × Float). m.1) two_same, ap (λ (m : Float × Float × Float). m.2) two_same)

-- DOCUMENT 01'S STARRED POINTS, as one table
pub record Starred : Type 0 where
  pub factors : factors.Starred
  pub made : run two_calls ≡ two
  -- "Z is 0.825 Ω at bus 0 and 1.1 Ω at bus 1."
  pub impedances : ((impedance_at two 0).re ≡ 0) × (1000 * (impedance_at two 0).im ≡ 825 * (impedance_at two 0).den) × ((impedance_at two 1).re ≡ 0) × (10 * (impedance_at two 1).im ≡ 11 * (impedance_at two 1).den)
  -- "I at bus 0 is between 7,698 and 7,699."
  pub current : NotAbove (driving two 0) (impedance_at two 0) 7698 × NotBelow (driving two 0) (impedance_at two 0) 7699
  -- "200 A more"
  pub converters : (converters_at two 0).re ≡ 200 * (converters_at two 0).den
  -- "networks alike in all but their converters": with the converter and without it
  pub same : machines_of (amperes_given two 0) ≡ machines_of (amperes_given bare 0)
  pub same_each : ((amperes_given two 0).lower.0 ≡ (amperes_given bare 0).lower.0) × ((amperes_given two 0).upper.0 ≡ (amperes_given bare 0).upper.0) × ((amperes_given two 0).peak.0 ≡ (amperes_given bare 0).peak.0)
  -- "rating 7,898 with ample peak rating gives C"
  pub verdict : verdict_given two 0 ≡ Close

pub starred : Starred
starred = record { factors = factors.starred; made = two_made; impedances = impedances; current = current; converters = converters; same = two_same; same_each = two_same_each; verdict = two_close }
