-- What every network that calls can make keeps (`run_rebuilt`), as facts about its numbers. Each law takes the invariant first.
use Rattle.std.specs.Prelude.{◌≡◌, true, not, ◌||◌, ◌⊎◌, ℕ, ◌+◌, ◌*◌, ◌≤◌, ◌<◌, leb, eqb, length}
use Rattle.std.proofs.Common.{inl, inr, arith, leb-true, ltb-true, eqb-true}
use Rattle.std.proofs.lemmas.Bool.{eqb-false}
use Rattle.std.proofs.Math.Path.{refl}
use Rattle.network.specs.declared.study.Bus.{Bus}
use Rattle.network.specs.declared.study.Source.{Source}
use Rattle.network.specs.Records.{in_range, all, line_tests, transformer_tests, branch_ok, rated_ok}
use Rattle.network.specs.SourceKinds.{is_feeder, is_unit, feeder_tests, generator_tests, motor_tests, converter_tests, unit_tests, ranges_ok, no_transformer, fields_ok, is_rated, machine_volts, source_kind_ok}
use Rattle.network.specs.Network.{Network, bus_at, parent_record, source_at, depth_of, transformers_of}
use Rattle.tree.specs.Limits.{max_buses, max_sources, max_branches, max_transformers}
use Rattle.network.specs.Grounds.{depth_ok, bus_grounds, bus_record_number, source_grounds, source_record_number}
use Rattle.network.specs.laws.Tests.{by_test, both_true, where_true, in_range_law, at_zero_law, past_zero, all_true, not_both_zero}
use Rattle.network.specs.laws.Acceptance.{test_of, ground}
use Rattle.network.specs.laws.Rebuilt.{Rebuilt, source_record}

-- ---- ranges of records, as facts
pub record LineRanges (b : Bus) : Type 0 where
  pub r : b.f1 ≤ 100000
  pub x : b.f2 ≤ 100000
  pub ohms : 0 < b.f1 + b.f2
  pub metres : 1 ≤ b.f3
  pub metres_most : b.f3 ≤ 200000
  pub circuits : 1 ≤ b.f4
  pub circuits_most : b.f4 ≤ 8

line_fields : (b : Bus) → all (line_tests b) ≡ true → LineRanges b
line_fields b e =
    let h = all_true (line_tests b) e in
    let m = in_range_law b.f3 1 200000 h.1.1.1.0 in
    let c = in_range_law b.f4 1 8 h.1.1.1.1.0 in
    record {
      r = omega (arith, leb-true);
      x = omega (arith, leb-true);
      ohms = not_both_zero b.f1 b.f2 h.1.1.0;
      metres = m.0;
      metres_most = m.1;
      circuits = c.0;
      circuits_most = c.1;
    }

pub record TransformerRanges (b : Bus) : Type 0 where
  pub k_va : 10 ≤ b.f3
  pub k_va_most : b.f3 ≤ 1000000
  pub uk : 100 ≤ b.f4
  pub uk_most : b.f4 ≤ 30000
  pub u_r : b.f5 < b.f4

transformer_fields : (b : Bus) → all (transformer_tests b) ≡ true → TransformerRanges b
transformer_fields b e =
    let h = all_true (transformer_tests b) e in
    let s = in_range_law b.f3 10 1000000 h.0 in
    let u = in_range_law b.f4 100 30000 h.1.0 in
    record { k_va = s.0; k_va_most = s.1; uk = u.0; uk_most = u.1; u_r = omega (arith, ltb-true) }

-- rated volts from 9/10 to 11/10 of nominal ones
pub record Rated (rated nominal : ℕ) : Type 0 where
  pub least : 9 * nominal ≤ 10 * rated
  pub most : 10 * rated ≤ 11 * nominal

rated_near : (rated nominal : ℕ) → rated_ok rated nominal ≡ true → Rated rated nominal
rated_near v u e =
    let h = both_true (leb (9 * u) (10 * v)) (leb (10 * v) (11 * u)) e in
    record { least = leb-true _ _ h.0; most = leb-true _ _ h.1 }

pub record FeederRanges (p : Source) : Type 0 where
  pub k_va : 1000 ≤ p.f1
  pub k_va_most : p.f1 ≤ 100000000
  pub ratio : p.f2 ≤ 200

feeder_fields : (p : Source) → all (feeder_tests p) ≡ true → FeederRanges p
feeder_fields p e =
    let h = all_true (feeder_tests p) e in
    let s = in_range_law p.f1 1000 100000000 h.0 in
    record { k_va = s.0; k_va_most = s.1; ratio = omega (arith, leb-true) }

pub record GeneratorRanges (p : Source) : Type 0 where
  pub k_va : 10 ≤ p.f2
  pub k_va_most : p.f2 ≤ 1000000
  pub xd : 1000 ≤ p.f3
  pub xd_most : p.f3 ≤ 100000
  pub ratio : p.f4 ≤ 200
  pub power_factor : 70 ≤ p.f5

generator_fields : (p : Source) → all (generator_tests p) ≡ true → GeneratorRanges p
generator_fields p e =
    let h = all_true (generator_tests p) e in
    let s = in_range_law p.f2 10 1000000 h.0 in
    let x = in_range_law p.f3 1000 100000 h.1.0 in
    let c = in_range_law p.f5 70 100 h.1.1.1.0 in
    record { k_va = s.0; k_va_most = s.1; xd = x.0; xd_most = x.1; ratio = omega (arith, leb-true); power_factor = c.0 }

pub record MotorRanges (p : Source) : Type 0 where
  pub k_va : 1 ≤ p.f2
  pub k_va_most : p.f2 ≤ 100000
  pub start : 10 ≤ p.f3
  pub start_most : p.f3 ≤ 100
  pub ratio : p.f4 ≤ 200

motor_fields : (p : Source) → all (motor_tests p) ≡ true → MotorRanges p
motor_fields p e =
    let h = all_true (motor_tests p) e in
    let s = in_range_law p.f2 1 100000 h.0 in
    let a = in_range_law p.f3 10 100 h.1.0 in
    record { k_va = s.0; k_va_most = s.1; start = a.0; start_most = a.1; ratio = omega (arith, leb-true) }

pub record ConverterRanges (p : Source) : Type 0 where
  pub current : 1 ≤ p.f1
  pub current_most_law : p.f1 ≤ 100000
  pub k : 100 ≤ p.f2
  pub k_most : p.f2 ≤ 300

converter_fields : (p : Source) → all (converter_tests p) ≡ true → ConverterRanges p
converter_fields p e =
    let h = all_true (converter_tests p) e in
    let c = in_range_law p.f1 1 100000 h.0 in
    let k = in_range_law p.f2 100 300 h.1.0 in
    record { current = c.0; current_most_law = c.1; k = k.0; k_most = k.1 }

pub record UnitRanges (p : Source) : Type 0 where
  pub k_va : 10 ≤ p.f2
  pub k_va_most : p.f2 ≤ 1000000
  pub xd : 1000 ≤ p.f3
  pub xd_most : p.f3 ≤ 100000
  pub ratio : p.f4 ≤ 200
  pub power_factor : 70 ≤ p.f5
  pub low : 90 ≤ p.low
  pub low_most : p.low ≤ 462000
  pub transformer : 10 ≤ p.transformer_kva
  pub transformer_most : p.transformer_kva ≤ 1000000
  pub uk_most : p.uk ≤ 30000
  pub u_r : p.ur < p.uk

unit_fields : (p : Source) → all (unit_tests p) ≡ true → UnitRanges p
unit_fields p e =
    let h = all_true (unit_tests p) e in
    let s = in_range_law p.f2 10 1000000 h.0 in
    let x = in_range_law p.f3 1000 100000 h.1.0 in
    let c = in_range_law p.f5 70 100 h.1.1.1.0 in
    let v = in_range_law p.low 90 462000 h.1.1.1.1.0 in
    let t = in_range_law p.transformer_kva 10 1000000 h.1.1.1.1.1.0 in
    let u = in_range_law p.uk 100 30000 h.1.1.1.1.1.1.0 in
    record {
      k_va = s.0;
      k_va_most = s.1;
      xd = x.0;
      xd_most = x.1;
      ratio = leb-true p.f4 200 h.1.1.0;
      power_factor = c.0;
      low = v.0;
      low_most = v.1;
      transformer = t.0;
      transformer_most = t.1;
      uk_most = u.1;
      u_r = ltb-true p.ur p.uk h.1.1.1.1.1.1.1.0;
    }

-- ---- the whole network
module _ {n : Network} (r : Rebuilt n) where
  pub few_buses : length n.buses ≤ max_buses
  few_buses = r.bus_room

  pub few_sources : length n.sources ≤ max_sources
  few_sources = r.source_room

  -- "25 closing without a source": a closed network has one
  pub closed_source : n.closed ≡ true → 0 < length n.sources
  closed_source c = r.fed c

-- ---- the record of bus i
module _ {n : Network} (r : Rebuilt n) (i : ℕ) (h : i < length n.buses) where
  -- the test of each ground, by its number
  pub bus_test : (k : ℕ) → test_of (bus_grounds n.buses i) k ≡ true
  unfolding bus_record_number
  bus_test k = ground (bus_grounds n.buses i) k refl (r.bus_records i h)

  pub bus_volts : (100 ≤ (bus_at n.buses i).volts) × ((bus_at n.buses i).volts ≤ 420000)
  bus_volts = in_range_law (bus_at n.buses i).volts 100 420000 (bus_test 2)

  -- "Any other bus names a parent with a smaller number."
  pub bus_parent : 0 < i → (bus_at n.buses i).parent < i
  bus_parent z = ltb-true _ i (past_zero i (eqb (bus_at n.buses i).parent 0) _ (bus_test 3) z)

  pub bus_kind : 0 < i → ((bus_at n.buses i).kind ≡ 1) ⊎ ((bus_at n.buses i).kind ≡ 2)
  bus_kind z =
      let k = (bus_at n.buses i).kind in
      let w = in_range_law k 1 2 (past_zero i (eqb k 0) (in_range k 1 2) (bus_test 4) z) in
      by_test (eqb k 1)
      (λ e. inl (eqb-true k 1 e))
      (λ e. inr (omega (arith, eqb-false k 1 e)))

  -- the branch fields, by the kind
  pub line_ranges : (bus_at n.buses i).kind ≡ 1 → LineRanges (bus_at n.buses i)
  unfolding branch_ok
  line_ranges k = line_fields (bus_at n.buses i) (rw k at (bus_test 5))

  pub transformer_ranges : (bus_at n.buses i).kind ≡ 2 → TransformerRanges (bus_at n.buses i)
  unfolding branch_ok
  transformer_ranges k = transformer_fields (bus_at n.buses i) (rw k at (bus_test 5))

  -- "A line joins equal nominal voltages."
  pub line_volts : (bus_at n.buses i).kind ≡ 1 → (parent_record n.buses i).volts ≡ (bus_at n.buses i).volts
  line_volts k = eqb-true _ _ (rw k at (bus_test 6))

  -- "A rated voltage lies from 9/10 to 11/10 of its bus's Un", on the parent's side and on its own
  pub transformer_volts : (bus_at n.buses i).kind ≡ 2 → Rated (bus_at n.buses i).f1 (parent_record n.buses i).volts × Rated (bus_at n.buses i).f2 (bus_at n.buses i).volts
  transformer_volts k =
      let b = bus_at n.buses i in
      let p = parent_record n.buses i in
      let e = both_true (rated_ok b.f1 p.volts) (rated_ok b.f2 b.volts) (rw k at (bus_test 7)) in
      (rated_near b.f1 p.volts e.0, rated_near b.f2 b.volts e.1)

  -- "At most 18 branches, 4 of them transformers, lead from bus 0 to any bus."
  pub bus_depth : (depth_of n.buses i ≤ max_branches) × (transformers_of n.buses i ≤ max_transformers)
  unfolding depth_ok
  bus_depth =
      let e = both_true (leb (depth_of n.buses i) max_branches) (leb (transformers_of n.buses i) max_transformers) (bus_test 8) in
      (leb-true _ _ e.0, leb-true _ _ e.1)

  pub bus_rating : (1 ≤ (bus_at n.buses i).rating) × ((bus_at n.buses i).rating ≤ 1000000)
  bus_rating =
      let b = bus_at n.buses i in
      in_range_law b.rating 1 1000000 (both_true (in_range b.rating 1 1000000) (in_range b.peak_rating 1 3000000) (bus_test 9)).0

  pub bus_peak_rating : (1 ≤ (bus_at n.buses i).peak_rating) × ((bus_at n.buses i).peak_rating ≤ 3000000)
  bus_peak_rating =
      let b = bus_at n.buses i in
      in_range_law b.peak_rating 1 3000000 (both_true (in_range b.rating 1 1000000) (in_range b.peak_rating 1 3000000) (bus_test 9)).1

-- ---- the record of the source at place j
module _ {n : Network} (r : Rebuilt n) (j : ℕ) (h : j < length n.sources) where
  pub source_test : (k : ℕ) → test_of (source_grounds n.buses j (source_at n.sources j)) k ≡ true
  unfolding source_record_number
  source_test k = ground (source_grounds n.buses j (source_at n.sources j)) k refl (source_record r j h)

  pub source_kind_ok_law : source_kind_ok (source_at n.sources j) ≡ true
  source_kind_ok_law = source_test 10

  pub source_kind : (1 ≤ (source_at n.sources j).kind) × ((source_at n.sources j).kind ≤ 5)
  source_kind = in_range_law (source_at n.sources j).kind 1 5 source_kind_ok_law

  pub source_bus : (source_at n.sources j).bus < length n.buses
  source_bus = ltb-true _ _ (source_test 11)

  -- the fields, by the kind
  pub ranges : ranges_ok (source_at n.sources j) ≡ true
  unfolding fields_ok
  ranges = let p = source_at n.sources j in (both_true (ranges_ok p) (is_unit p || no_transformer p) (source_test 12)).0

  pub unused : is_unit (source_at n.sources j) || no_transformer (source_at n.sources j) ≡ true
  unfolding fields_ok
  unused = let p = source_at n.sources j in (both_true (ranges_ok p) (is_unit p || no_transformer p) (source_test 12)).1

  pub feeder_ranges : (source_at n.sources j).kind ≡ 1 → FeederRanges (source_at n.sources j)
  unfolding ranges_ok
  feeder_ranges k = feeder_fields (source_at n.sources j) (rw k at ranges)

  pub generator_ranges : (source_at n.sources j).kind ≡ 2 → GeneratorRanges (source_at n.sources j)
  unfolding ranges_ok
  generator_ranges k = generator_fields (source_at n.sources j) (rw k at ranges)

  pub motor_ranges : (source_at n.sources j).kind ≡ 3 → MotorRanges (source_at n.sources j)
  unfolding ranges_ok
  motor_ranges k = motor_fields (source_at n.sources j) (rw k at ranges)

  pub converter_ranges : (source_at n.sources j).kind ≡ 4 → ConverterRanges (source_at n.sources j)
  unfolding ranges_ok
  converter_ranges k = converter_fields (source_at n.sources j) (rw k at ranges)

  pub unit_ranges : (source_at n.sources j).kind ≡ 5 → UnitRanges (source_at n.sources j)
  unfolding ranges_ok
  unit_ranges k = unit_fields (source_at n.sources j) (rw k at ranges)

  -- the rated volts of a machine that has them against the nominal volts of its bus
  pub machine_volts_law : is_rated (source_at n.sources j) ≡ true → Rated (machine_volts (source_at n.sources j)) (bus_at n.buses (source_at n.sources j).bus).volts
  machine_volts_law e =
      let p = source_at n.sources j in
      let u = (bus_at n.buses p.bus).volts in
      rated_near (machine_volts p) u (where_true (is_rated p) (rated_ok (machine_volts p) u) (source_test 13) e)

  -- a unit's generator volts against the low volts of its transformer
  pub unit_volts : (source_at n.sources j).kind ≡ 5 → Rated (source_at n.sources j).f1 (source_at n.sources j).low
  unit_volts k =
      let p = source_at n.sources j in
      rated_near p.f1 p.low (where_true (is_unit p) (rated_ok p.f1 p.low) (source_test 32) (rw k))

  -- "Exactly one, the first source, at bus 0."
  pub first_feeder : j ≡ 0 → ((source_at n.sources j).kind ≡ 1) × ((source_at n.sources j).bus ≡ 0)
  first_feeder z =
      let p = source_at n.sources j in
      let e = both_true (is_feeder p) (eqb p.bus 0) (at_zero_law j _ (not (is_feeder p)) (source_test 14) z) in
      (eqb-true p.kind 1 e.0, eqb-true p.bus 0 e.1)
