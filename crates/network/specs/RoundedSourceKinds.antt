-- What the kind of a source decides (SourceKinds), in f64 as the code calculates it: a machine's admittance, a converter's current; and by
-- which volts and kVA a generator's current is reckoned at the bus of its source.
use Rattle.std.specs.Prelude.{ℕ, ◌*◌, min, cond}
use Rattle.enclosure.specs.declared.Complex.{Complex}
use Rattle.enclosure.specs.Doubles.{none, inverted}
use Rattle.elements.specs.Doubles.{feeder_by, generator_by, motor_by, station_unit_by, converter_by}
use Rattle.network.specs.declared.study.Source.{Source}
use Rattle.network.specs.SourceKinds.{is_unit, by_kind}

-- the impedance of each kind, by the tolerance of the study and Un of the source's bus
abbrev pub feeder_impedance_by : ℕ → ℕ → Source → Complex
feeder_impedance_by tolerance Un p = feeder_by tolerance Un p.f1 p.f2

abbrev pub generator_impedance_by : ℕ → ℕ → Source → Complex
generator_impedance_by tolerance Un p = generator_by tolerance Un p.f1 p.f2 p.f3 p.f4 p.f5

abbrev pub motor_impedance_by : Source → Complex
motor_impedance_by p = motor_by p.f1 p.f2 p.f3 p.f4

abbrev pub unit_impedance_by : ℕ → ℕ → Source → Complex
unit_impedance_by tolerance Un p = station_unit_by tolerance Un p.f1 p.f2 p.f3 p.f4 p.f5 p.low p.transformer_kva p.uk p.ur

-- a machine's admittance
unfoldable pub admittance_by : ℕ → ℕ → Source → Complex
admittance_by tolerance Un p =
    by_kind p (inverted (feeder_impedance_by tolerance Un p)) (inverted (generator_impedance_by tolerance Un p)) (inverted (motor_impedance_by p))
    (inverted (unit_impedance_by tolerance Un p)) none

-- a converter's current
abbrev pub supplied_by : Source → Complex
supplied_by p = converter_by p.f1 p.f2

-- Two numbers for a generator, rated volts and kVA, of which the ratio alone counts, so that a current at the bus of its source over the
-- rated current that they give is what it is at the terminals: of a unit Ur·high and kVA·low. A field above 1,000,000, which no accepted
-- unit has, counts as that
unfoldable pub volts_seen : Source → ℕ
volts_seen p = cond (is_unit p) (min p.f1 1000000 * min p.high 1000000) p.f1

unfoldable pub kva_seen : Source → ℕ
kva_seen p = cond (is_unit p) (min p.f2 1000000 * min p.low 1000000) p.f2
