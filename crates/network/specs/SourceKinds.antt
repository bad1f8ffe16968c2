-- What the kind of a source decides, by document 01, "Source record, seven fields: kind, bus, five more", and document 02, order 5, "Source
-- records become twelve fields, unused ones 0": the ranges of its fields, its rated volts, its impedance or its current, exact; every other
-- file asks here. The same in f64 is RoundedSourceKinds. What is said of a record out of range, or of a number that is no kind, has no
-- meaning in the documents: the grounds refuse such a record.
use Rattle.std.specs.Prelude.{Bool, not, cond, ◌&&◌, ◌||◌, List, [], ◌∷◌, ℕ, leb, ltb, eqb}
use Rattle.enclosure.specs.Exact.{Point, nothing}
use Rattle.elements.specs.Impedance as impedance
use Rattle.network.specs.declared.study.Source.{Source}
use Rattle.network.specs.Records.{in_range, all}

-- ---- the kinds by their numbers
abbrev pub is_feeder : Source → Bool
is_feeder p = eqb p.kind 1

abbrev pub is_generator : Source → Bool
is_generator p = eqb p.kind 2

abbrev pub is_motor : Source → Bool
is_motor p = eqb p.kind 3

abbrev pub is_converter : Source → Bool
is_converter p = eqb p.kind 4

-- "Source kind 5 stands at the high-voltage bus": a power station unit
abbrev pub is_unit : Source → Bool
is_unit p = eqb p.kind 5

-- "10 source kind."
abbrev pub source_kind_ok : Source → Bool
source_kind_ok p = in_range p.kind 1 5

-- "1/Z of each feeder, generator and motor", and "Exact Z includes units from now on": the machines are all sources but the converters
-- (`machine_named`)
abbrev pub is_machine : Source → Bool
is_machine p = not (is_converter p)

-- "In the breaking current a unit is a generator": the machines that have one
abbrev pub has_generator : Source → Bool
has_generator p = is_generator p || is_unit p

-- the one of five that belongs to a kind: of a feeder, a generator, a motor, a unit, and of any other
abbrev pub by_kind : {X : Type 0} → Source → X → X → X → X → X → X
by_kind p feeder generator motor unit other = cond (is_feeder p) feeder (cond (is_generator p) generator (cond (is_motor p) motor (cond (is_unit p) unit other)))

-- ---- kind by kind: ranges, and impedance in ohms by the tolerance of the study and Un of the source's bus
-- "ρ is R/X in hundredths, 0..200."
abbrev pub ratio_ok : ℕ → Bool
ratio_ok ρ = leb ρ 200

-- "1, feeder: short-circuit kVA 1,000..100,000,000; ρ; 0; 0; 0."
abbrev pub feeder_tests : Source → List Bool
feeder_tests p = in_range p.f1 1000 100000000 ∷ ratio_ok p.f2 ∷ eqb p.f3 0 ∷ eqb p.f4 0 ∷ eqb p.f5 0 ∷ []

-- "Feeder: Z = c·Un²/(1,000·kVA), split by f."
abbrev pub feeder_impedance : ℕ → ℕ → Source → Point
feeder_impedance tolerance Un p = impedance.feeder tolerance Un p.f1 p.f2

-- "2, generator: rated volts; kVA 10..1,000,000; xd 1,000..100,000 (thousandths of a percent); ρ; power factor 70..100 hundredths."
-- The rated volts are held to the nominal ones alone, by ground 13.
abbrev pub generator_tests : Source → List Bool
generator_tests p = in_range p.f2 10 1000000 ∷ in_range p.f3 1000 100000 ∷ ratio_ok p.f4 ∷ in_range p.f5 70 100 ∷ []

-- "Generator: X = K_G·xd/100,000·Ur²/(1,000·kVA), R = X·ρ/100, .., c by its bus."
abbrev pub generator_impedance : ℕ → ℕ → Source → Point
generator_impedance tolerance Un p = impedance.generator tolerance Un p.f1 p.f2 p.f3 p.f4 p.f5

-- "3, motor: rated volts; kVA 1..100,000; starting ratio 10..100 tenths; ρ; 0." The rated volts as a generator's.
abbrev pub motor_tests : Source → List Bool
motor_tests p = in_range p.f2 1 100000 ∷ in_range p.f3 10 100 ∷ ratio_ok p.f4 ∷ eqb p.f5 0 ∷ []

-- "Motor: Z = (10/ratio)·Ur²/(1,000·kVA), split by f."
abbrev pub motor_impedance : Source → Point
motor_impedance p = impedance.motor p.f1 p.f2 p.f3 p.f4

-- "4, converter: rated current 1..100,000 tenths of an ampere; k 100..300 hundredths; 0; 0; 0."
abbrev pub converter_tests : Source → List Bool
converter_tests p = in_range p.f1 1 100000 ∷ in_range p.f2 100 300 ∷ eqb p.f3 0 ∷ eqb p.f4 0 ∷ eqb p.f5 0 ∷ []

-- "rated current·k" of a converter, which has no impedance
abbrev pub current_of : Source → Point
current_of p = impedance.converter p.f1 p.f2

-- "generator fields, then transformer volts low side and high side, kVA, uk, uR. Low volts are 90..462,000, the other fields have document
-- 01's ranges for generators and transformers, else 12." There rated volts have no range of their own: the generator's are held to the low
-- volts, by ground 32, and the high volts to the nominal ones, by ground 13.
abbrev pub unit_tests : Source → List Bool
unit_tests p =
    in_range p.f2 10 1000000
    ∷ in_range p.f3 1000 100000
    ∷ ratio_ok p.f4
    ∷ in_range p.f5 70 100
    ∷ in_range p.low 90 462000
    ∷ in_range p.transformer_kva 10 1000000
    ∷ in_range p.uk 100 30000
    ∷ ltb p.ur p.uk
    ∷ []

-- "Z = K_S·(t²·Z_G + Z_T), .., c and Un of the bus"
abbrev pub unit_impedance : ℕ → ℕ → Source → Point
unit_impedance tolerance Un p =
    impedance.station_unit tolerance Un p.f1 p.f2 p.f3 p.f4 p.f5 p.low p.high p.transformer_kva p.uk p.ur

-- ---- of a source of any kind
-- the ranges of the fields that it has
unfoldable pub ranges_ok : Source → Bool
ranges_ok p = by_kind p (all (feeder_tests p)) (all (generator_tests p)) (all (motor_tests p)) (all (unit_tests p)) (all (converter_tests p))

-- "unused ones 0": the five fields of a transformer, which a unit alone has
abbrev pub no_transformer_tests : Source → List Bool
no_transformer_tests p = eqb p.low 0 ∷ eqb p.high 0 ∷ eqb p.transformer_kva 0 ∷ eqb p.uk 0 ∷ eqb p.ur 0 ∷ []

abbrev pub no_transformer : Source → Bool
no_transformer p = all (no_transformer_tests p)

-- "12 source field out of range, or unused and not 0."
unfoldable pub fields_ok : Source → Bool
fields_ok p = ranges_ok p && (is_unit p || no_transformer p)

-- "13 machine rated voltage.": the machines that have rated volts at their bus, and these; "Ground 13 tests high volts against Un"
abbrev pub is_rated : Source → Bool
is_rated p = is_generator p || is_motor p || is_unit p

abbrev pub machine_volts : Source → ℕ
machine_volts p = cond (is_unit p) p.high p.f1

-- a machine's impedance
unfoldable pub impedance_of : ℕ → ℕ → Source → Point
impedance_of tolerance Un p = by_kind p (feeder_impedance tolerance Un p) (generator_impedance tolerance Un p) (motor_impedance p) (unit_impedance tolerance Un p) nothing
