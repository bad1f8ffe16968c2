-- The ranges that document 01, "The study", gives the tolerance and the fields of a bus record, kind by kind; those of a source record
-- are in SourceKinds. Each is a test with the answer true or false, so that the grounds of refusal can be tried one after the other.
use Rattle.std.specs.Prelude.{Bool, true, not, cond, ◌&&◌, ◌||◌, List, [], ◌∷◌, ℕ, ◌*◌, leb, ltb, eqb}
use Rattle.network.specs.declared.study.Bus.{Bus}

-- low..high, both ends included; where low is 0 the upper end alone is tested
abbrev pub in_range : ℕ → ℕ → ℕ → Bool
in_range x low high = leb low x && leb x high

-- every test of a list
abbrev pub all_from : Bool → List Bool → Bool
all_from a [] = a
all_from a (b ∷ bs) = all_from (a && b) bs

abbrev pub all : List Bool → Bool
all [] = true
all (b ∷ bs) = all_from b bs

-- "A study is started with a voltage tolerance, 6 or 10 (percent)."
abbrev pub tolerance_ok : ℕ → Bool
tolerance_ok t = eqb t 6 || eqb t 10

-- "nominal volts Un 100..420,000"
abbrev pub volts_ok : Bus → Bool
volts_ok b = in_range b.volts 100 420000

-- "rated initial amperes 1..1,000,000; rated peak amperes 1..3,000,000"
abbrev pub rating_ok : Bus → Bool
rating_ok b = in_range b.rating 1 1000000 && in_range b.peak_rating 1 3000000

-- "Bus 0 has parent 0, kind 0, branch fields 0": the branch fields
abbrev pub no_branch_tests : Bus → List Bool
no_branch_tests b = eqb b.f1 0 ∷ eqb b.f2 0 ∷ eqb b.f3 0 ∷ eqb b.f4 0 ∷ eqb b.f5 0 ∷ []

-- "Kind 1, line: r and x in micro-ohms per metre, each 0..100,000, not both 0; metres 1..200,000; circuits 1..8; 0."
abbrev pub line_tests : Bus → List Bool
line_tests b =
    leb b.f1 100000
    ∷ leb b.f2 100000
    ∷ not (eqb b.f1 0 && eqb b.f2 0)
    ∷ in_range b.f3 1 200000
    ∷ in_range b.f4 1 8
    ∷ eqb b.f5 0
    ∷ []

-- "Kind 2, transformer: rated volts on the parent's side, rated volts on the bus's own side; kVA 10..1,000,000; uk 100..30,000;
-- uR from 0 to uk − 1". The rated volts are held to the nominal ones alone, by ground 7.
abbrev pub transformer_tests : Bus → List Bool
transformer_tests b = in_range b.f3 10 1000000 ∷ in_range b.f4 100 30000 ∷ ltb b.f5 b.f4 ∷ []

-- the branch fields, by the kind
unfoldable pub branch_ok : Bus → Bool
branch_ok b = cond (eqb b.kind 1) (all (line_tests b)) (cond (eqb b.kind 2) (all (transformer_tests b)) (all (no_branch_tests b)))

-- "A rated voltage lies from 9/10 to 11/10 of its bus's Un, ends included."
abbrev pub rated_ok : ℕ → ℕ → Bool
rated_ok rated nominal = leb (9 * nominal) (10 * rated) && leb (10 * rated) (11 * nominal)
