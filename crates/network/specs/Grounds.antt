-- The grounds on which a call is refused, in the order in which document 01 has them tried; the network after each call, and the network
-- that a list of calls leaves.
use Rattle.std.specs.Prelude.{Bool, true, false, not, cond, ◌&&◌, ◌||◌, List, [], ◌∷◌, ◌++◌, ℕ, leb, ltb, eqb, length}
use Rattle.network.specs.declared.study.Bus.{Bus}
use Rattle.network.specs.declared.study.Source.{Source}
use Rattle.network.specs.Records.{in_range, tolerance_ok, volts_ok, rating_ok, branch_ok, rated_ok}
use Rattle.network.specs.SourceKinds.{is_feeder, is_unit, source_kind_ok, fields_ok, is_rated, machine_volts}
use Rattle.network.specs.Network.{Network, open_of, with_bus, with_source, without_source, with_source_at, closed_as, bus_at, parent_record, depth_of, transformers_of}
use Rattle.tree.specs.Limits.{Limits, here, max_branches, max_transformers}

-- a ground: the test that a call has to pass, and the number that it is refused with
pub record Ground : Type 0 where
  pub ok : Bool
  pub number : ℕ

abbrev pub on : Bool → ℕ → Ground
on b n = record { ok = b; number = n }

-- the number of the first test that fails; "An accepted call carries number 0"
abbrev pub first : List Ground → ℕ
first [] = 0
first (g ∷ gs) = cond g.ok (first gs) g.number

-- one test at place 0, another at every other place
abbrev pub at_zero : ℕ → Bool → Bool → Bool
at_zero i a b = (eqb i 0 && a) || (ltb 0 i && b)

-- ---- starting
-- "1 tolerance not 6 or 10 (an empty open study of tolerance 6 comes back)."
abbrev pub start_number : ℕ → ℕ
start_number t = first (on (tolerance_ok t) 1 ∷ [])

abbrev pub empty_of : ℕ → Network
empty_of t = open_of t [] []

abbrev pub start_network : ℕ → Network
start_network t = empty_of (cond (tolerance_ok t) t 6)

-- ---- adding a bus
-- "3 parent.": "Bus 0 has parent 0"; "Any other bus names a parent with a smaller number."
abbrev pub parent_ok : ℕ → Bus → Bool
parent_ok i b = at_zero i (eqb b.parent 0) (ltb b.parent i)

-- "4 branch kind.": 0 at bus 0, a line or a transformer at any other
abbrev pub kind_ok : ℕ → Bus → Bool
kind_ok i b = at_zero i (eqb b.kind 0) (in_range b.kind 1 2)

-- "6 line between unequal voltages."
abbrev pub line_volts_ok : Bus → Bus → Bool
line_volts_ok parent b = not (eqb b.kind 1) || eqb parent.volts b.volts

-- "7 transformer rated voltage.": the first on the parent's side, the second on the bus's own
abbrev pub transformer_volts_ok : Bus → Bus → Bool
transformer_volts_ok parent b = not (eqb b.kind 2) || (rated_ok b.f1 parent.volts && rated_ok b.f2 b.volts)

-- "8 too deep: more than 18 branches, or more than 4 transformers."
unfoldable pub depth_ok : List Bus → ℕ → Bool
depth_ok l i = leb (depth_of l i) max_branches && leb (transformers_of l i) max_transformers

-- the grounds in the input for the record of bus i, as it stands in a list of bus records; the records after it do not matter
-- (`bus_record_same`)
abbrev pub bus_grounds : List Bus → ℕ → List Ground
bus_grounds l i =
    on (volts_ok (bus_at l i)) 2
    ∷ on (parent_ok i (bus_at l i)) 3
    ∷ on (kind_ok i (bus_at l i)) 4
    ∷ on (branch_ok (bus_at l i)) 5
    ∷ on (line_volts_ok (parent_record l i) (bus_at l i)) 6
    ∷ on (transformer_volts_ok (parent_record l i) (bus_at l i)) 7
    ∷ on (depth_ok l i) 8
    ∷ on (rating_ok (bus_at l i)) 9
    ∷ []

unfoldable pub bus_record_number : List Bus → ℕ → ℕ
bus_record_number l i = first (bus_grounds l i)

-- "State grounds are tried first, then rising numbers": 21 and 23, and then those of the record as the next bus
abbrev pub add_bus_grounds_in : Limits → Network → Bus → List Ground
add_bus_grounds_in L n b =
    on (not n.closed) 21
    ∷ on (ltb (length n.buses) L.buses) 23
    ∷ bus_grounds (n.buses ++ (b ∷ [])) (length n.buses)

unfoldable pub bus_number_in : Limits → Network → Bus → ℕ
bus_number_in L n b = first (add_bus_grounds_in L n b)

-- "a refused call adds nothing to it"
unfoldable pub after_bus_in : Limits → Network → Bus → Network
after_bus_in L n b = cond (eqb (bus_number_in L n b) 0) (with_bus n b) n

abbrev pub add_bus_grounds : Network → Bus → List Ground
add_bus_grounds = add_bus_grounds_in here

abbrev pub bus_number : Network → Bus → ℕ
bus_number = bus_number_in here

abbrev pub after_bus : Network → Bus → Network
after_bus = after_bus_in here

-- ---- adding a source
-- "13 machine rated voltage.", of a machine that has rated volts
abbrev pub machine_volts_ok : Bus → Source → Bool
machine_volts_ok b p = not (is_rated p) || rated_ok (machine_volts p) b.volts

-- "32 when generator volts leave 9/10 to 11/10 of the low volts", of a unit (document 02, order 5)
abbrev pub unit_volts_ok : Source → Bool
unit_volts_ok p = not (is_unit p) || rated_ok p.f1 p.low

-- "14 first source not a feeder, feeder elsewhere than bus 0, or a second one."
abbrev pub feeder_place_ok : ℕ → Source → Bool
feeder_place_ok j p = at_zero j (is_feeder p && eqb p.bus 0) (not (is_feeder p))

-- the grounds in the input for the record of the source at place j over a list of buses; 32 is "tried between 13 and 14"
abbrev pub source_grounds : List Bus → ℕ → Source → List Ground
source_grounds l j p =
    on (source_kind_ok p) 10
    ∷ on (ltb p.bus (length l)) 11
    ∷ on (fields_ok p) 12
    ∷ on (machine_volts_ok (bus_at l p.bus) p) 13
    ∷ on (unit_volts_ok p) 32
    ∷ on (feeder_place_ok j p) 14
    ∷ []

unfoldable pub source_record_number : List Bus → ℕ → Source → ℕ
source_record_number l j p = first (source_grounds l j p)

abbrev pub add_source_grounds_in : Limits → Network → Source → List Ground
add_source_grounds_in L n p =
    on (not n.closed) 21
    ∷ on (ltb (length n.sources) L.sources) 24
    ∷ source_grounds n.buses (length n.sources) p

unfoldable pub source_number_in : Limits → Network → Source → ℕ
source_number_in L n p = first (add_source_grounds_in L n p)

unfoldable pub after_source_in : Limits → Network → Source → Network
after_source_in L n p = cond (eqb (source_number_in L n p) 0) (with_source n p) n

abbrev pub add_source_grounds : Network → Source → List Ground
add_source_grounds = add_source_grounds_in here

abbrev pub source_number : Network → Source → ℕ
source_number = source_number_in here

abbrev pub after_source : Network → Source → Network
after_source = after_source_in here

-- ---- closing
-- "21 study closed already (adding or closing)."; "25 closing without a source"
abbrev pub close_grounds : Network → List Ground
close_grounds n = on (not n.closed) 21 ∷ on (ltb 0 (length n.sources)) 25 ∷ []

unfoldable pub close_number : Network → ℕ
close_number n = first (close_grounds n)

unfoldable pub after_close : Network → Network
after_close n = cond (eqb (close_number n) 0) (closed_as true n) n

-- ---- withdrawing a source (document 02, order 8)
-- "34 when the place is 0 or holds nothing, tried before all other grounds."; "in open and closed studies alike"
abbrev pub place_ok : Network → ℕ → Bool
place_ok n j = ltb 0 j && ltb j (length n.sources)

abbrev pub withdraw_grounds : Network → ℕ → List Ground
withdraw_grounds n j = on (place_ok n j) 34 ∷ []

unfoldable pub withdraw_number : Network → ℕ → ℕ
withdraw_number n j = first (withdraw_grounds n j)

-- "later sources move up one place in order"
unfoldable pub after_withdraw : Network → ℕ → Network
after_withdraw n j = cond (eqb (withdraw_number n j) 0) (without_source n j) n

-- ---- replacing a source
-- "checked like an addition except for 21 and 24": its record as the source at that place
abbrev pub replace_grounds : Network → ℕ → Source → List Ground
replace_grounds n j p = on (place_ok n j) 34 ∷ source_grounds n.buses j p

unfoldable pub replace_number : Network → ℕ → Source → ℕ
replace_number n j p = first (replace_grounds n j p)

-- "A new record for a place supersedes the old"
unfoldable pub after_replace : Network → ℕ → Source → Network
after_replace n j p = cond (eqb (replace_number n j p) 0) (with_source_at n j p) n

-- ---- reopening
-- "A closed study can be reopened; an open one gives 22."
abbrev pub reopen_grounds : Network → List Ground
reopen_grounds n = on n.closed 22 ∷ []

unfoldable pub reopen_number : Network → ℕ
reopen_number n = first (reopen_grounds n)

unfoldable pub after_reopen : Network → Network
after_reopen n = cond (eqb (reopen_number n) 0) (closed_as false n) n

-- a call on a study: it is started with a tolerance, given a bus record or a source record, the source at a place is withdrawn or gets
-- another record, it is closed, reopened, asked for a bus
pub data Call : Type 0 where
  starting : ℕ → Call
  adding_bus : Bus → Call
  adding_source : Source → Call
  withdrawing : ℕ → Call
  replacing : ℕ → Source → Call
  closing : Call
  reopening : Call
  querying : ℕ → Call

-- the network after a call; a query changes nothing
abbrev pub step : Network → Call → Network
step n (starting t) = start_network t
step n (adding_bus b) = after_bus n b
step n (adding_source p) = after_source n p
step n (withdrawing j) = after_withdraw n j
step n (replacing j p) = after_replace n j p
step n closing = after_close n
step n reopening = after_reopen n
step n (querying i) = n

-- the calls of a list, the first one first
abbrev pub run_from : Network → List Call → Network
run_from n [] = n
run_from n (c ∷ cs) = run_from (step n c) cs

-- before any call there are no records, and "A refused start or file leaves tolerance 6 and no records"
abbrev pub empty_network : Network
empty_network = empty_of 6

unfoldable pub run : List Call → Network
run cs = run_from empty_network cs
