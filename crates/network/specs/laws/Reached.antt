-- The invariant is exact: a network that has it is read off the calls that start it, add its buses and then its sources, each in
-- order, and close it where it is closed; and each of these calls is accepted.
use Rattle.std.specs.Prelude.{◌≡◌, refl, cond, List, [], ◌∷◌, ◌++◌, map, ℕ, zero, suc, ◌+◌, ◌<◌, length, take, drop, get_or}
use Rattle.std.proofs.Common.{ap, ◌∙◌, arith, lt-ltb, drop_of_length-le, length-take-le, take_all, take-suc, drop-cons, get_or-take}
use Rattle.network.specs.Network.{Network, open_of, blank, blank_source, bus_at, source_at}
use Rattle.network.specs.Grounds.{start_network, bus_number, after_bus_in, source_number, after_source_in, close_number, after_close, Call, step, run_from, empty_network, run}
use Rattle.network.specs.laws.Calls.{run_append}
use Rattle.network.specs.Grounds.Call.{starting, adding_bus, adding_source, closing}
use Rattle.network.specs.laws.Tests.{by_test}
use Rattle.network.specs.laws.Acceptance.{bus_record_same, bus_number_open, source_number_open, granted}
use Rattle.network.specs.laws.Rebuilt.{Rebuilt, source_record}

-- each record is accepted by the open network of those before it
pub bus_in_turn : {n : Network} → Rebuilt n → (i : ℕ) → i < length n.buses → bus_number (open_of n.tolerance (take i n.buses) []) (bus_at n.buses i) ≡ 0
bus_in_turn {n} r i h =
    let l = n.buses in
    let e = length-take-le i l (omega arith) in
    let next = bus_number_open (open_of n.tolerance (take i l) []) (bus_at l i) refl (omega (arith, r.bus_room)) in
    (rw e at next) ∙ bus_record_same (take i l ++ (bus_at l i ∷ [])) l i (λ k p. rw (← take-suc l i blank h) (get_or-take (suc i) l k blank (omega arith))) ∙ r.bus_records i h

pub source_in_turn : {n : Network} → Rebuilt n → (j : ℕ) → j < length n.sources → source_number (open_of n.tolerance n.buses (take j n.sources)) (source_at n.sources j) ≡ 0
source_in_turn {n} r j h =
    let l = n.sources in
    let e = length-take-le j l (omega arith) in
    let next = source_number_open (open_of n.tolerance n.buses (take j l)) (source_at l j) refl (omega (arith, r.source_room)) in
    (rw e at next) ∙ source_record r j h

-- a call for each element of a list, where each takes the network of the elements before it to that of one more
added_from_law : {X : Type 0} (call : X → Call) (put : List X → Network) (d : X) (l : List X) → ((i : ℕ) → i < length l → step (put (take i l)) (call (get_or l i d)) ≡ put (take (suc i) l)) → (m k : ℕ) → k + m ≡ length l → run_from (put (take k l)) (map call (drop k l)) ≡ put l
added_from_law call put d l all zero k e = rw (drop_of_length-le l {i = k} (omega arith), take_all k l (omega arith))
added_from_law call put d l all (suc m) k e =
    rw (drop-cons l k d (omega arith))
    (ap (λ (n : Network). run_from n (map call (drop (suc k) l))) (all k (omega arith)) ∙ added_from_law call put d l all m (suc k) (omega arith))

added : {X : Type 0} (call : X → Call) (put : List X → Network) (d : X) (l : List X) → ((i : ℕ) → i < length l → step (put (take i l)) (call (get_or l i d)) ≡ put (take (suc i) l)) → run_from (put []) (map call l) ≡ put l
added call put d l all = added_from_law call put d l all (length l) 0 (omega arith)

-- the calls that make a network
abbrev pub calls_of : Network → List Call
calls_of n = starting n.tolerance ∷ (map adding_bus n.buses ++ (map adding_source n.sources ++ cond n.closed (closing ∷ []) []))

buses_added : {n : Network} → Rebuilt n → run_from (open_of n.tolerance [] []) (map adding_bus n.buses) ≡ open_of n.tolerance n.buses []
unfolding after_bus_in
buses_added {n} r =
    added adding_bus (λ l. open_of n.tolerance l []) blank n.buses
    (λ i h. rw (take-suc n.buses i blank h) (granted _ _ _ (bus_in_turn r i h)))

sources_added : {n : Network} → Rebuilt n → run_from (open_of n.tolerance n.buses []) (map adding_source n.sources) ≡ open_of n.tolerance n.buses n.sources
unfolding after_source_in
sources_added {n} r =
    added adding_source (λ l. open_of n.tolerance n.buses l) blank_source n.sources
    (λ j h. rw (take-suc n.sources j blank_source h) (granted _ _ _ (source_in_turn r j h)))

as_closed : {n : Network} → Rebuilt n → run_from (open_of n.tolerance n.buses n.sources) (cond n.closed (closing ∷ []) []) ≡ n
unfolding close_number after_close
as_closed {n} r =
    by_test n.closed
    (λ c. rw (c, lt-ltb 0 (length n.sources) (r.fed c)))
    (λ c. rw c)

as_started : {n : Network} → Rebuilt n → start_network n.tolerance ≡ open_of n.tolerance [] []
as_started r = rw r.tolerance

-- the calls after a part of the list, from the network that the part makes
then : (n : Network) {m k : Network} (a b : List Call) → run_from n a ≡ m → run_from m b ≡ k → run_from n (a ++ b) ≡ k
then n a b e f = run_append n a b ∙ ap (λ (m : Network). run_from m b) e ∙ f

pub rebuilt_run : {n : Network} → Rebuilt n → run (calls_of n) ≡ n
unfolding run
rebuilt_run {n} r =
    let close = cond n.closed (closing ∷ []) [] in
    let sources = map adding_source n.sources ++ close in
    let buses = map adding_bus n.buses ++ sources in
    then empty_network (starting n.tolerance ∷ []) buses (as_started r)
    (then _ (map adding_bus n.buses) sources (buses_added r)
    (then _ (map adding_source n.sources) close (sources_added r) (as_closed r)))
