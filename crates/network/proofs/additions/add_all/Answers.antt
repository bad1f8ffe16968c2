use Rattle.std.specs.Prelude.{◌≡◌, refl, List, map, ℕ, ◌+◌, ◌-◌, ◌<◌, length, take, drop}
use Rattle.std.proofs.Common.{sym, ◌∙◌, ap, arith, rules, length-set}
use Rattle.tree.specs.Limits.{max_buses, max_sources}
use Rattle.network.specs.Network.{Network, network}
use Rattle.network.specs.declared.additions.Entry.{Entry}
use Rattle.network.specs.Grounds.{bus_number, source_number, run_from}
use Rattle.network.specs.Additions.{max_additions, listed, AddedNetwork, added_from, called}
use Rattle.network.specs.laws.Additions.{added_run}
use Rattle.network.proofs.Lists.{length_mapped, count_most}
use Rattle.network.proofs.Adding.{bus_fits, bus_stored, bus_there, bus_found, source_fits, source_stored, addition_accepted, addition_refused, additions_end}
use Rattle.network.proofs.additions.add_all.Goals as goal
use Rattle.network.proofs.additions.add_all.Goals.{After-bus_number-number, After-source_number-number, Else-number-ne0, Else-number-ne0-2, In-loop-i}

pub loop-i-init : goal.loop-i-init
loop-i-init c =
    let a = c.args in
    let buses : length a.s.buses ≡ max_buses = search (rules, length_mapped) in
    let sources : length a.s.sources ≡ max_sources = search (rules, length_mapped) in
    (omega arith, buses, sources, λ _. refl, refl)

-- there is a record at the place of a turn
inside : (c : In-loop-i) → (c.loop-i.i < length (listed c.args.more)) × (c.loop-i.i < max_additions)
inside c =
    let more = c.args.more in
    let whole : length more.entries ≡ max_additions = search (rules, length_mapped) in
    (omega (arith, c.total_of-total.ensures), omega (arith, c.total_of-total.ensures, count_most max_additions more.count more.entries whole))

pub bounds-more-i : goal.bounds-more-i
bounds-more-i c = (inside c).1

pub overflow_add-next : goal.overflow_add-next
overflow_add-next c = let h = (inside (goal.at.overflow_add-next c).In-loop-i).1 in record { fits = omega arith }

-- the clauses, from what all additions come to
answered : (n : Network) (es : List Entry) {k i : ℕ} {m : Network} {Kept : Type 0} → added_from 0 n es ≡ record { number = k; accepted = i; network = m } → Kept
    → (record { number = k; accepted = i; network = m } ≡ added_from 0 n es) × (Kept × (m ≡ run_from n (map called (take i es))))
answered n es {k} {i} e kept =
    let none : i - 0 ≡ i = omega arith in
    let ran = sym (ap (λ (a : AddedNetwork). a.network) e) ∙ added_run 0 n es ∙ ap (λ (a : AddedNetwork). run_from n (map called (take (a.accepted - 0) es))) e in
    (sym e, (kept, rw none at ran))

-- what each arm tries is the addition to the study of the turn
tried-bus : (c : After-bus_number-number) → c.bus_number-number.result ≡ bus_number (network c.loop-i.study) c.in-OfBus.b
tried-bus c = c.bus_number-number.ensures c.loop-i.study refl refl refl

tried-source : (c : After-source_number-number) → c.source_number-number.result ≡ source_number (network c.loop-i.study) c.in-OfSource.p
tried-source c =
    let l = c.loop-i in
    let p = c.in-OfSource.p in
    let place = c.place_in-place in
    c.source_number-number.ensures l.study refl refl l.invariant.2 (bus_there l.study p place.result l.invariant.1 place.ensures) (bus_found l.study p place.result l.invariant.1 place.ensures)

pub returns-then-number-ne0 : goal.returns-then-number-ne0
returns-then-number-ne0 c =
    let l = c.loop-i in
    let a = c.args in
    let more = a.more in
    let h = (inside (goal.at.returns-then-number-ne0 c).In-loop-i).0 in
    let refusal = addition_refused more.count more.entries l.i (network l.study) _ _ h c.in-OfBus.is in
    let e = answered (network a.s) (listed more) (l.invariant.4 ∙ refusal _ (tried-bus (goal.at.returns-then-number-ne0 c).After-bus_number-number) c.if-number-ne0.true) l.invariant.3 in
    record { added = e.0; kept = e.1.0; calls = e.1.1 }

-- an accepted bus found room
bus-few : (c : Else-number-ne0) → c.loop-i.study.bus_count < max_buses
bus-few c =
    let l = c.loop-i in
    bus_fits l.study _ l.invariant.1 (sym ((let tried-bus_here : c.bus_number-number.result ≡ bus_number (network c.loop-i.study) c.in-OfBus.b = c.bus_number-number.ensures c.loop-i.study refl refl refl in tried-bus_here)) ∙ c.if-number-ne0.false)

pub bounds-study-n : goal.bounds-study-n
bounds-study-n c = bus-few c

pub overflow_add-study : goal.overflow_add-study
overflow_add-study c = let k = bus-few c in record { fits = omega arith }

pub bounds-study-place : goal.bounds-study-place
bounds-study-place c = c.place_in-place.ensures.0

pub returns-then-number-ne0-2 : goal.returns-then-number-ne0-2
returns-then-number-ne0-2 c =
    let l = c.loop-i in
    let a = c.args in
    let more = a.more in
    let h = (inside (goal.at.returns-then-number-ne0-2 c).In-loop-i).0 in
    let refusal = addition_refused more.count more.entries l.i (network l.study) _ _ h c.in-OfSource.is in
    let e = answered (network a.s) (listed more) (l.invariant.4 ∙ refusal _ (tried-source (goal.at.returns-then-number-ne0-2 c).After-source_number-number) c.if-number-ne0-2.true) l.invariant.3 in
    record { added = e.0; kept = e.1.0; calls = e.1.1 }

-- an accepted source found room
source-few : (c : Else-number-ne0-2) → c.loop-i.study.source_count < max_sources
source-few c =
    let l = c.loop-i in
    source_fits l.study _ l.invariant.2 (sym ((let tried-source_here : c.source_number-number.result ≡ source_number (network c.loop-i.study) c.in-OfSource.p = let l = c.loop-i in let p = c.in-OfSource.p in let place = c.place_in-place in c.source_number-number.ensures l.study refl refl l.invariant.2 (bus_there l.study p place.result l.invariant.1 place.ensures) (bus_found l.study p place.result l.invariant.1 place.ensures) in tried-source_here)) ∙ c.if-number-ne0-2.false)

pub bounds-study-n-in-OfSource : goal.bounds-study-n-in-OfSource
bounds-study-n-in-OfSource c = source-few c

pub overflow_add-study-in-OfSource : goal.overflow_add-study-in-OfSource
overflow_add-study-in-OfSource c = let k = source-few c in record { fits = omega arith }

pub loop-i-smaller-else-number-ne0 : goal.loop-i-smaller-else-number-ne0
loop-i-smaller-else-number-ne0 c = omega arith

pub loop-i-preserved-else-number-ne0 : goal.loop-i-preserved-else-number-ne0
loop-i-preserved-else-number-ne0 c =
    let l = c.loop-i in
    let more = c.args.more in
    let h = (inside (goal.at.loop-i-preserved-else-number-ne0 c).In-loop-i).0 in
    let z = sym (tried-bus (goal.at.loop-i-preserved-else-number-ne0 c).After-bus_number-number) ∙ c.if-number-ne0.false in
    let acceptance = addition_accepted more.count more.entries l.i (network l.study) _ _ h c.in-OfBus.is z in (
      omega arith,
      length-set l.study.buses l.study.bus_count c.in-OfBus.b ∙ l.invariant.1,
      l.invariant.2,
      λ e. absurd (omega arith),
      l.invariant.4 ∙ acceptance ∙ ap (λ (n : Network). added_from (l.i + 1) n (drop (l.i + 1) (listed more))) (sym (bus_stored l.study _ l.invariant.1 z)),
    )

pub loop-i-smaller : goal.loop-i-smaller
loop-i-smaller c = omega arith

pub loop-i-preserved : goal.loop-i-preserved
loop-i-preserved c =
    let l = c.loop-i in
    let more = c.args.more in
    let h = (inside (goal.at.loop-i-preserved c).In-loop-i).0 in
    let z = sym (tried-source (goal.at.loop-i-preserved c).After-source_number-number) ∙ c.if-number-ne0-2.false in
    let acceptance = addition_accepted more.count more.entries l.i (network l.study) _ _ h c.in-OfSource.is z in (
      omega arith,
      l.invariant.1,
      length-set l.study.sources l.study.source_count c.in-OfSource.p ∙ l.invariant.2,
      λ e. absurd (omega arith),
      l.invariant.4 ∙ acceptance ∙ ap (λ (n : Network). added_from (l.i + 1) n (drop (l.i + 1) (listed more))) (sym (source_stored l.study _ l.invariant.2 z)),
    )

pub returns : goal.returns
returns c =
    let l = c.loop-i in
    let a = c.args in
    let more = a.more in
    let e = answered (network a.s) (listed more) (l.invariant.4 ∙ additions_end (listed more) l.i (network l.study) (omega (arith, c.total_of-total.ensures))) l.invariant.3 in
    record { added = e.0; kept = e.1.0; calls = e.1.1 }

pub offset_bounds-study-n : goal.offset_bounds-study-n
offset_bounds-study-n c = let k = bus-few c in record { fits = omega arith }

pub offset_bounds-study-n-in-OfSource : goal.offset_bounds-study-n-in-OfSource
offset_bounds-study-n-in-OfSource c = let k = source-few c in record { fits = omega arith }
