-- `add_source` meets its contract. An accepted record found room, and what is stored of it is the addition.
use Rattle.std.specs.Prelude.{◌≡◌, refl, ◌<◌, length}
use Rattle.std.proofs.Common.{sym, ◌∙◌, arith, rules}
use Rattle.tree.specs.Limits.{max_buses, max_sources}
use Rattle.network.specs.Network.{network}
use Rattle.network.specs.Grounds.{source_number, after_source_in}
use Rattle.network.specs.laws.Acceptance.{refused}
use Rattle.network.proofs.Lists.{length_mapped}
use Rattle.network.proofs.Adding.{bus_there, bus_found, source_fits, source_stored}
use Rattle.network.proofs.calls.add_source.Goals as goal
use Rattle.network.proofs.calls.add_source.Goals.{After-source_number-source_ground, Else-source_ground-ne0}

pub bounds-s-place : goal.bounds-s-place
bounds-s-place c = c.place_in-place.ensures.0

tried : (c : After-source_number-source_ground) → c.source_number-source_ground.result ≡ source_number (network c.args.s) c.args.p
tried c =
    let a = c.args in
    let place = c.place_in-place in
    let buses : length a.s.buses ≡ max_buses = search (rules, length_mapped) in
    let sources : length a.s.sources ≡ max_sources = search (rules, length_mapped) in
    c.source_number-source_ground.ensures a.s refl refl sources (bus_there a.s a.p place.result buses place.ensures) (bus_found a.s a.p place.result buses place.ensures)

few : (c : Else-source_ground-ne0) → c.args.s.source_count < max_sources
few c =
    let a = c.args in
    let h : length a.s.sources ≡ max_sources = search (rules, length_mapped) in
    source_fits a.s a.p h (sym ((let tried_here : c.source_number-source_ground.result ≡ source_number (network c.args.s) c.args.p = let a = c.args in let place = c.place_in-place in let buses : length a.s.buses ≡ max_buses = search (rules, length_mapped) in let sources : length a.s.sources ≡ max_sources = search (rules, length_mapped) in c.source_number-source_ground.ensures a.s refl refl sources (bus_there a.s a.p place.result buses place.ensures) (bus_found a.s a.p place.result buses place.ensures) in tried_here)) ∙ c.if-source_ground-ne0.false)

pub returns-then-source_ground-ne0 : goal.returns-then-source_ground-ne0
unfolding after_source_in
returns-then-source_ground-ne0 c =
    let e = tried (goal.at.returns-then-source_ground-ne0 c).After-source_number-source_ground in
    record { number = e; kept = λ _. refl; network = sym (refused _ _ _ (λ z. c.if-source_ground-ne0.true (e ∙ z))) }

pub bounds-next-n : goal.bounds-next-n
bounds-next-n c = few c

pub overflow_add-next : goal.overflow_add-next
overflow_add-next c = let k = few c in record { fits = omega arith }

pub returns : goal.returns
returns c =
    let a = c.args in
    let e = tried (goal.at.returns c).After-source_number-source_ground in
    let h : length a.s.sources ≡ max_sources = search (rules, length_mapped) in
    record { number = e; kept = λ z. absurd (z c.if-source_ground-ne0.false); network = source_stored a.s a.p h (sym e ∙ c.if-source_ground-ne0.false) }

pub offset_bounds-next-n : goal.offset_bounds-next-n
offset_bounds-next-n c = let k = few c in record { fits = omega arith }
