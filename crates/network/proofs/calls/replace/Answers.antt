-- `replace` meets its contract: 34 by the test of the place, else the number of the record there; what is stored of it rewrites the list.
use Rattle.std.specs.Prelude.{◌≡◌, refl, true, ◌<◌, length}
use Rattle.std.proofs.Common.{sym, ◌∙◌, arith, rules}
use Rattle.std.proofs.lemmas.Bool.{not-true, not-false}
use Rattle.tree.specs.Limits.{max_buses, max_sources}
use Rattle.network.specs.Network.{network}
use Rattle.network.specs.Grounds.{place_ok, replace_number, after_replace}
use Rattle.network.specs.laws.Acceptance.{refused, ok_place, replace_none, replace_number_there}
use Rattle.network.proofs.Lists.{length_mapped, count_most}
use Rattle.network.proofs.Adding.{bus_there, bus_found}
use Rattle.network.proofs.Changing.{replaced}
use Rattle.network.proofs.calls.replace.Goals as goal
use Rattle.network.proofs.calls.replace.Goals.{After-place_ok, After-source_record_number-record_ground, Else-not-place_ok, Else-record_ground-ne0, Start}

whole : (c : Start) → length c.args.s.sources ≡ max_sources
whole c = search (rules, length_mapped)

-- the test of the place is that of ground 34
asked : (c : After-place_ok) → c.place_ok.result ≡ place_ok (network c.args.s) c.args.place
asked c = c.place_ok.ensures c.args.s refl ((let whole_here : length c.args.s.sources ≡ max_sources = search (rules, length_mapped) in whole_here))

pub returns-then-not-place_ok : goal.returns-then-not-place_ok
returns-then-not-place_ok c =
    let a = c.args in
    let e = replace_none (network a.s) a.place a.p (sym (asked (goal.at.returns-then-not-place_ok c).After-place_ok) ∙ not-true c.place_ok.result c.if-not-place_ok.true-raw) in
    record { number = e.0; kept = λ _. refl; network = e.1 }

there : (c : Else-not-place_ok) → place_ok (network c.args.s) c.args.place ≡ true
there c = sym ((let asked_here : c.place_ok.result ≡ place_ok (network c.args.s) c.args.place = c.place_ok.ensures c.args.s refl ((let whole_here : length c.args.s.sources ≡ max_sources = search (rules, length_mapped) in whole_here)) in asked_here)) ∙ not-false c.place_ok.result c.if-not-place_ok.false-raw

tried : (c : After-source_record_number-record_ground) → c.source_record_number-record_ground.result ≡ replace_number (network c.args.s) c.args.place c.args.p
tried c =
    let a = c.args in
    let at = c.place_in-at in
    let buses : length a.s.buses ≡ max_buses = search (rules, length_mapped) in
    c.source_record_number-record_ground.ensures (network a.s).buses (bus_there a.s a.p at.result buses at.ensures) (bus_found a.s a.p at.result buses at.ensures)
    ∙ sym (replace_number_there (network a.s) a.place a.p ((let there_here : place_ok (network c.args.s) c.args.place ≡ true = sym ((let asked_here : c.place_ok.result ≡ place_ok (network c.args.s) c.args.place = c.place_ok.ensures c.args.s refl ((let whole_here : length c.args.s.sources ≡ max_sources = search (rules, length_mapped) in whole_here)) in asked_here)) ∙ not-false c.place_ok.result c.if-not-place_ok.false-raw in there_here)))

pub returns-then-record_ground-ne0 : goal.returns-then-record_ground-ne0
unfolding after_replace
returns-then-record_ground-ne0 c =
    let e = tried (goal.at.returns-then-record_ground-ne0 c).After-source_record_number-record_ground in
    record { number = e; kept = λ _. refl; network = sym (refused _ _ _ (λ z. c.if-record_ground-ne0.true (e ∙ z))) }

few : (c : Else-record_ground-ne0) → c.args.place < max_sources
few c =
    let a = c.args in
    let h = (let whole_here : length c.args.s.sources ≡ max_sources = search (rules, length_mapped) in whole_here) in
    omega (arith, (ok_place (network a.s) a.place ((let there_here : place_ok (network c.args.s) c.args.place ≡ true = sym ((let asked_here : c.place_ok.result ≡ place_ok (network c.args.s) c.args.place = c.place_ok.ensures c.args.s refl ((let whole_here : length c.args.s.sources ≡ max_sources = search (rules, length_mapped) in whole_here)) in asked_here)) ∙ not-false c.place_ok.result c.if-not-place_ok.false-raw in there_here))).1, count_most max_sources a.s.source_count a.s.sources h)

pub bounds-next-j : goal.bounds-next-j
bounds-next-j c = few c

pub returns : goal.returns
returns c =
    let a = c.args in
    let e = tried (goal.at.returns c).After-source_record_number-record_ground in
    record { number = e; kept = λ z. absurd (z c.if-record_ground-ne0.false); network = replaced a.s a.place a.p (sym e ∙ c.if-record_ground-ne0.false) }
