use Rattle.std.specs.Prelude.{◌≡◌, refl, true, ◌+◌, ◌-◌, ◌≤◌, ◌<◌, length, set}
use Rattle.std.proofs.Common.{sym, ◌∙◌, ap, arith, rules, length-set}
use Rattle.std.proofs.lemmas.Bool.{not-true, not-false}
use Rattle.tree.specs.Limits.{max_sources}
use Rattle.network.specs.declared.study.Study.{Study}
use Rattle.network.specs.Network.{network, blank_source, source_at}
use Rattle.network.specs.Grounds.{place_ok}
use Rattle.network.specs.laws.Acceptance.{withdraw_none, withdraw_there}
use Rattle.network.proofs.Lists.{length_mapped, moved_up}
use Rattle.network.proofs.Changing.{with_array, counting, held, withdrawn}
use Rattle.network.proofs.calls.withdraw.Goals as goal
use Rattle.network.proofs.calls.withdraw.Goals.{After-clamped_sources-n, After-place_ok, Else-not-place_ok, In-loop-i, Start, Start}

whole : (c : Start) → length c.args.s.sources ≡ max_sources
whole c = search (rules, length_mapped)

-- the test of the place is that of ground 34
asked : (c : After-place_ok) → c.place_ok.result ≡ place_ok (network c.args.s) c.args.place
asked c = c.place_ok.ensures c.args.s refl ((let whole_here : length c.args.s.sources ≡ max_sources = search (rules, length_mapped) in whole_here))

pub returns-then-not-place_ok : goal.returns-then-not-place_ok
returns-then-not-place_ok c =
    let a = c.args in
    let e = withdraw_none (network a.s) a.place (sym (asked (goal.at.returns-then-not-place_ok c).After-place_ok) ∙ not-true c.place_ok.result c.if-not-place_ok.true-raw) in
    record { number = e.0; kept = λ _. refl; network = e.1 }

-- the place holds a source, and is not the first; the array has room for all that are counted
there : (c : Else-not-place_ok) → place_ok (network c.args.s) c.args.place ≡ true
there c = sym ((let asked_here : c.place_ok.result ≡ place_ok (network c.args.s) c.args.place = c.place_ok.ensures c.args.s refl ((let whole_here : length c.args.s.sources ≡ max_sources = search (rules, length_mapped) in whole_here)) in asked_here)) ∙ not-false c.place_ok.result c.if-not-place_ok.false-raw

placed : (c : After-clamped_sources-n) → (0 < c.args.place) × (c.args.place < c.clamped_sources-n.result) × (c.clamped_sources-n.result ≤ max_sources)
placed c =
    let a = c.args in
    held a.s _ ((let whole_here : length c.args.s.sources ≡ max_sources = search (rules, length_mapped) in whole_here)) c.clamped_sources-n.ensures a.place ((let there_here : place_ok (network c.args.s) c.args.place ≡ true = sym ((let asked_here : c.place_ok.result ≡ place_ok (network c.args.s) c.args.place = c.place_ok.ensures c.args.s refl ((let whole_here : length c.args.s.sources ≡ max_sources = search (rules, length_mapped) in whole_here)) in asked_here)) ∙ not-false c.place_ok.result c.if-not-place_ok.false-raw in there_here))

-- there is a source behind place i
behind : (c : In-loop-i) → (c.loop-i.i + 1 < c.clamped_sources-n.result) × (c.loop-i.i + 1 < max_sources)
behind c = let h = (let placed_here : (0 < c.args.place) × (c.args.place < c.clamped_sources-n.result) × (c.clamped_sources-n.result ≤ max_sources) = let a = c.args in held a.s _ ((let whole_here : length c.args.s.sources ≡ max_sources = search (rules, length_mapped) in whole_here)) c.clamped_sources-n.ensures a.place ((let there_here : place_ok (network c.args.s) c.args.place ≡ true = sym ((let asked_here : c.place_ok.result ≡ place_ok (network c.args.s) c.args.place = c.place_ok.ensures c.args.s refl ((let whole_here : length c.args.s.sources ≡ max_sources = search (rules, length_mapped) in whole_here)) in asked_here)) ∙ not-false c.place_ok.result c.if-not-place_ok.false-raw in there_here)) in placed_here) in (omega arith, omega arith)

pub overflow_sub-last : goal.overflow_sub-last
overflow_sub-last c = let h = placed c in omega arith

pub loop-i-init : goal.loop-i-init
loop-i-init c = let h = placed c in (omega arith, whole (goal.at.loop-i-init c).Start, refl, refl)

pub overflow_add-behind : goal.overflow_add-behind
overflow_add-behind c = let h = behind c in record { fits = omega arith }

pub bounds-next-behind : goal.bounds-next-behind
bounds-next-behind c = (behind c).1

pub bounds-next-i : goal.bounds-next-i
bounds-next-i c = let h = behind (goal.at.bounds-next-i c).In-loop-i in omega arith

pub loop-i-smaller : goal.loop-i-smaller
loop-i-smaller c = let h = behind (goal.at.loop-i-smaller c).In-loop-i in omega arith

pub loop-i-preserved : goal.loop-i-preserved
loop-i-preserved c =
    let l = c.loop-i in
    let h = behind (goal.at.loop-i-preserved c).In-loop-i in
    let k = placed (goal.at.loop-i-preserved c).After-clamped_sources-n in
    let p = source_at l.next.sources (l.i + 1) in (
      omega arith,
      length-set l.next.sources l.i p ∙ l.invariant.1,
      ap (λ (s : Study). with_array s (set l.next.sources l.i p)) l.invariant.2,
      moved_up _ l.next.sources l.i blank_source h.0 (omega (arith, l.invariant.1)) ∙ l.invariant.3,
    )

pub returns : goal.returns
returns c =
    let s = c.args.s in
    let j = c.args.place in
    let n = c.clamped_sources-n in
    let l = c.loop-i in
    let k = placed (goal.at.returns c).After-clamped_sources-n in
    let ok = there (goal.at.returns c).Else-not-place_ok in
    let end : l.i ≡ n.result - 1 = omega arith in
    let stored = withdrawn s n.result (whole (goal.at.returns c).Start) n.ensures j ok l.next.sources (n.result - 1) (omega arith) l.invariant.1 (rw end at l.invariant.3) in record { number = withdraw_there (network s) j ok; kept = λ z. absurd (z refl); network = ap (λ (t : Study). network (counting (n.result - 1) t)) l.invariant.2 ∙ stored }
