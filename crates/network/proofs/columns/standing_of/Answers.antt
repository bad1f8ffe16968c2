use Rattle.std.specs.Prelude.{◌≡◌, refl, Bool, true, false, not, ◌&&◌, ℕ, ◌≤◌, ◌<◌, ltb, length, take}
use Rattle.std.proofs.Common.{sym, ◌∙◌, ap, ap₂, length-take, ltb-true, lt-ltb, le-ltb, arith, rules}
use Rattle.enclosure.specs.Doubles.{added}
use Rattle.network.specs.declared.study.Source.{Source}
use Rattle.network.specs.laws.Tests.{both_true}
use Rattle.tree.specs.Limits.{max_buses, max_sources}
use Rattle.network.specs.Network.{source_at, blank_source}
use Rattle.network.specs.SourceKinds.{is_machine, is_converter}
use Rattle.network.specs.RoundedSourceKinds.{admittance_by, supplied_by}
use Rattle.network.specs.Doubles.{standing_of}
use Rattle.network.proofs.Filling.{stands_none, stands_more, stands_passed, stands_column}
use Rattle.network.proofs.Lists.{length_mapped, read_counted}
use Rattle.network.proofs.columns.standing_of.Invariants.{admittance, bus_of}
use Rattle.network.proofs.columns.standing_of.Goals as goal
use Rattle.network.proofs.columns.standing_of.Goals.{In-loop-next, Start}

-- a converter is no machine, and past the last bus nothing stands
converter-passed : (p : Source) → is_converter p ≡ true → ltb p.bus max_buses && is_machine p ≡ false
converter-passed p e = rw e (go (ltb p.bus max_buses))
  where
    go : (t : Bool) → t && false ≡ false
    go true = refl
    go false = refl

-- what is tested at a bus that is there
there : (t u v : Bool) → u ≡ v → t && u ≡ false → t ≡ true → v ≡ false
there t u v e h k = sym e ∙ rw k at h

whole : (c : Start) → length c.args.sources ≡ max_sources
whole c = search (rules, length_mapped)

-- the source of a turn is one of those that count
inside : (c : In-loop-next) → c.loop-next.next < length (take c.args.n c.args.sources)
inside c = let h = (let whole_here : length c.args.sources ≡ max_sources = search (rules, length_mapped) in whole_here) in omega (arith, length-take c.args.n c.args.sources)

pub loop-next-init : goal.loop-next-init
loop-next-init c =
    let a = c.args in
    (omega arith, (stands_none bus_of is_machine (admittance a.tolerance a.volts.now) blank_source _ _ refl refl, stands_none bus_of is_converter supplied_by blank_source _ _ refl refl))

pub bounds-sources-next : goal.bounds-sources-next
bounds-sources-next c = omega arith

pub overflow_add-next : goal.overflow_add-next
overflow_add-next c = omega arith

pub bounds-supplied_re-b : goal.bounds-supplied_re-b
bounds-supplied_re-b c = ltb-true _ max_buses (both_true _ _ c.if-b-is_converter.true).0

pub bounds-supplied_im-b : goal.bounds-supplied_im-b
bounds-supplied_im-b c = ltb-true _ max_buses (both_true _ _ c.if-b-is_converter.true).0

pub loop-next-smaller-then-b-is_converter : goal.loop-next-smaller-then-b-is_converter
loop-next-smaller-then-b-is_converter c = omega arith

pub loop-next-preserved-then-b-is_converter : goal.loop-next-preserved-then-b-is_converter
loop-next-preserved-then-b-is_converter c =
    let l = c.loop-next in
    let a = c.args in
    let p = source_at a.sources l.next in
    let k = take a.n a.sources in
    let h = whole (goal.at.loop-next-preserved-then-b-is_converter c).Start in
    let m = inside (goal.at.loop-next-preserved-then-b-is_converter c).In-loop-next in
    let e = read_counted max_sources a.n a.sources h l.next blank_source m in
    let g = admittance a.tolerance a.volts.now in
    let q = both_true (ltb p.bus max_buses) c.is_converter.result c.if-b-is_converter.true in
    let s : is_converter p ≡ true = sym c.is_converter.ensures ∙ q.1 in (
      omega (arith, c.loop-next-test.true),
      (
        stands_passed bus_of is_machine g blank_source k l.own_re l.own_im l.next p m e l.invariant.1.0 (converter-passed p s),
        stands_more bus_of is_converter supplied_by blank_source k l.supplied_re l.supplied_im l.next p m e l.invariant.1.1 c.add-total.result (ltb-true _ max_buses q.0) s
            (c.add-total.ensures ∙ ap₂ added c.point_at.ensures c.converter_current.ensures),
      ),
    )

pub bounds-own_re-b : goal.bounds-own_re-b
bounds-own_re-b c = c.if-b-lt-BUSES.true

pub bounds-own_im-b : goal.bounds-own_im-b
bounds-own_im-b c = c.if-b-lt-BUSES.true

pub loop-next-smaller-then-b-lt-BUSES : goal.loop-next-smaller-then-b-lt-BUSES
loop-next-smaller-then-b-lt-BUSES c = omega arith

pub loop-next-preserved-then-b-lt-BUSES : goal.loop-next-preserved-then-b-lt-BUSES
loop-next-preserved-then-b-lt-BUSES c =
    let l = c.loop-next in
    let a = c.args in
    let p = source_at a.sources l.next in
    let k = take a.n a.sources in
    let h = whole (goal.at.loop-next-preserved-then-b-lt-BUSES c).Start in
    let m = inside (goal.at.loop-next-preserved-then-b-lt-BUSES c).In-loop-next in
    let e = read_counted max_sources a.n a.sources h l.next blank_source m in
    let g = admittance a.tolerance a.volts.now in
    let q = c.if-b-lt-BUSES.true in
    let s = there (ltb p.bus max_buses) _ (is_converter p) c.is_converter.ensures c.if-b-is_converter.false (lt-ltb p.bus max_buses q) in
    let y = c.machine_admittance-more.ensures ∙ ap (λ (v : ℕ). admittance_by a.tolerance v p) c.number_at.ensures in (
      omega (arith, c.loop-next-test.true),
      (
        stands_more bus_of is_machine g blank_source k l.own_re l.own_im l.next p m e l.invariant.1.0 c.add-total-then-b-lt-BUSES.result q (ap not s) (c.add-total-then-b-lt-BUSES.ensures ∙ ap₂ added c.point_at-then-b-lt-BUSES.ensures y),
        stands_passed bus_of is_converter supplied_by blank_source k l.supplied_re l.supplied_im l.next p m e l.invariant.1.1 (rw (lt-ltb p.bus max_buses q, s)),
      ),
    )

pub loop-next-smaller : goal.loop-next-smaller
loop-next-smaller c = omega arith

pub loop-next-preserved : goal.loop-next-preserved
loop-next-preserved c =
    let l = c.loop-next in
    let a = c.args in
    let p = source_at a.sources l.next in
    let k = take a.n a.sources in
    let h = whole (goal.at.loop-next-preserved c).Start in
    let m = inside (goal.at.loop-next-preserved c).In-loop-next in
    let e = read_counted max_sources a.n a.sources h l.next blank_source m in
    let g = admittance a.tolerance a.volts.now in
    let q = le-ltb p.bus max_buses c.if-b-lt-BUSES.false in (
      omega (arith, c.loop-next-test.true),
      (
        stands_passed bus_of is_machine g blank_source k l.own_re l.own_im l.next p m e l.invariant.1.0 (rw q),
        stands_passed bus_of is_converter supplied_by blank_source k l.supplied_re l.supplied_im l.next p m e l.invariant.1.1 (rw q),
      ),
    )

pub returns : goal.returns
unfolding standing_of
returns c =
    let l = c.loop-next in
    let a = c.args in
    let k = take a.n a.sources in
    let m : length k ≤ l.next = omega (arith, length-take a.n a.sources) in
    rw (stands_column bus_of is_machine (admittance a.tolerance a.volts.now) blank_source k l.own_re l.own_im l.next m l.invariant.1.0, stands_column bus_of is_converter supplied_by blank_source k l.supplied_re l.supplied_im l.next m l.invariant.1.1)
