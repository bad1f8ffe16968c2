use Rattle.std.specs.Prelude.{◌+◌, ◌*◌, ◌^◌, ◌≤◌, ◌<◌, ◌≡◌, refl, length, take, set}
use Rattle.std.proofs.Common.{sym, ◌∙◌, ap, arith, length-take, length-set, take_all, get_or-take, rules}
use Rattle.tree.specs.Limits.{max_sources}
use Rattle.network.specs.Network.{network, source_at, blank_source}
use Rattle.network.specs.laws.Arrays.{length_mapped}
use Rattle.breaking.specs.Doubles.{part_at, steps_from}
use Rattle.breaking.specs.laws.Tables.{part_of_few, steps_few, table_more, steps_more, table_all}
use Rattle.breaking.proofs.table.lay_shares.Invariants.{part_by}
use Rattle.breaking.proofs.table.lay_shares.Goals as goal
use Rattle.breaking.proofs.table.lay_shares.Goals.{Start}

-- as many sources as there is room for
few : (c : Start) → length c.args.s.sources ≡ max_sources
few c = search (rules, length_mapped)

pub loop-j-init : goal.loop-j-init
loop-j-init c =
    let t = c in
    let a = t in
    let h = few (goal.at.loop-j-init c).Start in
    let n : t.source_total-total.result ≤ max_sources = omega (arith, t.source_total-total.ensures, length-take a.args.s.source_count a.args.s.sources) in
    (omega arith, (search (rules, length_mapped), n, omega (arith, t.source_total-total.ensures, a.requires), refl), refl, refl)

pub offset_bounds-sources-j : goal.offset_bounds-sources-j
offset_bounds-sources-j c = omega arith

pub bounds-sources-j : goal.bounds-sources-j
bounds-sources-j c = omega arith

pub overflow_mul-table : goal.overflow_mul-table
overflow_mul-table c = omega arith

pub offset_bounds-table-j : goal.offset_bounds-table-j
offset_bounds-table-j c = omega arith

pub bounds-table-j : goal.bounds-table-j
bounds-table-j c = omega arith

pub overflow_mul-table-in-loop-j : goal.overflow_mul-table-in-loop-j
overflow_mul-table-in-loop-j c = omega arith

pub overflow_add-table : goal.overflow_add-table
overflow_add-table c = omega arith

pub offset_bounds-table-j-in-loop-j : goal.offset_bounds-table-j-in-loop-j
offset_bounds-table-j-in-loop-j c = omega arith

pub bounds-table-j-in-loop-j : goal.bounds-table-j-in-loop-j
bounds-table-j-in-loop-j c =
    let l = c.loop-j in
    omega (arith, length-set l.table (2 * l.j) c.part_of-part.result.lower)

pub overflow_add-steps : goal.overflow_add-steps
overflow_add-steps c =
    let l = c.loop-j in
    let a = c.args in
    let f = part_by c.tolerance_of-tolerance.result a.delay c.drive-driven.result c.ways_from-ways.result in
    let k = take l.j (take c.source_total-total.result c.sources_of-sources.result) in
    let h = steps_few f (λ p. part_of_few _ _ _ _ _ _ p) 0 k in
    let m : length k ≤ max_sources = omega (arith, length-take l.j (take c.source_total-total.result c.sources_of-sources.result), l.invariant.0, l.invariant.1.1) in
    let g : c.part_of-part.result.steps ≤ 2 ^ 53 = rw c.part_of-part.ensures (part_of_few _ _ _ _ _ _ _) in
    record { fits = omega (arith, l.invariant.3) }

pub overflow_add-j : goal.overflow_add-j
overflow_add-j c = omega arith

pub loop-j-smaller : goal.loop-j-smaller
loop-j-smaller c = omega arith

pub loop-j-preserved : goal.loop-j-preserved
loop-j-preserved c =
    let l = c.loop-j in
    let a = c.args in
    let f = part_by c.tolerance_of-tolerance.result a.delay c.drive-driven.result c.ways_from-ways.result in
    let k = take c.source_total-total.result c.sources_of-sources.result in
    let p = source_at c.sources_of-sources.result l.j in
    let m : l.j < length k = omega (arith, length-take c.source_total-total.result c.sources_of-sources.result, l.invariant.1.0, l.invariant.1.1) in
    let e : p ≡ source_at k l.j = sym (get_or-take c.source_total-total.result c.sources_of-sources.result l.j blank_source (omega arith)) in
    let q : c.part_of-part.result ≡ f p = c.part_of-part.ensures in (
      omega arith,
      (l.invariant.1.0, l.invariant.1.1, l.invariant.1.2, length-set (set l.table (2 * l.j) _) (2 * l.j + 1) _ ∙ length-set l.table (2 * l.j) _ ∙ l.invariant.1.3),
      rw q (table_more f k l.j m p e _ l.table l.invariant.2),
      rw q (steps_more f k l.j m p e l.steps l.invariant.3),
    )

pub shape_of-table : goal.shape_of-table
shape_of-table c = c.loop-j.invariant.1.3

pub returns : goal.returns
returns c =
    let l = c.loop-j in
    let a = c.args in
    let t = c.source_total-total in
    let k = take t.result c.sources_of-sources.result in
    let f = part_by c.tolerance_of-tolerance.result a.delay c.drive-driven.result c.ways_from-ways.result in
    let m : length k ≤ l.j = omega (arith, length-take t.result c.sources_of-sources.result) in
    let w : k ≡ (network a.s).sources = rw t.ensures c.sources_of-sources.ensures.sources in
    let e : f ≡ part_at (network a.s) a.b a.delay = rw (c.drive-driven.ensures, c.number_at.ensures, c.ways_from-ways.ensures, c.tolerance_of-tolerance.ensures) refl in record { steps = rw (← e, ← w) (l.invariant.3 ∙ ap (steps_from f 0) (take_all l.j k m)); table = rw (← e, ← w) (table_all f k l.j a.table.now l.table m (omega (arith, length-take t.result c.sources_of-sources.result, l.invariant.1.2)) l.invariant.2) }
