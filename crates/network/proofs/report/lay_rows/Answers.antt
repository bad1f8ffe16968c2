use Rattle.std.specs.Prelude.{◌*◌, ◌<◌, ◌≡◌, refl, length}
use Rattle.std.proofs.Common.{◌∙◌, ap, arith, rules}
use Rattle.std.proofs.Math.Seq.{sets, length-sets}
use Rattle.tree.specs.Limits.{max_buses}
use Rattle.sweep.specs.Sweep.{seen_of}
use Rattle.network.specs.declared.query.Amperes.{Amperes}
use Rattle.network.specs.Network.{network, bus_at, blank}
use Rattle.network.specs.Doubles.{board_of, seen_at, carried_at}
use Rattle.network.specs.Report.{reported_at, row_numbers, rows_numbers, reported}
use Rattle.network.specs.laws.Query.{row_by}
use Rattle.network.specs.laws.Report.{rows_length, rows_more}
use Rattle.network.specs.laws.Tables.{laid_sets}
use Rattle.network.proofs.Lists.{length_mapped, inside_array, read_counted}
use Rattle.network.proofs.report.lay_rows.Goals as goal
use Rattle.network.proofs.report.lay_rows.Goals.{In-loop-b, Start}

whole : (c : Start) → length c.args.s.buses ≡ max_buses
whole c = search (rules, length_mapped)

-- a bus that is counted
inside : (c : In-loop-b) → c.loop-b.b < length (network c.args.s).buses
inside c = omega (arith, c.loop-b.invariant.1.0, c.loop-b-test.true)

small : (c : In-loop-b) → c.loop-b.b < max_buses
small c =
    let s = c.args.s in
    inside_array max_buses s.bus_count s.buses ((let whole_here : length c.args.s.buses ≡ max_buses = search (rules, length_mapped) in whole_here)) c.loop-b.b ((let inside_here : c.loop-b.b < length (network c.args.s).buses = omega (arith, c.loop-b.invariant.1.0, c.loop-b-test.true) in inside_here))

pub loop-b-init : goal.loop-b-init
unfolding rows_numbers
loop-b-init c =
    let e = c.bus_total-total.ensures in
    (omega arith, (e, omega (arith, e, c.requires), refl), refl)

pub bounds-buses-b : goal.bounds-buses-b
bounds-buses-b c =
    let s = c.args.s in
    let h : length s.buses ≡ max_buses = search (rules, length_mapped) in
    inside_array max_buses s.bus_count s.buses h c.loop-b.b (omega (arith, c.loop-b.invariant.1.0, c.loop-b-test.true))

pub overflow_mul-b : goal.overflow_mul-b
overflow_mul-b c = omega (arith, small (goal.at.overflow_mul-b c).In-loop-b)

pub lay_row-requires : goal.lay_row-requires
lay_row-requires c = let l = c.loop-b in omega (arith, l.invariant.1.1, l.invariant.1.2, c.loop-b-test.true)

pub overflow_add-b : goal.overflow_add-b
overflow_add-b c = omega (arith, small (goal.at.overflow_add-b c).In-loop-b)

pub loop-b-smaller : goal.loop-b-smaller
loop-b-smaller c = omega arith

pub loop-b-preserved : goal.loop-b-preserved
unfolding seen_at seen_of carried_at board_of
loop-b-preserved c =
    let l = c.loop-b in
    let s = c.args.s in
    let n = network s in
    let q = c.row_at-amperes in
    let r = read_counted max_buses s.bus_count s.buses (whole (goal.at.loop-b-preserved c).Start) l.b blank (inside (goal.at.loop-b-preserved c).In-loop-b) in
    let f : q.result ≡ row_by n l.b (bus_at s.buses l.b) = rw c.board_of-board.ensures at (q.ensures (length n.buses)) in
    let g : q.result ≡ reported_at n l.b = f ∙ ap (row_by n l.b) r in
    let t = c.lay_row.ensures in (
      omega arith,
      (l.invariant.1.0, l.invariant.1.1, ap length t ∙ length-sets l.table (6 * l.b) (row_numbers q.result) ∙ l.invariant.1.2),
      t ∙ ap (λ (a : Amperes). sets l.table (6 * l.b) (row_numbers a)) g ∙ rows_more (reported_at n) l.b _ l.table l.invariant.2,
    )

pub returns : goal.returns
returns c =
    let l = c.loop-b in
    let n = network c.args.s in
    let e : l.b ≡ length n.buses = omega (arith, l.invariant.0, l.invariant.1.0, c.loop-b-test.false) in
    l.invariant.2 ∙ rw e (laid_sets (reported n) _ (omega (arith, rows_length (reported_at n) (length n.buses), l.invariant.1.0, l.invariant.1.1)))
