use Rattle.std.specs.Prelude.{◌≡◌, refl, List, ◌++◌, ℕ, ◌*◌, ◌≤◌, ◌<◌, length}
use Rattle.std.proofs.Common.{sym, ap, ap₂, ◌∙◌, arith, length-take, get_or-take, rules}
use Rattle.network.specs.declared.study.Bus.{Bus}
use Rattle.network.specs.Network.{network, bus_at, blank, max_buses}
use Rattle.network.specs.Doubles.{rated_verdict}
use Rattle.network.specs.Report.{reported_at}
use Rattle.network.specs.laws.Arrays.{length_mapped, read_inside}
use Rattle.network.specs.laws.Report.{report_rows}
use Rattle.noldveig.specs.Rows.{bus_row, rows_text}
use Rattle.noldveig.specs.laws.Rows.{rows_more}
use Rattle.noldveig.proofs.lay_board.Invariants.{Holds}
use Rattle.noldveig.proofs.lay_board.Goals as goal

pub loop-b-init : goal.loop-b-init
unfolding rows_text
loop-b-init c =
    let s = c.args.s in
    let whole : length s.buses ≡ max_buses = search (rules, length_mapped) in (
      (omega (arith, c.bus_total-total.ensures, length-take s.bus_count s.buses), search (rules, length_mapped), search (rules, length_mapped)),
      omega arith,
      omega arith,
      refl,
      λ n h. refl,
    )

pub offset_bounds-buses-b : goal.offset_bounds-buses-b
offset_bounds-buses-b c = omega (arith, c.loop-b.invariant.0, c.loop-b-test.true)

pub bounds-buses-b : goal.bounds-buses-b
bounds-buses-b c = omega (arith, c.loop-b.invariant.0, c.loop-b-test.true)

pub overflow_cast-b : goal.overflow_cast-b
overflow_cast-b c = omega arith

pub lay_bus-at-requires : goal.lay_bus-at-requires
lay_bus-at-requires c = omega arith

pub overflow_add-b : goal.overflow_add-b
overflow_add-b c = omega arith

pub loop-b-smaller : goal.loop-b-smaller
loop-b-smaller c = omega arith

pub loop-b-preserved : goal.loop-b-preserved
loop-b-preserved c =
    let turn = c.lay_bus-at in
    let l = c.loop-b in
    let buses = c.buses_of-buses.result in
    let there : l.b < max_buses = omega (arith, l.invariant.0, c.loop-b-test.true) in
    let record-read = read_inside buses l.b _ blank (omega (arith, l.invariant.0)) in (
      l.invariant.0,
      omega arith,
      omega (arith, turn.ensures.place),
      turn.auto.out ∙ l.invariant.3,
      λ n h.
          let amperes : c.row_of-amperes.result ≡ reported_at n l.b = c.row_of-amperes.ensures.row ∙ (h l.b c.loop-b-test.true).0 in
          let verdict : c.verdict_at-verdict.result ≡ rated_verdict (bus_at n.buses l.b) (reported_at n l.b) =
          c.verdict_at-verdict.ensures.verdict ∙ ap₂ rated_verdict (record-read ∙ (h l.b c.loop-b-test.true).1) amperes in
          turn.ensures.text ∙ ap₂ (λ (x y : List ℕ). x ++ y) (l.invariant.4 n h) (ap₂ (bus_row l.b) amperes verdict) ∙ rows_more n l.b,
    )

pub returns : goal.returns
returns c =
    let l = c.loop-b in
    let s = c.args.s in
    let n = network s in
    let made = c.report in
    let buses = c.buses_of-buses in
    let total = c.bus_total-total.ensures in
    let whole : length s.buses ≡ max_buses = search (rules, length_mapped) in
    let room-enough : 6 * length n.buses ≤ 6 * max_buses = omega (arith, length-take s.bus_count s.buses) in
    let last : l.b ≡ length n.buses = omega (arith, total, l.invariant.1, c.loop-b-test.false) in
    let held : Holds n made.new.table buses.result c.bus_total-total.result = λ b h.
    let k : b < length n.buses = omega (arith, total) in
    (report_rows n _ made.new.table made.result made.ensures.number made.ensures.table c.requires.closed room-enough b k, sym (get_or-take (length n.buses) buses.result b blank k) ∙ ap (λ (x : List Bus). bus_at x b) buses.ensures) in
    record { place = omega (arith, l.invariant.0, l.invariant.1, l.invariant.2); text = l.invariant.4 n held ∙ ap (rows_text n) last }
