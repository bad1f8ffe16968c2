-- `network::query::given` gives what Query defines. Assumes nothing.
use Rattle.std.specs.Prelude.{◌≡◌, ◌<◌, length}
use Rattle.std.proofs.Common.{sym, ap, ◌∙◌, arith, rules}
use Rattle.std.proofs.lemmas.Bool.{not-true, not-false}
use Rattle.tree.specs.Limits.{max_buses}
use Rattle.network.specs.Network.{network, bus_at, blank}
use Rattle.sweep.specs.Sweep.{seen_of}
use Rattle.network.specs.Doubles.{board_of, seen_at, carried_at}
use Rattle.network.specs.laws.Query.{row_by, answer_by, refused_whole, found_open, found_absent, found_there}
use Rattle.network.proofs.Lists.{length_mapped, inside_array, read_counted}
use Rattle.network.proofs.query.given.Goals as goal
use Rattle.network.proofs.query.given.Goals.{Else-bus_total-b, Start}

whole : (c : Start) → length c.args.s.buses ≡ max_buses
whole c = search (rules, length_mapped)

-- the bus that is read
inside : (c : Else-bus_total-b) → c.args.bus < length (network c.args.s).buses
inside c = omega (arith, c.bus_total.ensures, c.if-bus_total-b.false)

pub returns-then-not-s : goal.returns-then-not-s
returns-then-not-s c =
    let a = c.args in
    let e = c.refused.ensures in
    refused_whole _ 22 e.number e.amperes e.verdict ∙ sym (found_open (network a.s) (not-true _ c.if-not-s.true-raw) a.bus)

pub returns-then-bus_total-b : goal.returns-then-bus_total-b
returns-then-bus_total-b c =
    let a = c.args in
    let e = c.refused-then-bus_total-b.ensures in
    refused_whole _ 15 e.number e.amperes e.verdict
    ∙ sym (found_absent (network a.s) (not-false _ c.if-not-s.false-raw) a.bus (omega (arith, c.bus_total.ensures, c.if-bus_total-b.true)))

pub bounds-s-b : goal.bounds-s-b
bounds-s-b c =
    let a = c.args in
    inside_array max_buses a.s.bus_count a.s.buses (whole (goal.at.bounds-s-b c).Start) a.bus (inside c)

pub returns : goal.returns
unfolding seen_at seen_of carried_at board_of
returns c =
    let q = c in
    let d = q in
    let o = d in
    let s = o.args.s in
    let b = o.args.bus in
    let n = network s in
    let r = read_counted max_buses s.bus_count s.buses (whole (goal.at.returns c).Start) b blank (inside (goal.at.returns c).Else-bus_total-b) in
    let f : q.row_at-amperes.result ≡ row_by n b (bus_at s.buses b) = rw q.board_of-board.ensures at (q.row_at-amperes.ensures (length n.buses)) in
    let g : record { number = 0; amperes = q.row_at-amperes.result; verdict = c.verdict_at.result } ≡ answer_by n b (bus_at s.buses b) = rw (c.verdict_at.ensures.verdict, f) in
    g ∙ ap (answer_by n b) r ∙ sym (found_there n (not-false _ d.if-not-s.false-raw) b (inside (goal.at.returns c).Else-bus_total-b))
