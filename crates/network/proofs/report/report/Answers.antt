-- `report` meets its contract: refused with nothing touched, or the rows laid.
use Rattle.std.specs.Prelude.{ℕ, ◌≡◌, refl, List, length, Float}
use Rattle.std.proofs.Common.{sym, ◌∙◌, arith, rules, eq-eqb, ne_eqb}
use Rattle.tree.specs.Limits.{max_buses}
use Rattle.network.specs.Network.{Network, network}
use Rattle.network.specs.NearPeaks.{NearReport}
use Rattle.network.specs.Report.{report_number, reported, ReportPromise}
use Rattle.network.specs.Tables.{table_after}
use Rattle.network.specs.laws.Report.{report_room, report_kept, near_report_kept}
use Rattle.network.proofs.Lists.{length_mapped, count_most}
use Rattle.network.proofs.report.report.Goals as goal
use Rattle.network.proofs.report.report.Goals.{After-report_number-number, Start}

-- a number and a table as Report defines them keep the promise
given : (n : Network) (number : ℕ) (lent table : List Float) → number ≡ report_number n (length lent) → table ≡ table_after number (reported n) lent
    → (number ≡ report_number n (length lent)) × ((table ≡ table_after number (reported n) lent) × (ReportPromise n lent table × NearReport n lent table))
given n number lent table e t =
    let u : table ≡ table_after (report_number n (length lent)) (reported n) lent = t ∙ rw e in
    (e, (t, (rw u (report_kept n lent), rw u (near_report_kept n lent))))

whole : (c : Start) → length c.args.s.buses ≡ max_buses
whole c = search (rules, length_mapped)

pub report_number-number-requires : goal.report_number-number-requires
report_number-number-requires c =
    let s = c.args.s in
    omega (arith, c.bus_total.ensures, count_most max_buses s.bus_count s.buses (whole (goal.at.report_number-number-requires c).Start))

-- the number that was found is that of the order
number-found : (c : After-report_number-number) → c.report_number-number.result ≡ report_number (network c.args.s) (length c.args.table.now)
number-found c = c.report_number-number.ensures (network c.args.s) refl (sym c.bus_total.ensures)

pub returns-then-number-ne0 : goal.returns-then-number-ne0
unfolding table_after
returns-then-number-ne0 c =
    let a = c.args in
    let e = given (network a.s) _ a.table.now a.table.now (number-found (goal.at.returns-then-number-ne0 c).After-report_number-number) (rw (ne_eqb c.report_number-number.result 0 c.if-number-ne0.true) refl) in
    record { number = e.0; table = e.1.0; promise = e.1.1.0; near = e.1.1.1 }

pub lay_rows-requires : goal.lay_rows-requires
lay_rows-requires c =
    let a = c.args in
    report_room (network a.s) (length a.table.now) (sym (number-found (goal.at.lay_rows-requires c).After-report_number-number) ∙ c.if-number-ne0.false)

pub returns : goal.returns
unfolding table_after
returns c =
    let a = c.args in
    let e = given (network a.s) _ a.table.now _ (number-found (goal.at.returns c).After-report_number-number) (rw (eq-eqb c.report_number-number.result 0 c.if-number-ne0.false) c.lay_rows.ensures) in
    record { number = e.0; table = e.1.0; promise = e.1.1.0; near = e.1.1.1 }
