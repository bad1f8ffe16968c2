use Rattle.std.specs.Prelude.{◌≡◌, refl}
use Rattle.std.proofs.Common.{sym, ap, ◌∙◌, arith, rules}
use Rattle.std.specs.Float.Ieee.{of_bits}
use Rattle.network.specs.Network.{network}
use Rattle.bench.specs.Reports.{reported_times, reported_more}
use Rattle.bench.proofs.reports.Goals as goal

pub loop-i-init : goal.loop-i-init
unfolding reported_times of_bits
loop-i-init c = (omega arith, refl, refl)

pub loop-i-preserved : goal.loop-i-preserved
loop-i-preserved c =
    let l = c.loop-i in
    let given = c.report.ensures in
    (omega arith, search rules, reported_more _ _ refl _ l.i _ l.invariant.2 _ _ _ given.number given.table c.with_numbers-total.ensures)

pub returns : goal.returns
returns c =
    let a = c.args in
    let l = c.loop-i in
    let i : l.i ≡ a.k = omega arith in
    ap (reported_times (network a.s) a.table.now) (sym i) ∙ l.invariant.2
