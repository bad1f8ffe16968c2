use Rattle.std.specs.Prelude.{◌≡◌, refl, List, ◌%◌, Float}
use Rattle.std.specs.Float.{binary64}
use Rattle.std.proofs.Common.{sym, ap, ◌∙◌, arith, rules}
use Rattle.std.specs.Float.Ieee.{add, of_bits}
use Rattle.network.specs.Network.{network}
use Rattle.bench.specs.Breakings.{broken_table, broken_figure, broken_times, broken_more}
use Rattle.bench.proofs.breakings.Goals as goal

pub loop-i-init : goal.loop-i-init
unfolding broken_times of_bits
loop-i-init c = (omega arith, refl, refl)

pub loop-i-preserved : goal.loop-i-preserved
loop-i-preserved c =
    let a = c.args in
    let l = c.loop-i in
    let net = network a.s in
    let b = l.i % a.n in
    let broken = c.breaking-broken in
    let given = broken_more net a.n a.delay a.table.now l.i
    ∙ ap (λ (p : List Float × Float). (broken_table net b a.delay p.0, add binary64 p.1 (broken_figure net b a.delay p.0))) l.invariant.2 in (
      omega arith,
      search rules,
      given ∙ rw (broken.ensures.table, broken.ensures.figure, broken.ensures.number),
    )

pub returns : goal.returns
returns c =
    let a = c.args in
    let l = c.loop-i in
    let i : l.i ≡ a.k = omega arith in
    ap (broken_times (network a.s) a.n a.delay a.table.now) (sym i) ∙ l.invariant.2
