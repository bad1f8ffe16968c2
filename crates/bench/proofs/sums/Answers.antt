use Rattle.std.specs.Prelude.{◌≡◌, refl}
use Rattle.std.specs.Float.{binary64}
use Rattle.std.proofs.Common.{sym, ap, ap₂, ◌∙◌, arith}
use Rattle.std.specs.Float.Ieee.{add, of_bits}
use Rattle.network.specs.Network.{network}
use Rattle.bench.specs.Queries.{sum_of, sums_of, sums_more}
use Rattle.bench.proofs.sums.Goals as goal

pub loop-i-init : goal.loop-i-init
unfolding sums_of of_bits
loop-i-init c = (omega arith, refl)

pub overflow_add-i : goal.overflow_add-i
overflow_add-i c = omega arith

pub loop-i-smaller : goal.loop-i-smaller
loop-i-smaller c = omega arith

pub loop-i-preserved : goal.loop-i-preserved
loop-i-preserved c =
    let a = c.args in (
      omega arith,
      ap₂ (add binary64) c.loop-i.invariant.1 (c.sum_of-total.ensures ∙ ap sum_of c.query-found.ensures.amperes)
          ∙ sym (sums_more (network a.s) a.n c.loop-i.i),
    )

pub returns : goal.returns
returns c =
    let a = c.args in
    let i : c.loop-i.i ≡ a.k = omega arith in
    c.loop-i.invariant.1 ∙ ap (sums_of (network a.s) a.n) i
