use Rattle.std.specs.Prelude.{◌≡◌, refl, ◌+◌, ◌-◌}
use Rattle.std.proofs.Common.{sym, pow-suc, add-one, arith}
use Rattle.writer.specs.laws.Decimals.{decimal_size}
use Rattle.writer.proofs.number_size.Goals as goal

pub loop-bound-init : goal.loop-bound-init
loop-bound-init c = (refl, refl, omega arith, omega arith, λ h. absurd (omega arith))

pub loop-bound-preserved : goal.loop-bound-preserved
loop-bound-preserved c =
    let l = c.loop-bound in
    let less : l.size + 1 - 1 ≡ l.size = omega arith in
    let more = pow-suc 10 l.size in
    (refl, rw (add-one l.size) (omega arith), omega arith, omega arith, λ h. rw less (omega arith))

pub returns : goal.returns
returns c =
    let l = c.loop-bound in
    let n = c.args.n in
    sym (decimal_size l.size n (omega arith) (omega arith) (omega arith) l.invariant.4)
