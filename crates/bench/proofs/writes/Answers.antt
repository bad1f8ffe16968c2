use Rattle.std.specs.Prelude.{◌≡◌, refl, List, ℕ, length}
use Rattle.std.proofs.Common.{sym, ap, ◌∙◌, arith, rules}
use Rattle.network.specs.Network.{network}
use Rattle.writer.specs.Writing.{write_length, after_write}
use Rattle.bench.specs.Writes.{written_times, written_more}
use Rattle.bench.proofs.writes.Goals as goal

pub loop-i-init : goal.loop-i-init
unfolding written_times
loop-i-init c = (omega arith, refl, refl)

pub loop-i-preserved : goal.loop-i-preserved
loop-i-preserved c =
    let a = c.args in
    let l = c.loop-i in
    let n = network a.s in
    let write = c.write-written in
    let given = written_more n a.buffer.now l.i ∙ ap (λ (b : List ℕ). (after_write n b, write_length n (length b))) (ap (λ (p : List ℕ × ℕ). p.0) l.invariant.2) in (
      omega arith,
      search rules,
      given ∙ rw (write.ensures.length, write.ensures.buffer),
    )

pub returns : goal.returns
returns c =
    let a = c.args in
    let l = c.loop-i in
    let i : l.i ≡ a.k = omega arith in
    ap (written_times (network a.s) a.buffer.now) (sym i) ∙ l.invariant.2
