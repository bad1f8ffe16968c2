use Rattle.std.proofs.Common.{sym, refl, ◌∙◌, arith, drop_of_length-le}
use Rattle.printing.proofs.Putting.{next_put, next_left_out}
use Rattle.printing.specs.Line.{after_text}
use Rattle.printing.proofs.put.Goals as goal
use Rattle.printing.proofs.put.Goals.{then-to-lt-LINE, else-to-lt-LINE}

pub loop-i-init : goal.loop-i-init
loop-i-init c = (omega arith, refl)

pub loop-i-preserved : goal.loop-i-preserved
loop-i-preserved c =
    let l = c.loop-i in
    let bytes = c.args.bytes.now in
    let h = c.loop-i-test.true in (
      omega arith,
      elim c.if-to-lt-LINE.branch [
        | then-to-lt-LINE w ↦ rw (w.line-is, w.to-is) (next_put l.line l.to bytes l.i h w.if-to-lt-LINE.true) ∙ l.invariant.1
        | else-to-lt-LINE w ↦ rw (w.line-is, w.to-is) (next_left_out l.line l.to bytes l.i h w.if-to-lt-LINE.false) ∙ l.invariant.1
      ],
    )

pub returns : goal.returns
unfolding after_text
returns c =
    let l = c.loop-i in
    let bytes = c.args.bytes.now in
    sym l.invariant.1 ∙ rw (drop_of_length-le bytes c.loop-i-test.false)
