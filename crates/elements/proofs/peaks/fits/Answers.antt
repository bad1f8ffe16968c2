-- `elements::peaks::fits` computes its definition. Assumes nothing.
use Rattle.std.proofs.Common.{lt-ltb, le-ltb}
use Rattle.elements.specs.Doubles.{fits_at}
use Rattle.elements.proofs.peaks.fits.Goals as goal

pub returns-then-p-gt3680 : goal.returns-then-p-gt3680
unfolding fits_at
returns-then-p-gt3680 c = rw (lt-ltb 3680 c.args.p c.if-p-gt3680.true)

pub returns : goal.returns
unfolding fits_at
returns c = let s = c in rw (le-ltb 3680 s.args.p s.if-p-gt3680.false)
