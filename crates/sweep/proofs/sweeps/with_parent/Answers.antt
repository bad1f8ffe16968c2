-- `with_parent` meets its contract, with a parent and at bus 0.
use Rattle.std.proofs.Common.{le-ltb, lt-ltb}
use Rattle.sweep.specs.Sweep.{with_parent}
use Rattle.sweep.proofs.sweeps.with_parent.Goals as goal

pub returns-then-b-gt0 : goal.returns-then-b-gt0
unfolding with_parent
returns-then-b-gt0 c = rw (lt-ltb 0 _ c.if-b-gt0.true, ← c.point_at.ensures) c.add.ensures

pub returns : goal.returns
unfolding with_parent
returns c = rw (le-ltb 0 _ c.if-b-gt0.false)
