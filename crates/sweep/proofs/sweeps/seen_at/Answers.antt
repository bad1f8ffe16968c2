-- `seen_at` meets its contract.
use Rattle.sweep.specs.Sweep.{seen_of}
use Rattle.sweep.proofs.sweeps.seen_at.Goals as goal

pub returns : goal.returns
unfolding seen_of
returns c = rw (← c.point_at.ensures) c.with_parent.ensures
