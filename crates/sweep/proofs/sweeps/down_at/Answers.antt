-- `down_at` meets its contract.
use Rattle.sweep.specs.Sweep.{down_at}
use Rattle.sweep.proofs.sweeps.down_at.Goals as goal

pub returns : goal.returns
unfolding down_at
returns c =
    rw (← c.parent_of-p.ensures, ← c.point_at-was.ensures, ← c.with_children-beside.ensures) c.with_parent.ensures
