-- `share_steps` calculates its definition. Assumes nothing.
use Rattle.tree.specs.Ways.{share_steps}
use Rattle.breaking.specs.laws.Tables.{root_fine_few}
use Rattle.breaking.proofs.parts.share_steps.Goals as goal

pub returns : goal.returns
unfolding share_steps
returns c = record { steps = c.root_fine.ensures; few = rw c.root_fine.ensures (root_fine_few _) }
