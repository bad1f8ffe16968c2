-- `strength` calculates its definition. Assumes nothing.
use Rattle.std.specs.Prelude.{refl}
use Rattle.tree.specs.Ways.{strength_by}
use Rattle.breaking.proofs.parts.strength.Goals as goal

pub returns : goal.returns
unfolding strength_by
returns c = refl
