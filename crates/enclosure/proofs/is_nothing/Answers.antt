-- `enclosure::is_nothing` computes its model. Assumes nothing.
use Rattle.std.proofs.Common.{rules}
use lib.Ieee.{eq}
use Rattle.enclosure.specs.Doubles.{empty}
use Rattle.enclosure.proofs.is_nothing.Goals as goal

pub returns : goal.returns
unfolding eq empty
returns c = search rules
