-- `enclosure::add` computes its model. Assumes nothing.
use Rattle.std.proofs.Common.{rules}
use lib.Ieee.{add}
use Rattle.enclosure.specs.Doubles.{added}
use Rattle.enclosure.proofs.add.Goals as goal

pub returns : goal.returns
unfolding add added
returns c = search rules
