-- `no_additions` meets its contract: every place holds a blank bus, and none is counted.
use Rattle.network.proofs.additions.no_additions.Goals as goal

pub returns : goal.returns
returns c = rw c.blank_bus-blank.ensures
