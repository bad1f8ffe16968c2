-- `buses_of` meets its contract: of the array as many records as are counted.
use Rattle.network.proofs.Lists.{counted_again}
use Rattle.network.proofs.contents.buses_of.Goals as goal

pub returns : goal.returns
returns c = let s = c.args.s in counted_again s.bus_count s.buses
