-- `bus_record_number` meets its contract: what the tests and the chain of `unless` ensure, put together.
use Rattle.network.specs.Grounds.{bus_record_number}
use Rattle.network.proofs.bus_grounds.bus_record_number.Goals as goal

pub returns : goal.returns
unfolding bus_record_number
returns c = cc
