-- `feeder_place_ok` meets its contract, by what `is_feeder` ensures.
use Rattle.network.proofs.source_grounds.feeder_place_ok.Goals as goal

pub returns : goal.returns
returns c = rw c.is_feeder-feeder.ensures
