-- `transformer_volts_ok` meets its contract, by what `rated_ok` ensures on both sides.
use Rattle.network.proofs.bus_grounds.transformer_volts_ok.Goals as goal

pub returns : goal.returns
returns c = cc
