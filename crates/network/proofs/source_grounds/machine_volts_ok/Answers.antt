-- `machine_volts_ok` meets its contract, by what `is_rated`, `machine_volts` and `rated_ok` ensure.
use Rattle.network.proofs.source_grounds.machine_volts_ok.Goals as goal

pub returns : goal.returns
returns c = rw (c.rated_ok.ensures, c.machine_volts.ensures, c.is_rated.ensures)
