-- `unit_volts_ok` meets its contract, by what `is_unit` and `rated_ok` ensure.
use Rattle.network.proofs.source_grounds.unit_volts_ok.Goals as goal

pub returns : goal.returns
returns c = rw (c.rated_ok.ensures, c.is_unit.ensures)
