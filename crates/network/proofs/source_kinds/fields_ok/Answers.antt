-- `fields_ok` meets its contract, by what its tests ensure.
use Rattle.network.specs.SourceKinds.{fields_ok}
use Rattle.network.proofs.source_kinds.fields_ok.Goals as goal

pub returns : goal.returns
unfolding fields_ok
returns c = rw (c.no_transformer.ensures, c.is_unit.ensures, c.ranges_ok.ensures)
