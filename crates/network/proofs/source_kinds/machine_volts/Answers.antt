-- `machine_volts` meets its contract, by what `is_unit` ensures.
use Rattle.network.proofs.source_kinds.machine_volts.Goals as goal

pub returns-then-is_unit : goal.returns-then-is_unit
returns-then-is_unit c = rw (← c.is_unit.ensures, c.if-is_unit.true)

pub returns-else-is_unit : goal.returns-else-is_unit
returns-else-is_unit c = rw (← c.is_unit.ensures, c.if-is_unit.false)
