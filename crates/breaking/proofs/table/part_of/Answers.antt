-- `part_of` calculates its definition: the equations of the functions that it calls, put together.
use Rattle.breaking.specs.Doubles.{part_of}
use Rattle.breaking.proofs.table.part_of.Goals as goal

pub returns : goal.returns
unfolding part_of
returns c =
    rw (← c.number_at.ensures, ← c.machine_admittance-y.ensures, ← c.strength.ensures, ← c.factor_at.ensures, ← c.factor_at-2.ensures) c.part_by.ensures
