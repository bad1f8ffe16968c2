-- `entry_of` meets its contract, by what the row says.
use Rattle.reader.proofs.parts.entry_of.Goals as goal

pub returns-in-WithBus : goal.returns-in-WithBus
returns-in-WithBus c = rw c.in-WithBus.is

pub returns-in-WithSource : goal.returns-in-WithSource
returns-in-WithSource c = rw c.in-WithSource.is
