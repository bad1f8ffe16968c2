-- `numbers_of` meets its contract. The invariant: what is collected so far, with the fields that follow, is what all of them give.
use Rattle.std.specs.Prelude.{◌+◌, ◌-◌, length}
use Rattle.reader.proofs.Collecting.{Progress}
use Rattle.reader.proofs.fields.numbers_of.Given as goal

abbrev pub invariant-loop-at : goal.invariant-loop-at
invariant-loop-at l = Progress l.row l.values l.count l.at

abbrev pub decreases-loop-at : goal.decreases-loop-at
decreases-loop-at l = length l.row + 1 - l.at
