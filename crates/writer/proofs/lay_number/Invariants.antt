-- `lay_number` meets its contract. The invariant: laying the digits that are left gives what laying all of them gives, and the place
-- is that of the last of these. The measure is the number that is left.
use Rattle.std.specs.Prelude.{◌≡◌, ◌+◌, ◌^◌, ◌<◌, length}
use Rattle.std.proofs.Math.Seq.{sets}
use Rattle.printing.specs.Printed.{decimal}
use Rattle.writer.proofs.lay_number.Given as goal

abbrev pub invariant-loop-rest : goal.invariant-loop-rest
invariant-loop-rest l =
    (l.rest < 2 ^ 32) × (length l.buffer ≡ length l.initial.buffer) × (l.to + 1 ≡ l.at + length (decimal l.rest)) × (l.to < length l.initial.buffer) × (sets l.buffer l.at (decimal l.rest) ≡ sets l.initial.buffer l.at (decimal l.n))

abbrev pub decreases-loop-rest : goal.decreases-loop-rest
decreases-loop-rest l = l.rest
