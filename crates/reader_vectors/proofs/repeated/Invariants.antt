-- What is put stays within the text.
use Rattle.std.proofs.Common.{◌≡◌, ◌≤◌, length}
use Rattle.reader_vectors.proofs.repeated.Given as goal

abbrev pub invariant-loop : goal.invariant-loop
invariant-loop g l = (l.at ≤ 16384) × (length l.text ≡ 16384)
