-- `number_size` meets its contract. The invariant: the bound is ten to the size, and the number reaches ten to one less. The measure is
-- how far the bound is from one that no number of 32 bits reaches.
use Rattle.std.specs.Prelude.{◌≡◌, ◌-◌, ◌^◌, ◌≤◌, ◌<◌}
use Rattle.writer.proofs.number_size.Given as goal

abbrev pub invariant-loop-bound : goal.invariant-loop-bound
invariant-loop-bound l = (l.wide ≡ l.n) × (l.bound ≡ 10 ^ l.size) × (1 ≤ l.size) × (l.size < l.bound) × (1 < l.size → 10 ^ (l.size - 1) ≤ l.n)

abbrev pub decreases-loop-bound : goal.decreases-loop-bound
decreases-loop-bound l = 2 ^ 36 - l.bound
