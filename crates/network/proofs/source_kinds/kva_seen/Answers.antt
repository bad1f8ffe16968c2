-- `kva_seen` meets its contract, by what `is_unit` ensures.
use Rattle.std.specs.Prelude.{◌^◌, ◌<◌}
use Rattle.std.proofs.Common.{arith, le_trans, lt_of_le_of_lt, mul-le-mul, lit<, lit≤, rules}
use Rattle.network.specs.RoundedSourceKinds.{kva_seen}
use Rattle.network.proofs.source_kinds.kva_seen.Goals as goal

pub overflow_mul-result : goal.overflow_mul-result
overflow_mul-result c = record { fits = lt_of_le_of_lt (mul-le-mul c.at_most_a_million.ensures.1 c.at_most_a_million-then-is_unit.ensures.1) (lit< tt) }

pub returns-then-is_unit : goal.returns-then-is_unit
unfolding kva_seen
returns-then-is_unit c = (rw (← c.is_unit.ensures, c.if-is_unit.true, ← c.at_most_a_million.ensures.0, ← c.at_most_a_million-then-is_unit.ensures.0), le_trans (mul-le-mul c.at_most_a_million.ensures.1 c.at_most_a_million-then-is_unit.ensures.1) (lit≤ tt))

pub returns : goal.returns
unfolding kva_seen
returns c = let h : c.args.p.f2 < 2 ^ 32 = search rules in (rw (← c.is_unit.ensures, c.if-is_unit.false), omega arith)
