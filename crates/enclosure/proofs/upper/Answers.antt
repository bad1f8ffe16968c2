-- `enclosure::upper` computes its definition. Assumes nothing.
use Rattle.std.proofs.Common.{sym, ◌∙◌, arith}
use Rattle.enclosure.specs.Doubles.{upper_of}
use Rattle.enclosure.specs.laws.Climb.{size_small}
use Rattle.enclosure.proofs.upper.Goals as goal

pub returns-then-is_nothing : goal.returns-then-is_nothing
unfolding upper_of
returns-then-is_nothing c = rw (sym c.is_nothing.ensures ∙ c.if-is_nothing.true)

pub overflow_add-result : goal.overflow_add-result
overflow_add-result c = let s = c.args in record { fits = omega (arith, size_small 1073741825 s.p s.q s.z) }

pub returns : goal.returns
unfolding upper_of
returns c = rw (c.size_below.ensures, sym c.is_nothing.ensures ∙ c.if-is_nothing.false)
