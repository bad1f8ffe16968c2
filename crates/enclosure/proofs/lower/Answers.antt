-- `enclosure::lower` computes its definition. Assumes nothing.
use Rattle.std.proofs.Common.{sym, ◌∙◌}
use Rattle.enclosure.specs.Doubles.{lower_of}
use Rattle.enclosure.proofs.lower.Goals as goal

pub returns-then-is_nothing : goal.returns-then-is_nothing
unfolding lower_of
returns-then-is_nothing c = rw (sym c.is_nothing.ensures ∙ c.if-is_nothing.true)

pub returns : goal.returns
unfolding lower_of
returns c = rw (c.size_below.ensures, sym c.is_nothing.ensures ∙ c.if-is_nothing.false)
