-- `divider` calculates its definition. Assumes nothing.
use Rattle.std.proofs.Common.{sym, ◌∙◌}
use Rattle.tree.specs.Ways.{divider_by}
use Rattle.sweep.proofs.ways.divider.Goals as goal

pub returns-then-is_nothing : goal.returns-then-is_nothing
unfolding divider_by
returns-then-is_nothing c = rw (sym c.is_nothing.ensures ∙ c.if-is_nothing.true)

pub returns : goal.returns
unfolding divider_by
returns c =
    let a = c in
    rw (sym a.is_nothing.ensures ∙ a.if-is_nothing.false, ← a.add-sum.ensures)
