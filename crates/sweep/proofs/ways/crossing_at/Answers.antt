-- `crossing_at` calculates its definition. Assumes nothing.
use Rattle.sweep.specs.Crossings.{crossing_at}
use Rattle.sweep.proofs.ways.crossing_at.Goals as goal

pub returns : goal.returns
unfolding crossing_at
returns c =
    let d2 = c in
    let d1 = d2 in
    let i1 = d1 in
    let n2 = i1 in
    rw (← n2.number_at-a.ensures, ← n2.number_at-b.ensures, ← i1.inverse.ensures, ← d1.referred-parent_side.ensures, ← d1.divider.ensures, ← d2.inverse-2.ensures, ← d2.divider-2.ensures)
