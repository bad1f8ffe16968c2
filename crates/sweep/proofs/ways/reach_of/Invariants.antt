-- `reach_of` fills its two columns. The invariant: they hold the buses so far.
use Rattle.std.specs.Prelude.{◌-◌, ◌≤◌}
use Rattle.enclosure.specs.Doubles.{unity, nought, faintest}
use Rattle.tree.specs.Ways.{over_way}
use Rattle.sweep.specs.Points.{number_at}
use Rattle.sweep.specs.Crossings.{factor_at}
use Rattle.sweep.specs.laws.Columns.{FilledTo}
use Rattle.sweep.proofs.ways.reach_of.Given as goal

abbrev pub invariant-loop-j : goal.invariant-loop-j
invariant-loop-j l =
    (l.j ≤ l.m)
    × (FilledTo unity (over_way (number_at l.parents) (factor_at l.divider_up) (factor_at l.divider_down) faintest l.b) l.j l.dividers
    × FilledTo unity (over_way (number_at l.parents) (factor_at l.ratio_up) (factor_at l.ratio_down) nought l.b) l.j l.ratios)

abbrev pub decreases-loop-j : goal.decreases-loop-j
decreases-loop-j l = l.m - l.j
