-- `crossings_of` fills its four columns. The invariant: they hold the buses so far.
use Rattle.std.specs.Prelude.{ℕ, ◌-◌, ◌≤◌, List, Float}
use Rattle.enclosure.specs.Doubles.{unity}
use Rattle.sweep.specs.declared.ways.Crossing.{Crossing}
use Rattle.sweep.specs.Points.{number_at, point_at}
use Rattle.sweep.specs.Crossings.{crossing_of}
use Rattle.sweep.specs.laws.Columns.{FilledTo}
use Rattle.sweep.proofs.ways.crossings_of.Given as goal

-- the branch of each bus by the columns
abbrev pub branch_of : List ℕ → List ℕ → List Float → List Float → List Float → List Float → List Float → List Float → ℕ → Crossing
branch_of above below z-re z-im down-re down-im up-re up-im = crossing_of (number_at above) (number_at below) (point_at z-re z-im) (point_at down-re down-im) (point_at up-re up-im)

abbrev pub invariant-loop-i : goal.invariant-loop-i
invariant-loop-i l =
    (l.i ≤ l.m)
    × (FilledTo unity (λ k. (branch_of l.above l.below l.z_re l.z_im l.down_re l.down_im l.up_re l.up_im k).divider_up) l.i l.divider_up
    × (FilledTo unity (λ k. (branch_of l.above l.below l.z_re l.z_im l.down_re l.down_im l.up_re l.up_im k).divider_down) l.i l.divider_down
    × (FilledTo unity (λ k. (branch_of l.above l.below l.z_re l.z_im l.down_re l.down_im l.up_re l.up_im k).ratio_up) l.i l.ratio_up
    × FilledTo unity (λ k. (branch_of l.above l.below l.z_re l.z_im l.down_re l.down_im l.up_re l.up_im k).ratio_down) l.i l.ratio_down)))

abbrev pub decreases-loop-i : goal.decreases-loop-i
decreases-loop-i l = l.m - l.i
