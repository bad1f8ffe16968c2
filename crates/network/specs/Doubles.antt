-- The calculation of a query in f64, as the code makes it: a definition for each function. That it keeps demand 3 is proved in laws/Claim.
use Rattle.std.specs.Prelude.{ℕ, min, cond, List, eqb, length, Float}
use Rattle.std.specs.Float.{binary64}
use Rattle.std.specs.Float.Ieee.{add, sub, lt, le}
use Rattle.enclosure.specs.declared.Complex.{Complex}
use Rattle.enclosure.specs.Exact.{of_nat}
use Rattle.enclosure.specs.Doubles.{none, added, doubles, lower_of, upper_of}
use Rattle.elements.specs.Factors.{factor_c}
use Rattle.elements.specs.Doubles.{line_by, transformer_by, current_by, machine_peak_by, converter_peak_by}
use Rattle.tree.specs.Grid.{Grid, sum_of}
use Rattle.tree.specs.Converters.{gathered, from_root}
use Rattle.sweep.specs.declared.columns.Points.{Points}
use Rattle.sweep.specs.declared.sweeps.Rises.{Rises}
use Rattle.sweep.specs.declared.sweeps.Falls.{Falls}
use Rattle.sweep.specs.Columns.{column}
use Rattle.sweep.specs.Points.{number_at, point_of, points_of, column_grid}
use Rattle.sweep.specs.Sweep.{rises_of, falls_of, seen_of}
use Rattle.sweep.specs.declared.ways.Crossings.{Crossings}
use Rattle.sweep.specs.Crossings.{factor_at, crossings_of, reach_of}
use Rattle.network.specs.declared.study.Bus.{Bus}
use Rattle.network.specs.declared.study.Source.{Source}
use Rattle.network.specs.declared.query.Amperes.{Amperes}
use Rattle.network.specs.declared.columns.TreeColumns.{TreeColumns}
use Rattle.network.specs.declared.columns.Standing.{Standing}
use Rattle.network.specs.declared.board.Board.{Board}
use Rattle.network.specs.declared.ways.Ways.{Ways}
use Rattle.network.specs.RoundedSourceKinds.{admittance_by, supplied_by}
use Rattle.network.specs.Network.{Network, bus_at, parent_record}
use Rattle.network.specs.Grid.{above_of, below_of, machine_at, converter_at}
use Rattle.network.specs.Demand.{Figures, amperes_of}
use Rattle.network.specs.declared.query.Verdict.{Verdict}
use Rattle.network.specs.declared.query.Verdict.TheVariants.{Within, Over, Close}

-- a branch's impedance on the bus's own side
unfoldable pub branch_by : ℕ → Bus → Bus → Complex
branch_by tolerance parent b =
    cond (eqb b.kind 1) (line_by b.f1 b.f2 b.f3 b.f4)
    (cond (eqb b.kind 2) (transformer_by tolerance (min parent.volts b.volts) b.f2 b.f3 b.f4 b.f5)
    none)

-- a machine's admittance, by Un of its bus
abbrev pub machine_by : Network → Source → Complex
machine_by n p = admittance_by n.tolerance (bus_at n.buses p.bus).volts p

-- by the records, as a walk reads them (Bridge shows that the columns hold the same): what stands at a bus itself, and its branch
abbrev pub own_by : Network → ℕ → Complex
own_by n b = sum_of added (machine_at b) (machine_by n) none n.sources

abbrev pub converters_by : Network → ℕ → Complex
converters_by n b = sum_of added (converter_at b) supplied_by none n.sources

abbrev pub branches_by : Network → ℕ → Complex
branches_by n i = branch_by n.tolerance (parent_record n.buses i) (bus_at n.buses i)

-- ---- the columns, a place for each bus: numbers of the bus records, those of a blank record past the last bus
abbrev pub numbers_of : (Bus → ℕ) → List Bus → List ℕ
numbers_of f l = column (λ i. f (bus_at l i))

unfoldable pub tree_of : List Bus → TreeColumns
tree_of l = record {
  parents = numbers_of (λ b. b.parent) l;
  above = numbers_of above_of l;
  below = numbers_of below_of l;
  volts = numbers_of (λ b. b.volts) l;
}

-- the tree that they stand for
abbrev pub tree_grid : List Bus → Grid
tree_grid l = column_grid (length l) (tree_of l).parents (tree_of l).above (tree_of l).below

-- the impedances of the branches
unfoldable pub branch_points : ℕ → List Bus → Points
branch_points tolerance l = points_of (λ i. branch_by tolerance (parent_record l i) (bus_at l i))

-- what stands at each bus, by the column of nominal volts
unfoldable pub standing_of : ℕ → List ℕ → List Source → Standing
standing_of tolerance volts l = record {
  own = points_of (λ b. sum_of added (machine_at b) (λ p. admittance_by tolerance (number_at volts p.bus) p) none l);
  supplied = points_of (λ b. sum_of added (converter_at b) supplied_by none l);
}

-- both sweeps over the columns, and the converters' currents gathered at bus 0
abbrev pub rises_by : ℕ → List Bus → Points → Rises
rises_by tolerance l own = rises_of (point_of (branch_points tolerance l)) (tree_grid l) own

abbrev pub falls_by : ℕ → List Bus → Rises → Falls
falls_by tolerance l r = falls_of (point_of (branch_points tolerance l)) (tree_grid l) (point_of r.rise) (point_of r.before)

abbrev pub gathered_by : List Bus → Points → Complex
gathered_by l supplied = gathered doubles (point_of supplied) (tree_grid l) (length l)

-- THE BOARD of a tolerance, buses and sources
unfoldable pub board_of : ℕ → List Bus → List Source → Board
board_of tolerance l sources =
    let standing = standing_of tolerance (tree_of l).volts sources in
    let rises = rises_by tolerance l standing.own in
    record { tree = tree_of l; up = rises.up; fall = (falls_by tolerance l rises).fall; gathered = gathered_by l standing.supplied }

abbrev pub board_by : Network → Board
board_by n = board_of n.tolerance n.buses n.sources

-- its row for bus b: the admittance seen there, and the converters' part
unfoldable pub seen_at : Network → ℕ → Complex
seen_at n b = seen_of (board_by n).up (board_by n).fall b

unfoldable pub carried_at : Network → ℕ → Complex
carried_at n b = from_root doubles (tree_grid n.buses) b (board_by n).gathered

-- ---- the ways from bus b: how a current divides over each branch, by both sweeps, and the products over the branches between b and each bus
unfoldable pub crossings_by : Network → Crossings
crossings_by n =
    let tree = tree_of n.buses in
    let rises = rises_by n.tolerance n.buses (standing_of n.tolerance tree.volts n.sources).own in
    crossings_of (number_at tree.above) (number_at tree.below) (point_of (branch_points n.tolerance n.buses))
    (point_of (falls_by n.tolerance n.buses rises).down) (point_of rises.up) (length n.buses)

unfoldable pub ways_from : Network → ℕ → Ways
ways_from n b =
    let crossings = crossings_by n in
    record {
      volts = (tree_of n.buses).volts;
      reach =
          reach_of (number_at (tree_of n.buses).parents) (factor_at crossings.divider_up) (factor_at crossings.divider_down) (factor_at crossings.ratio_up)
          (factor_at crossings.ratio_down) b (length n.buses);
    }

-- the six whole numbers
abbrev pub figures_by : ℕ → ℕ → Complex → Complex → Figures
figures_by c Un y x = record {
  lower = lower_of 1 3 (current_by c Un y);
  upper = upper_of 1 3 (current_by c Un y);
  converters_lower = lower_of 1 1 x;
  converters_upper = upper_of 1 1 x;
  peak = machine_peak_by c Un y;
  converters_peak = converter_peak_by x;
}

abbrev pub figures_at : Network → ℕ → Figures
figures_at n b = figures_by (factor_c n.tolerance (bus_at n.buses b).volts) (bus_at n.buses b).volts (seen_at n b) (carried_at n b)

abbrev pub amperes_at : Network → ℕ → Amperes
amperes_at n b = amperes_of (figures_at n b)

-- "Over, by P − rated peak, if P exceeds it; otherwise over, by L − rating, if L exceeds it; within, with margin rating − U, if
-- U ≤ rating; otherwise close." As the code has it, on any f64
unfoldable pub verdict_of : Amperes → Float → Float → Verdict
verdict_of a rating peakRating = by (add binary64 a.lower.0 a.converters_lower.0) (add binary64 a.upper.0 a.converters_upper.0) (add binary64 a.peak.0 a.converters_peak.0)
  where
    by : Float → Float → Float → Verdict
    by L U P =
        cond (lt peakRating P) (Over (sub binary64 P peakRating))
        (cond (lt rating L) (Over (sub binary64 L rating))
        (cond (le U rating) (Within (sub binary64 rating U))
        Close))

-- by the two ratings of a bus
abbrev pub rated_verdict : Bus → Amperes → Verdict
rated_verdict b a = verdict_of a (of_nat b.rating) (of_nat b.peak_rating)
