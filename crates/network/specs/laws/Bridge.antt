-- THE BRIDGE from the board to the tree of document 01: what stands in its columns is what stands in the tree, and what its two sweeps give
-- is what the walk gives, in the same doubles. Assumes nothing.
use Rattle.std.specs.Prelude.{ℕ, ◌≤◌, ◌<◌, ◌≡◌, Bool, true, false, cond, List, ltb, length, get_or}
use Rattle.std.proofs.Math.Path.{refl, ap}
use Rattle.std.proofs.Common.{sym, ◌∙◌, arith, ltb-true, ltb-false}
use Rattle.std.proofs.Math.ListN.{get_or-eq_default}
use Rattle.enclosure.specs.Doubles.{none, added, doubles}
use Rattle.tree.specs.Limits.{max_branches, walk_steps, max_buses}
use Rattle.tree.specs.laws.Toward.{depth, depth_same}
use Rattle.tree.specs.Grid.{parent_of, Treelike, seen_by, sum_of}
use Rattle.tree.specs.laws.Grid.{Shaped, seen_same}
use Rattle.tree.specs.laws.Sums.{sum_same}
use Rattle.tree.specs.laws.TreeBounds.{Sound}
use Rattle.tree.specs.Converters.{carried_by}
use Rattle.tree.specs.laws.Converters.{carried_same}
use Rattle.tree.specs.laws.Dividers.{seen_above, seen_below}
use Rattle.sweep.specs.Columns.{column}
use Rattle.sweep.specs.Points.{number_at, point_of}
use Rattle.sweep.specs.laws.Columns.{Sized, number_column, get_or_column, point_column, points_sized}
use Rattle.sweep.specs.laws.Swept.{all_walk, up_walk, down_walk}
use Rattle.network.specs.declared.study.Bus.{Bus}
use Rattle.network.specs.Network.{Network, blank, bus_at}
use Rattle.network.specs.Grid.{grid_of, above_of, below_of, machine_at}
use Rattle.network.specs.RoundedSourceKinds.{admittance_by}
use Rattle.network.specs.Doubles.{own_by, converters_by, branches_by, tree_of, tree_grid, branch_points, standing_of, rises_by, falls_by, board_of, seen_at, carried_at}

-- a column of numbers at any place, where the blank record has 0
pub number_all : (f : Bus → ℕ) (l : List Bus) → f blank ≡ 0 → length l ≤ max_buses → (i : ℕ) → number_at (column (λ j. f (bus_at l j))) i ≡ f (bus_at l i)
number_all f l e m i = go (ltb i max_buses) refl
  where
    go : (t : Bool) → ltb i max_buses ≡ t → cond t (get_or (column (λ j. f (bus_at l j))) i 0) 0 ≡ f (bus_at l i)
    go true q = get_or_column (λ j. f (bus_at l j)) i 0 (ltb-true i max_buses q)
    go false q = let n = ltb-false i max_buses q in sym (ap f (get_or-eq_default l blank {n = i} (omega arith)) ∙ e)

module _ (n : Network) (few : length n.buses ≤ max_buses) where
  -- ---- the columns
  pub shaped : Shaped (tree_grid n.buses) (grid_of n)
  unfolding tree_of
  shaped = record {
    count = refl;
    parent = λ i l. number_column (λ j. (bus_at n.buses j).parent) i (omega arith);
    above = λ i z l. number_column (λ j. above_of (bus_at n.buses j)) i (omega arith);
    below = λ i z l. number_column (λ j. below_of (bus_at n.buses j)) i (omega arith);
  }

  pub branch_column : (i : ℕ) → i < length n.buses → point_of (branch_points n.tolerance n.buses) i ≡ branches_by n i
  unfolding branch_points
  branch_column i l = point_column (branches_by n) i (omega arith)

  own_column : (b : ℕ) → b < length n.buses → point_of (standing_of n.tolerance (tree_of n.buses).volts n.sources).own b ≡ own_by n b
  unfolding standing_of tree_of
  own_column b l =
      point_column (λ c. sum_of added (machine_at c) (λ p. admittance_by n.tolerance (number_at (column (λ j. (bus_at n.buses j).volts)) p.bus) p) none n.sources) b (omega arith)
      ∙ sum_same added (machine_at b) _ _ (λ p. ap (λ (v : ℕ). admittance_by n.tolerance v p) (number_all (λ (c : Bus). c.volts) n.buses refl few p.bus)) none n.sources

  own_sized : Sized (standing_of n.tolerance (tree_of n.buses).volts n.sources).own
  unfolding standing_of
  own_sized = points_sized (λ c. sum_of added (machine_at c) (λ p. admittance_by n.tolerance (number_at (tree_of n.buses).volts p.bus) p) none n.sources)

  supplied_column : (b : ℕ) → b < length n.buses → point_of (standing_of n.tolerance (tree_of n.buses).volts n.sources).supplied b ≡ converters_by n b
  unfolding standing_of
  supplied_column b l = point_column (converters_by n) b (omega arith)

  -- ---- the walk
  module _ (sound : Sound (grid_of n)) where
    falling : Treelike (tree_grid n.buses)
    falling i z l = rw (shaped.parent i l) (sound.tree i z l)

    shallow : (i : ℕ) → i < length n.buses → depth (parent_of (tree_grid n.buses)) i ≤ max_branches
    shallow i l = rw (depth_same (parent_of (tree_grid n.buses)) (parent_of (grid_of n)) (length n.buses) shaped.parent i l) (sound.shallow i l)

    -- the walk over the columns is the walk over the tree
    same_walk : (b w : ℕ) → b < length n.buses
        → seen_by doubles (point_of (branch_points n.tolerance n.buses)) (point_of (standing_of n.tolerance (tree_of n.buses).volts n.sources).own) (tree_grid n.buses) walk_steps b w
        ≡ seen_by doubles (branches_by n) (own_by n) (grid_of n) walk_steps b w
    same_walk b w l =
        seen_same doubles (point_of (branch_points n.tolerance n.buses)) (branches_by n) (point_of (standing_of n.tolerance (tree_of n.buses).volts n.sources).own) (own_by n) (tree_grid n.buses) (grid_of n) shaped
        (λ i z m. branch_column i m) (λ c m. own_column c m) walk_steps b w l

    -- WHAT THE SWEEPS SEE AT A BUS IS WHAT THE WALK SEES THERE
    pub seen_walk : (b : ℕ) → b < length n.buses → seen_at n b ≡ seen_by doubles (branches_by n) (own_by n) (grid_of n) walk_steps b b
    unfolding seen_at board_of
    seen_walk b l =
        all_walk (point_of (branch_points n.tolerance n.buses)) (tree_grid n.buses) (standing_of n.tolerance (tree_of n.buses).volts n.sources).own few own_sized falling shallow b l
        ∙ same_walk b b l

    -- and what they leave on either side of a branch is what it sees at the parent without the bus, and at the bus without its parent
    pub above_walk : (i : ℕ) → 0 < i → i < length n.buses
        → point_of (falls_by n.tolerance n.buses (rises_by n.tolerance n.buses (standing_of n.tolerance (tree_of n.buses).volts n.sources).own)).down i
        ≡ seen_above (branches_by n) (own_by n) (grid_of n) i
    above_walk i z l =
        let p = sound.tree i z l in
        down_walk (point_of (branch_points n.tolerance n.buses)) (tree_grid n.buses) (standing_of n.tolerance (tree_of n.buses).volts n.sources).own few own_sized falling shallow i z l
        ∙ ap (λ (b : ℕ). seen_by doubles (point_of (branch_points n.tolerance n.buses)) (point_of (standing_of n.tolerance (tree_of n.buses).volts n.sources).own) (tree_grid n.buses) walk_steps b i) (shaped.parent i l)
        ∙ same_walk (parent_of (grid_of n) i) i (omega arith)

    pub below_walk : (i : ℕ) → 0 < i → i < length n.buses
        → point_of (rises_by n.tolerance n.buses (standing_of n.tolerance (tree_of n.buses).volts n.sources).own).up i
        ≡ seen_below (branches_by n) (own_by n) (grid_of n) i
    below_walk i z l =
        up_walk (point_of (branch_points n.tolerance n.buses)) (tree_grid n.buses) (standing_of n.tolerance (tree_of n.buses).volts n.sources).own few own_sized falling shallow i z l
        ∙ ap (λ (b : ℕ). seen_by doubles (point_of (branch_points n.tolerance n.buses)) (point_of (standing_of n.tolerance (tree_of n.buses).volts n.sources).own) (tree_grid n.buses) walk_steps i b) (shaped.parent i l)
        ∙ same_walk i (parent_of (grid_of n) i) l

  -- and the converters' part over the columns is that over the tree
  pub carried_tree : (b : ℕ) → b < length n.buses → carried_at n b ≡ carried_by doubles (converters_by n) (grid_of n) b
  unfolding carried_at board_of
  carried_tree b l =
      carried_same doubles (point_of (standing_of n.tolerance (tree_of n.buses).volts n.sources).supplied) (converters_by n) (tree_grid n.buses) (grid_of n) shaped (λ i m. supplied_column i m) b l
