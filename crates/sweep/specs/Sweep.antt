-- The two sweeps in f64, a definition for each function of src/sweeps.rt: rise i is what is seen of bus i at its parent, fall i what is
-- seen of its parent at i. That they give what a walk from each bus gives is proved in laws/Swept.
use Rattle.std.specs.Prelude.{ℕ, zero, suc, Bool, false, cond, ltb, eqb}
use Rattle.enclosure.specs.declared.Complex.{Complex}
use Rattle.enclosure.specs.Doubles.{added, doubles}
use Rattle.tree.specs.Grid.{sum_over, Grid, parent_of, through}
use Rattle.sweep.specs.declared.columns.Points.{Points}
use Rattle.sweep.specs.declared.sweeps.Rises.{Rises}
use Rattle.sweep.specs.declared.sweeps.Falls.{Falls}
use Rattle.sweep.specs.Points.{point_of, no_points, put}

-- i is a child of b
abbrev pub child_of : (ℕ → ℕ) → ℕ → ℕ → Bool
child_of p b i = cond (ltb b i) (eqb (p i) b) false

-- a point, and what is seen at b of its children below top, the last one first
unfoldable pub with_children : (ℕ → ℕ) → (ℕ → Complex) → Complex → ℕ → ℕ → Complex
with_children p rise start b top = sum_over added (child_of p b) rise start top

-- what is gathered at b, with what is seen there of its parent, which bus 0 has not
unfoldable pub with_parent : (ℕ → Complex) → ℕ → Complex → Complex
with_parent fall b y = cond (ltb 0 b) (added y (fall b)) y

-- what is seen at the parent of i without i
unfoldable pub down_at : (ℕ → ℕ) → (ℕ → Complex) → (ℕ → Complex) → (ℕ → Complex) → ℕ → Complex
down_at p rise before fall i = with_parent fall (p i) (with_children p rise (before i) (p i) i)

-- z the impedances of the branches of the tree G
module _ (z : ℕ → Complex) (G : Grid) where
  -- what is seen of i at its parent, from what is gathered at i
  abbrev pub rise_of : Points → ℕ → Complex
  rise_of up i = through doubles z G (parent_of G i) i (point_of up i)

  -- bus i hands on to its parent what is gathered at it
  abbrev pub handed_on : Rises → ℕ → Complex → Rises
  handed_on s i r = record {
    up = put s.up (parent_of G i) (added (point_of s.up (parent_of G i)) r);
    rise = put s.rise i r;
    before = put s.before i (point_of s.up (parent_of G i));
  }

  -- a bus whose parent has no smaller number hands nothing on
  unfoldable pub up_step : Rises → ℕ → Rises
  up_step s i = cond (ltb (parent_of G i) i) (handed_on s i (rise_of s.up i)) s

  -- the buses below k, the last one first
  abbrev pub up_from : Rises → ℕ → Rises
  up_from s zero = s
  up_from s (suc k) = up_from (up_step s k) k

  -- TOWARDS BUS 0
  unfoldable pub rises_of : Points → Rises
  rises_of own = up_from (record { up = own; rise = no_points; before = no_points }) G.count

  -- bus i takes from its parent what is gathered there without it
  abbrev pub taken : Falls → ℕ → Complex → Falls
  taken s i d = record { down = put s.down i d; fall = put s.fall i (through doubles z G i (parent_of G i) d) }

  -- a bus whose parent has no smaller number takes nothing
  unfoldable pub down_step : (ℕ → Complex) → (ℕ → Complex) → Falls → ℕ → Falls
  down_step rise before s i = cond (ltb (parent_of G i) i) (taken s i (down_at (parent_of G) rise before (point_of s.fall) i)) s

  -- the buses below k, bus 0 first
  abbrev pub fall_to : (ℕ → Complex) → (ℕ → Complex) → ℕ → Falls
  fall_to rise before zero = record { down = no_points; fall = no_points }
  fall_to rise before (suc k) = down_step rise before (fall_to rise before k) k

  -- AWAY FROM BUS 0
  unfoldable pub falls_of : (ℕ → Complex) → (ℕ → Complex) → Falls
  falls_of rise before = fall_to rise before G.count

-- WHAT IS SEEN AT BUS b, by both sweeps
unfoldable pub seen_of : Points → Points → ℕ → Complex
seen_of up fall b = with_parent (point_of fall) b (point_of up b)
