-- Ways in f64 over columns, a definition for each function of src/ways.rt. How near they are to the exact shares is proved in tree's
-- laws/ShareBounds.
use Rattle.std.specs.Prelude.{ℕ, cond, List, ltb, get_or, Float}
use Rattle.std.specs.Float.{nan}
use Rattle.enclosure.specs.declared.Complex.{Complex}
use Rattle.enclosure.specs.Doubles.{doubles, inverted, ratio, unity, faintest, nought}
use Rattle.tree.specs.Grid.{times_square}
use Rattle.tree.specs.Limits.{max_buses}
use Rattle.tree.specs.Ways.{divider_by, over_way}
use Rattle.sweep.specs.declared.ways.Crossing.{Crossing}
use Rattle.sweep.specs.declared.ways.Crossings.{Crossings}
use Rattle.sweep.specs.declared.ways.Reach.{Reach}
use Rattle.sweep.specs.Columns.{column}

-- an array of factors at any place, 1 past its end
abbrev pub factor_at : List Float → ℕ → Float
factor_at l i = cond (ltb i max_buses) (get_or l i nan) unity

-- f at each of the first n places, 1 past them
abbrev pub column_to : (ℕ → Float) → ℕ → List Float
column_to f n = column (λ i. cond (ltb i n) (f i) unity)

-- a branch with the rated volts a and b on the parent's side and on its own
unfoldable pub crossing_at : ℕ → ℕ → Complex → Complex → Complex → Crossing
crossing_at a b z down up = record {
  divider_up = divider_by z (times_square doubles b a (inverted down));
  divider_down = divider_by z (inverted up);
  ratio_up = ratio a b;
  ratio_down = ratio b a;
}

-- of each bus, by what the sweeps leave there
abbrev pub crossing_of : (ℕ → ℕ) → (ℕ → ℕ) → (ℕ → Complex) → (ℕ → Complex) → (ℕ → Complex) → ℕ → Crossing
crossing_of above below z down up i = crossing_at (above i) (below i) (z i) (down i) (up i)

unfoldable pub crossings_of : (ℕ → ℕ) → (ℕ → ℕ) → (ℕ → Complex) → (ℕ → Complex) → (ℕ → Complex) → ℕ → Crossings
crossings_of above below z down up n = record {
  divider_up = column_to (λ i. (crossing_of above below z down up i).divider_up) n;
  divider_down = column_to (λ i. (crossing_of above below z down up i).divider_down) n;
  ratio_up = column_to (λ i. (crossing_of above below z down up i).ratio_up) n;
  ratio_down = column_to (λ i. (crossing_of above below z down up i).ratio_down) n;
}

-- FROM BUS b TO EACH BUS
unfoldable pub reach_of : (ℕ → ℕ) → (ℕ → Float) → (ℕ → Float) → (ℕ → Float) → (ℕ → Float) → ℕ → ℕ → Reach
reach_of p divider_up divider_down ratio_up ratio_down b n = record {
  dividers = column_to (over_way p divider_up divider_down faintest b) n;
  ratios = column_to (over_way p ratio_up ratio_down nought b) n;
}
