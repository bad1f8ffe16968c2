-- Columns of numbers and of f64 points, and the tree that they stand for.
use Rattle.std.specs.Prelude.{ℕ, cond, List, ltb, get_or, set, replicate, Float}
use Rattle.std.specs.Float.{nan}
use Rattle.enclosure.specs.declared.Complex.{Complex}
use Rattle.enclosure.specs.Exact.{nothing}
use Rattle.enclosure.specs.Doubles.{nought, none}
use Rattle.tree.specs.Grid.{Grid}
use Rattle.tree.specs.Limits.{max_buses}
use Rattle.sweep.specs.declared.columns.Points.{Points}
use Rattle.sweep.specs.Columns.{column}

-- an array of numbers at any place, 0 past its end
abbrev pub number_at : List ℕ → ℕ → ℕ
number_at l i = cond (ltb i max_buses) (get_or l i 0) 0

-- two arrays as a point at any place, nothing past their end
abbrev pub point_at : List Float → List Float → ℕ → Complex
point_at re im i = cond (ltb i max_buses) (record { re = get_or re i nan; im = get_or im i nan }) none

abbrev pub points : List Float → List Float → Points
points re im = record { re = re; im = im }

abbrev pub point_of : Points → ℕ → Complex
point_of s = point_at s.re s.im

abbrev pub points_of : (ℕ → Complex) → Points
points_of f = points (column (λ i. (f i).re)) (column (λ i. (f i).im))

-- nothing at each bus
abbrev pub no_points : Points
no_points = points (replicate max_buses nought) (replicate max_buses nought)

-- the point z at bus i
abbrev pub put : Points → ℕ → Complex → Points
put s i z = points (set s.re i z.re) (set s.im i z.im)

-- the tree of n buses that the columns stand for; what stands at its buses is given beside it
abbrev pub column_grid : ℕ → List ℕ → List ℕ → List ℕ → Grid
column_grid n parents above below = record {
  count = n;
  branch = λ i. record { parent = number_at parents i; z = nothing; above = number_at above i; below = number_at below i };
  own = λ b. nothing;
  current = λ b. nothing;
}
