-- Document 01's two-bus point, and a transformer.
-- Assumes nothing.
use Rattle.std.specs.Prelude.{ℕ, ◌*◌, ◌≡◌, refl, Bool, true, cond, ◌&&◌, eqb}
use Rattle.enclosure.specs.Exact.{Point, inverse, exact}
use Rattle.tree.specs.Grid.{joined, neighbour, Grid, through, seen, across, carried_without, carried}
use Rattle.tree.specs.Converters.{to_root, from_root, carried_by}

-- bus 1 hangs at bus 0 by a branch of jx/1,000 Ω; jm/1,000 and jn/1,000 Ω stand at the buses, and converters of c and d A
abbrev pair : ℕ → ℕ → ℕ → ℕ → ℕ → ℕ → ℕ → Grid
pair above below x m n c d =
    record {
      count = 2;
      branch = λ i. record { parent = 0; z = record { re = 0; im = x; den = 1000 }; above = above; below = below };
      own = λ b. record { re = 0; im = 1000; den = cond (eqb b 0) m n };
      current = λ b. record { re = cond (eqb b 0) c d; im = 0; den = 1 };
    }

-- a point is 0 + j·a/b, a current is a/b
abbrev is_imaginary : Point → ℕ → ℕ → Bool
is_imaginary x a b = eqb x.re 0 && eqb (x.im * b) (a * x.den)

abbrev is_real : Point → ℕ → ℕ → Bool
is_real x a b = eqb x.im 0 && eqb (x.re * b) (a * x.den)

-- "Z is 0.825 Ω at bus 0 and 1.1 Ω at bus 1": the feeder has 1.1 Ω, the line 1.1 Ω, the generator 2.2 Ω; "200 A more"
seen_0 : is_imaginary (inverse (seen (pair 1 1 1100 1100 2200 0 200) 0 0)) 825 1000 ≡ true
unfolding seen inverse through joined neighbour
seen_0 = refl

seen_1 : is_imaginary (inverse (seen (pair 1 1 1100 1100 2200 0 200) 1 1)) 11 10 ≡ true
unfolding seen inverse through joined neighbour
seen_1 = refl

carried_0 : is_real (carried (pair 1 1 1100 1100 2200 0 200) 0) 200 1 ≡ true
unfolding carried_without across joined neighbour
carried_0 = refl

-- 20 kV to 10 kV, j1 Ω on the lower side, j4 Ω at bus 0 and j2 Ω at bus 1: j4 beside (j1 + j2)·(20/10)², and j2 beside j1 + j4·(10/20)²
stepped_0 : is_imaginary (inverse (seen (pair 20 10 1000 4000 2000 5 6) 0 0)) 3 1 ≡ true
unfolding seen inverse through joined neighbour
stepped_0 = refl

stepped_1 : is_imaginary (inverse (seen (pair 20 10 1000 4000 2000 5 6) 1 1)) 1 1 ≡ true
unfolding seen inverse through joined neighbour
stepped_1 = refl

-- 6 A on the lower side are 3 A on the upper one, and 5 A there are 10 A below
current_0 : is_real (carried (pair 20 10 1000 4000 2000 5 6) 0) 8 1 ≡ true
unfolding carried_without across joined neighbour
current_0 = refl

current_1 : is_real (carried (pair 20 10 1000 4000 2000 5 6) 1) 16 1 ≡ true
unfolding carried_without across joined neighbour
current_1 = refl

rooted_1 : is_real (carried_by exact (pair 20 10 1000 4000 2000 5 6).current (pair 20 10 1000 4000 2000 5 6) 1) 16 1 ≡ true
unfolding to_root from_root
rooted_1 = refl
