-- What is asked of a tree of buses: what acceptance gives of its shape and its voltages, and bounds on its elements so wide that the
-- ranges of document 01 meet them.
-- Assumes nothing.
use Rattle.std.specs.Prelude.{ℕ, ◌+◌, ◌*◌, ◌^◌, ◌≤◌, ◌<◌, refl, [], ◌∷◌}
use Rattle.std.proofs.Common.{arith}
use Rattle.algebra.specs.Reading.{from_over, read, ◌⊹◌, ◌⋆◌}
use Rattle.enclosure.specs.Exact.{Point}
use Rattle.enclosure.specs.laws.F64Range.{Factor}
use Rattle.tree.specs.Limits.{max_branches, own_most, current_most}
use Rattle.tree.specs.laws.Toward.{depth}
use Rattle.tree.specs.Grid.{Grid, parent_of, Treelike}
use Rattle.tree.specs.laws.AdmittanceSizes.{Low}
use Rattle.tree.specs.laws.FeederReaches.{Proper}

-- "Any other bus names a parent with a smaller number"; "At most 18 branches .. lead from bus 0 to any bus"; rated volts are numbers of 32 bits
pub record Sound (G : Grid) : Type 0 where
  pub tree : Treelike G
  pub shallow : (i : ℕ) → i < G.count → depth (parent_of G) i ≤ max_branches
  pub volts : (i : ℕ) → 0 < i → i < G.count → Factor (G.branch i).above × Factor (G.branch i).below

-- U gives the nominal volts. "A line joins equal nominal voltages. A rated voltage lies from 9/10 to 11/10 of its bus's Un": a rated
-- ratio is within 11/9 of the nominal one
pub record Levels (G : Grid) (U : ℕ → ℕ) : Type 0 where
  pub nominal : (b : ℕ) → b < G.count → (0 < U b) × (U b ≤ 2 ^ 19)
  pub above : (i : ℕ) → 0 < i → i < G.count → 9 * ((G.branch i).above * U i) ≤ 11 * ((G.branch i).below * U (parent_of G i))
  pub below : (i : ℕ) → 0 < i → i < G.count → 9 * ((G.branch i).below * U (parent_of G i)) ≤ 11 * ((G.branch i).above * U i)

-- p is at most 11/10 of v, and q at least 9/10 of u
pub tenths : (p q u v : ℕ) → 10 * p ≤ 11 * v → 9 * u ≤ 10 * q → 9 * (p * u) ≤ 11 * (q * v)
tenths p q u v h k = from_over (p ∷ q ∷ u ∷ v ∷ []) 10 (omega arith) (9 * u ⋆ h ⊹ 11 * v ⋆ k) (search read depth 40 fits 20000) refl

-- not 0, at most 2 ^ 60, of a denominator up to 2 ^ 100
pub record Impedance (x : Point) : Type 0 where
  pub proper : 0 < x.den
  pub some : 0 < x.re + x.im
  pub fine : x.den ≤ 2 ^ 100
  pub short : x.re + x.im ≤ 2 ^ 60 * x.den

-- nothing, or from 2 ^ -60 to 2 ^ 109: `own_most`
pub record Admittance (x : Point) : Type 0 where
  pub proper : 0 < x.den
  pub least : Low (2 ^ 60) x
  pub most : x.re + x.im ≤ own_most * x.den

pub record Plain (G : Grid) : Type 0 where
  pub branch : (i : ℕ) → 0 < i → i < G.count → Impedance (G.branch i).z
  pub own : (b : ℕ) → b < G.count → Admittance (G.own b)

-- each bus's current, if it has one, is at least 2 ^ -20 A, and its product with the nominal volts at most 2 ^ 43: `current_most`
pub record CurrentBounds (G : Grid) (U : ℕ → ℕ) : Type 0 where
  pub proper : (i : ℕ) → i < G.count → 0 < (G.current i).den
  pub least : (i : ℕ) → i < G.count → Low (2 ^ 20) (G.current i)
  pub most : (i : ℕ) → i < G.count → ((G.current i).re + (G.current i).im) * U i ≤ current_most * (G.current i).den

pub sound_proper : (G : Grid) → Sound G → Plain G → Proper G
sound_proper G s p = record {
  own = λ b l. (p.own b l).proper;
  branch = λ i z l. (p.branch i z l).proper;
  volts = λ i z l. ((s.volts i z l).0.0, (s.volts i z l).1.0);
}
