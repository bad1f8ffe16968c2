-- Whole amperes from steps of 1/4,096 A: the two numbers that a generator has in the table bound its share, and are near each other.
-- Assumes nothing.
use Rattle.std.specs.Prelude.{ℕ, ◌+◌, ◌*◌, ◌/◌, ◌^◌, ◌≤◌, ◌<◌, refl, [], ◌∷◌}
use Rattle.std.proofs.Common.{arith, mul-le-mul, lit<}
use Rattle.algebra.specs.Reading.{from_over, read, ◌⊹◌, ◌⋆◌}
use Rattle.enclosure.specs.Fraction.{Fraction}
use Rattle.enclosure.specs.Doubles.{under_root}
use Rattle.enclosure.specs.laws.RootBounds.{RootHolds}
use Rattle.network.specs.Demand.{Narrow}
use Rattle.breaking.specs.Doubles.{amperes_up}
use Rattle.breaking.specs.Promise.{ShareHolds}

-- ---- over plain numbers: t/c is the square, 4,096 steps an ampere
whole_below : (f v t c : ℕ) → f * 4096 ≤ v → v * v * c ≤ 16777216 * t → f * f * c ≤ t * 1
whole_below f v t c h k = from_over (f ∷ v ∷ t ∷ c ∷ []) 16777216 (lit< tt) (c ⋆ mul-le-mul h h ⊹ k) (search read depth 40 fits 20000) refl

whole_above : (f v t c : ℕ) → v ≤ f * 4096 → 16777216 * t ≤ v * v * c → t * 1 ≤ f * f * c
whole_above f v t c h k = from_over (f ∷ v ∷ t ∷ c ∷ []) 16777216 (lit< tt) (c ⋆ mul-le-mul h h ⊹ k) (search read depth 40 fits 20000) refl

-- ---- the two numbers of a root r
pub amperes_narrow : (r : ℕ) → Narrow (under_root r / 4096) (amperes_up (r + 1))
amperes_narrow r = omega arith

pub share_holds : (S : Fraction) (r : ℕ) → RootHolds (16777216 * S.top) S.under r → ShareHolds S (under_root r / 4096) (amperes_up (r + 1))
share_holds S r h = record {
  below = whole_below (under_root r / 4096) (under_root r) S.top S.under (omega arith) h.under;
  above = whole_above (amperes_up (r + 1)) (r + 1) S.top S.under (omega arith) h.above;
  narrow = amperes_narrow r;
}

-- a root of up to 2 ^ 51 steps
pub amperes_few : (r : ℕ) → r + 1 ≤ 2 ^ 51 → (under_root r / 4096 < 2 ^ 53) × (amperes_up (r + 1) < 2 ^ 53)
amperes_few r h = (omega arith, omega arith)
