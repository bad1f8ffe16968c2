-- Where an element's calculation starts: whole numbers are f64s, and their sizes are in range.
-- Assumes nothing.
use Rattle.std.specs.Prelude.{◌≡◌, ℕ, ◌+◌, ◌*◌, ◌^◌, ◌<◌, ◌≤◌, false, ◌⊎◌, [], ◌∷◌, refl, Float}
use Rattle.std.proofs.Common.{sym, ap, ◌∙◌, inl, inr, arith, le_refl, eq-zero-or-pos, mul_right_comm, mul-one}
use Rattle.std.specs.Float.{nan, inf, fin}
use Rattle.std.specs.Float.Ieee.{up, down}
use Rattle.std.specs.Float.Ieee.Exact.{HasValue}
use Rattle.algebra.specs.Reading.{poly, from, read, ◌⊹◌, ◌⋆◌}
use Rattle.enclosure.specs.laws.Nearness.{spread, NearTo}
use Rattle.enclosure.specs.laws.Units.{unit, unit_pos, Is, units_of, units_is, exact}
use Rattle.enclosure.specs.Exact.{of_nat}
use Rattle.enclosure.specs.laws.StepErrors.{parts}
use Rattle.enclosure.specs.Doubles.{whole_point}
use Rattle.enclosure.specs.laws.F64Errors.{value}
use Rattle.enclosure.specs.laws.F64Range.{Range, Good, reach}

widened : (x : Float) (n : ℕ) → HasValue x false n 1 → Is x (n * unit)
widened nan n h = absurd h
widened (inf s) n h = absurd h
widened (fin s m e) n h = (h.0, ap (λ (w : ℕ). w * unit) (sym (mul-one (m * up e)) ∙ h.1) ∙ mul_right_comm n (down e) unit)

pub is_whole : (n : ℕ) → n < 2 ^ 32 → Is (of_nat n) (n * unit)
is_whole n l = widened (of_nat n) n (exact n (omega arith))

units_whole : (n : ℕ) → n < 2 ^ 32 → units_of (of_nat n) ≡ n * unit
units_whole n l = units_is (of_nat n) (n * unit) (is_whole n l)

same : (a b u : ℕ) → parts * parts * (a * u * (a * u) + b * u * (b * u) + (a * u * 1 * (a * u * 1) + b * u * 1 * (b * u * 1))) ≤ 0 * 0 * ((a * u + b * u) * (a * u + b * u)) + parts * parts * (2 * (a * u * (a * u * 1) + b * u * (b * u * 1)))
same a b u = poly (a ∷ b ∷ u ∷ []) (search read depth 40 fits 20000) refl

low : (a b u : ℕ) → 0 < a + b → u ≤ (a * u + b * u) * reach 200 0
low a b u h = from (a ∷ b ∷ u ∷ []) (u * reach 200 0 ⋆ h) (search read depth 40 fits 20000) refl

high : (a b u : ℕ) → a < 2 ^ 32 → b < 2 ^ 32 → a * u + b * u ≤ u * reach 200 0
high a b u p q = from (a ∷ b ∷ u ∷ []) (u ⋆ p ⊹ u ⋆ q) (search read depth 40 fits 20000) refl

-- EXACT, and good from here on
pub whole_near : (a b : ℕ) → a < 2 ^ 32 → b < 2 ^ 32 → NearTo value (Good 200 0) parts 0 (record { re = a; im = b; den = 1 }) (whole_point a b)
unfolding whole_point
whole_near a b p q = (
  record { left = omega arith; right = unit_pos; close = rw (units_whole a p, units_whole b q) (same a b unit) },
  record { fine = record { re = rw (units_whole a p) (is_whole a p); im = rw (units_whole b q) (is_whole b q) }; range = rw (units_whole a p, units_whole b q) (go (eq-zero-or-pos (a + b))) },
)
  where
    go : (a + b ≡ 0) ⊎ (0 < a + b) → Range 200 0 0 (a * unit + b * unit)
    go (inl e) = inl (spread unit a b e)
    go (inr h) = inr (le_refl 0, (low a b unit h, high a b unit p q))
