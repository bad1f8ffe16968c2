-- What a calculation in f64 holds: a value near the exact one, of a size that can be calculated with.
-- Assumes nothing.
use Rattle.std.specs.Prelude.{ℕ, ◌+◌, ◌*◌, ◌^◌, ◌≤◌, ◌<◌, ◌≡◌, refl, [], ◌∷◌, ◌⊎◌}
use Rattle.std.proofs.Common.{inl, inr, arith, le_refl}
use Rattle.std.proofs.Math.Nat.{sub_self}
use Rattle.algebra.specs.Reading.{from_over, read, ◌⊹◌, ◌⋆◌}
use Rattle.enclosure.specs.Exact.{Point}
use Rattle.enclosure.specs.laws.Nearness.{Near, NearTo, near_more}
use Rattle.enclosure.specs.laws.Units.{unit, Between, Sized}
use Rattle.enclosure.specs.laws.StepErrors.{parts}
use Rattle.enclosure.specs.laws.F64Errors.{value, size, Fine}
use Rattle.enclosure.specs.laws.F64Range.{reach, no_size, near_size, Good}
use Rattle.enclosure.specs.declared.Complex.{Complex}
use Rattle.tree.specs.laws.AdmittanceSizes.{Low}

-- y is within k parts in 2 ^ 53 of x, and both its parts are finite and not negative
abbrev pub Accurate : ℕ → Point → Complex → Type 0
Accurate k x y = Near parts k x (value y) × Fine y

pub accurate_more : (j k : ℕ) (x : Point) (y : Complex) → j ≤ k → Accurate j x y → Accurate k x y
accurate_more j k x y l h = (near_more parts j k x (value y) l h.0, h.1)

-- ---- the range of an f64 that is near an exact value from 1/E to E, with E = 2 ^ 199
between : (E t d s u : ℕ) → 0 < d → d ≤ E * t → t ≤ E * d → t * u ≤ 2 * (s * d) → s * d ≤ 2 * (t * u) → (u ≤ s * (E * 2)) × (s ≤ u * (E * 2))
between E t d s u z low high p q = (
  from_over (E ∷ t ∷ d ∷ s ∷ u ∷ []) d z (u ⋆ low ⊹ E ⋆ p) (search read depth 40 fits 20000) refl,
  from_over (E ∷ t ∷ d ∷ s ∷ u ∷ []) d z (q ⊹ 2 * u ⋆ high) (search read depth 40 fits 20000) refl,
)

pub accurate_range : (k : ℕ) (x : Point) (y : Complex) → 4 * k ≤ parts → Accurate k x y → Low (2 ^ 199) x → x.re + x.im ≤ 2 ^ 199 * x.den → Sized (2 ^ 200) (size y)
accurate_range k x y l h low high = go low
  where
    s : ((x.re + x.im) * unit ≤ 2 * (size y * x.den)) × (size y * x.den ≤ 2 * ((x.re + x.im) * unit))
    s = near_size parts k x (value y) (omega arith) l h.0

    go : Low (2 ^ 199) x → Sized (2 ^ 200) (size y)
    go (inl e) = inl (no_size (size y) x.den (x.re + x.im) unit h.0.left e s.1)
    go (inr g) = inr (between (2 ^ 199) (x.re + x.im) x.den (size y) unit h.0.left g high s.0 s.1)

-- ---- a step of a calculation: the exact value in range makes the f64 good for a further cost of 50; a branch costs 46
pub accurate_good : (k : ℕ) (x : Point) (y : Complex) → 4 * k ≤ parts → Accurate k x y → Low (2 ^ 199) x → x.re + x.im ≤ 2 ^ 199 * x.den → NearTo value (Good 200 k) parts k x y
accurate_good k x y l h low high = (h.0, record { fine = h.1; range = rw (sub_self k) (go (accurate_range k x y l h low high)) })
  where
    go : Sized (2 ^ 200) (size y) → (size y ≡ 0) ⊎ ((k ≤ k) × Between (reach 200 0) (size y))
    go (inl e) = inl e
    go (inr g) = inr (le_refl k, g)
