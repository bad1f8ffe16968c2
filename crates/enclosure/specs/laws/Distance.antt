-- Minkowski's inequality in the plane, over ℕ and with no subtraction: what would be subtracted stands on the other side.
-- Assumes nothing.
use Rattle.std.specs.Prelude.{◌≡◌, ℕ, zero, suc, ◌+◌, ◌*◌, ◌<◌, ◌≤◌, [], ◌∷◌, refl}
use Rattle.std.proofs.Common.{sym, ⊎_elim, arith}
use Rattle.std.proofs.Math.Nat.{le_dest}
use Rattle.algebra.specs.Polynomial.{two_sq, le_or_le}
use Rattle.algebra.specs.Reading.{from, from_over, read, ◌⊹◌, ◌⋆◌}

-- (a, b) lies in a disc about (A, B): the square of the distance is at most P
abbrev pub Disc : ℕ → ℕ → ℕ → ℕ → ℕ → Type 0
Disc A B a b P = A * A + B * B + (a * a + b * b) ≤ P + 2 * (A * a + B * b)

-- the product of the two differences is at most r
abbrev pub Dot : ℕ → ℕ → ℕ → ℕ → ℕ → ℕ → ℕ → ℕ → ℕ → Type 0
Dot A1 B1 a1 b1 A2 B2 a2 b2 r = A1 * A2 + a1 * a2 + (B1 * B2 + b1 * b2) ≤ r + (A1 * a2 + a1 * A2) + (B1 * b2 + b1 * B2)

module _ (A1 B1 a1 b1 A2 B2 a2 b2 : ℕ) where
  dot_pos : (p q : ℕ) → 0 < 2 * (p * q) → Disc A1 B1 a1 b1 (p * p) → Disc A2 B2 a2 b2 (q * q) → Dot A1 B1 a1 b1 A2 B2 a2 b2 (p * q)
  dot_pos p q z h k =
      from_over (A1 ∷ B1 ∷ a1 ∷ b1 ∷ A2 ∷ B2 ∷ a2 ∷ b2 ∷ p ∷ q ∷ []) (2 * (p * q)) z
      (q * q ⋆ h ⊹ p * p ⋆ k ⊹ two_sq (q * A1 + p * a2) (q * a1 + p * A2) ⊹ two_sq (q * B1 + p * b2) (q * b1 + p * B2))
      (search read depth 40 fits 20000) refl

  from_dot : (p q : ℕ) → Disc A1 B1 a1 b1 (p * p) → Disc A2 B2 a2 b2 (q * q) → Dot A1 B1 a1 b1 A2 B2 a2 b2 (p * q)
      → Disc (A1 + A2) (B1 + B2) (a1 + a2) (b1 + b2) ((p + q) * (p + q))
  from_dot p q h k d = from (A1 ∷ B1 ∷ a1 ∷ b1 ∷ A2 ∷ B2 ∷ a2 ∷ b2 ∷ p ∷ q ∷ []) (h ⊹ k ⊹ 2 ⋆ d) (search read depth 40 fits 20000) refl

-- where p or q is 0, a difference is 0
no_gap : (x k : ℕ) → x * x + (x + k) * (x + k) ≤ 2 * (x * (x + k)) → k ≡ 0
no_gap x zero h = refl
no_gap x (suc k) h = omega arith

same_up : (x y : ℕ) → x ≤ y → x * x + y * y ≤ 2 * (x * y) → x ≡ y
same_up x y l h = omega (arith, no_gap x (le_dest l).0 (rw (le_dest l).1 h), (le_dest l).1)

same : (x y : ℕ) → x * x + y * y ≤ 2 * (x * y) → x ≡ y
same x y h = ⊎_elim (λ l. same_up x y l h) (λ l. sym (same_up y x l (omega arith))) (le_or_le x y)

dot_same : (A1 B1 a1 b1 A2 B2 a2 b2 r : ℕ) → Disc A1 B1 a1 b1 0 → Dot A1 B1 a1 b1 A2 B2 a2 b2 r
dot_same A1 B1 a1 b1 A2 B2 a2 b2 r h =
    rw (same A1 a1 (omega (arith, two_sq B1 b1)), same B1 b1 (omega (arith, two_sq A1 a1))) (omega arith)

dot : (A1 B1 a1 b1 A2 B2 a2 b2 p q : ℕ) → Disc A1 B1 a1 b1 (p * p) → Disc A2 B2 a2 b2 (q * q) → Dot A1 B1 a1 b1 A2 B2 a2 b2 (p * q)
dot A1 B1 a1 b1 A2 B2 a2 b2 zero q h k = dot_same A1 B1 a1 b1 A2 B2 a2 b2 (0 * q) h
dot A1 B1 a1 b1 A2 B2 a2 b2 (suc p) zero h k = omega (arith, dot_same A2 B2 a2 b2 A1 B1 a1 b1 (suc p * 0) k)
dot A1 B1 a1 b1 A2 B2 a2 b2 (suc p) (suc q) h k = dot_pos A1 B1 a1 b1 A2 B2 a2 b2 (suc p) (suc q) (omega arith) h k

-- MINKOWSKI: distances add up
pub minkowski : (A1 B1 a1 b1 A2 B2 a2 b2 p q : ℕ) → Disc A1 B1 a1 b1 (p * p) → Disc A2 B2 a2 b2 (q * q)
    → Disc (A1 + A2) (B1 + B2) (a1 + a2) (b1 + b2) ((p + q) * (p + q))
minkowski A1 B1 a1 b1 A2 B2 a2 b2 p q h k = from_dot A1 B1 a1 b1 A2 B2 a2 b2 p q h k (dot A1 B1 a1 b1 A2 B2 a2 b2 p q h k)
