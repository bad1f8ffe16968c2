-- Closeness of two points to k parts in M of the first one's size, and what each operation costs. Every rule holds for all sizes.
-- Assumes nothing.
use Rattle.std.specs.Prelude.{◌≡◌, ℕ, ◌+◌, ◌*◌, ◌<◌, ◌≤◌, [], ◌∷◌, refl}
use Rattle.std.proofs.Common.{⊎_elim, arith, mul-le-mul, mul-pos}
use Rattle.std.proofs.Math.Nat.{le_dest}
use Rattle.algebra.specs.Polynomial.{two_sq, le_or_le}
use Rattle.algebra.specs.Reading.{from, from_over, read, ◌⊹◌, ◌⋆◌}
use Rattle.enclosure.specs.laws.Root.{root_le}
use Rattle.enclosure.specs.laws.Distance.{Disc, minkowski}
use Rattle.enclosure.specs.Exact.{norm}

-- M times the distance of (A, B) and (a, b) is at most k·(A + B)
abbrev pub Close : ℕ → ℕ → ℕ → ℕ → ℕ → ℕ → Type 0
Close M k A B a b = M * M * (A * A + B * B + (a * a + b * b)) ≤ k * k * ((A + B) * (A + B)) + M * M * (2 * (A * a + B * b))

-- SCALE costs nothing
pub close_scale : (M k c A B a b : ℕ) → Close M k A B a b → Close M k (c * A) (c * B) (c * a) (c * b)
close_scale M k c A B a b h = from (M ∷ k ∷ c ∷ A ∷ B ∷ a ∷ b ∷ []) (c * c ⋆ h) (search read depth 40 fits 20000) refl

pub close_unscale : (M k c A B a b : ℕ) → 0 < c → Close M k (c * A) (c * B) (c * a) (c * b) → Close M k A B a b
close_unscale M k c A B a b z h = from_over (M ∷ k ∷ c ∷ A ∷ B ∷ a ∷ b ∷ []) (c * c) (mul-pos z z) h (search read depth 40 fits 20000) refl

-- MORE
pub close_more : (M k j A B a b : ℕ) → k ≤ j → Close M k A B a b → Close M j A B a b
close_more M k j A B a b l h = from (M ∷ k ∷ j ∷ A ∷ B ∷ a ∷ b ∷ []) (h ⊹ (A + B) * (A + B) ⋆ mul-le-mul l l) (search read depth 40 fits 20000) refl

close→disc : (M k A B a b : ℕ) → Close M k A B a b → Disc (M * A) (M * B) (M * a) (M * b) (k * (A + B) * (k * (A + B)))
close→disc M k A B a b h = from (M ∷ k ∷ A ∷ B ∷ a ∷ b ∷ []) h (search read depth 40 fits 20000) refl

-- SUM costs nothing: distances and sizes both add up
pub close_sum : (M k A1 B1 a1 b1 A2 B2 a2 b2 : ℕ) → Close M k A1 B1 a1 b1 → Close M k A2 B2 a2 b2 → Close M k (A1 + A2) (B1 + B2) (a1 + a2) (b1 + b2)
close_sum M k A1 B1 a1 b1 A2 B2 a2 b2 h g =
    from (M ∷ k ∷ A1 ∷ B1 ∷ a1 ∷ b1 ∷ A2 ∷ B2 ∷ a2 ∷ b2 ∷ [])
    (minkowski (M * A1) (M * B1) (M * a1) (M * b1) (M * A2) (M * B2) (M * a2) (M * b2) (k * (A1 + B1)) (k * (A2 + B2))
    (close→disc M k A1 B1 a1 b1 h) (close→disc M k A2 B2 a2 b2 g))
    (search read depth 40 fits 20000) refl

-- the second point is not much nearer to 0 than the first: k·|z| ≤ (k + s)·|w|
longer : (M k s A B a b : ℕ) → 0 < M → 0 < s → 2 * (k * (k + s)) ≤ s * M → Close M k A B a b → k * k * norm A B ≤ (k + s) * (k + s) * norm a b
longer M k s A B a b z y l h =
    from_over (M ∷ k ∷ s ∷ A ∷ B ∷ a ∷ b ∷ []) (s * (M * M)) (mul-pos y (mul-pos z z))
    (k * ((k + s) * (k + s)) ⋆ (h ⊹ k * k ⋆ two_sq A B)
    ⊹ (k + s) * (M * M) ⋆ (two_sq (k * A) ((k + s) * a) ⊹ two_sq (k * B) ((k + s) * b))
    ⊹ norm A B * k ⋆ mul-le-mul l l)
    (search read depth 40 fits 20000) refl

-- INVERSION costs s where 2·k·(k + s) ≤ s·M: with n = |z|² and m = |w|², |z·m - w·n|² = n·m·|z - w|²
pub close_invert : (M k s A B a b : ℕ) → 0 < M → 0 < s → 2 * (k * (k + s)) ≤ s * M → Close M k A B a b
    → Close M (k + s) (A * norm a b) (B * norm a b) (a * norm A B) (b * norm A B)
close_invert M k s A B a b z y l h =
    from (M ∷ k ∷ s ∷ A ∷ B ∷ a ∷ b ∷ []) (norm A B * norm a b ⋆ h ⊹ norm a b * ((A + B) * (A + B)) ⋆ longer M k s A B a b z y l h)
    (search read depth 40 fits 20000) refl

-- the size of the second point is at most √2 times that of the first
sum_most : (M k A B a b : ℕ) → 0 < M * M → 4 * k ≤ M → Close M k A B a b → 15 * ((a + b) * (a + b)) ≤ 29 * ((A + B) * (A + B))
sum_most M k A B a b z l h =
    from_over (M ∷ k ∷ A ∷ B ∷ a ∷ b ∷ []) (M * M) z
    (80 ⋆ h ⊹ 5 * ((A + B) * (A + B)) ⋆ mul-le-mul l l ⊹ M * M ⋆ (40 ⋆ two_sq (a + B) (A + b) ⊹ two_sq (5 * (a + b)) (8 * (A + B))))
    (search read depth 40 fits 20000) refl

short : (s S t : ℕ) → 15 * (t * t) ≤ 29 * (S * S) → s * t * (s * t) ≤ 2 * (s * S * (s * S))
short s S t h = from_over (s ∷ S ∷ t ∷ []) 15 (omega arith) (s * s ⋆ h) (search read depth 40 fits 20000) refl

-- TRIANGLE: a point within s of one that is within k is within k + 2·s
pub close_trans : (M k s A B a b a' b' : ℕ) → 0 < M → 4 * k ≤ M → Close M k A B a b → Close M s a b a' b' → Close M (k + 2 * s) A B a' b'
close_trans M k s A B a b a' b' z l h g =
    from (M ∷ k ∷ s ∷ A ∷ B ∷ a ∷ b ∷ a' ∷ b' ∷ [])
    (minkowski (M * A) (M * B) (M * a) (M * b) (M * a) (M * b) (M * a') (M * b') (k * (A + B)) (2 * (s * (A + B)))
    (close→disc M k A B a b h)
    (from (M ∷ s ∷ A ∷ B ∷ a ∷ b ∷ a' ∷ b' ∷ []) (close→disc M s a b a' b' g ⊹ short s (A + B) (a + b) (sum_most M k A B a b (mul-pos z z) l h)) (search read depth 40 fits 20000) refl))
    (search read depth 40 fits 20000) refl

-- ---- rounding: a is A to k parts in M, and h besides
abbrev pub Within : ℕ → ℕ → ℕ → ℕ → ℕ → Type 0
Within M k h A a = (M * a ≤ M * A + k * A + h) × (M * A ≤ M * a + k * A + h)

gap : (x d t : ℕ) → x + d ≤ x + t → (x + d) * (x + d) + x * x ≤ 2 * ((x + d) * x) + t * t
gap x d t h = from (x ∷ d ∷ t ∷ []) (mul-le-mul h' h') (search read depth 40 fits 20000) refl
  where
    h' : d ≤ t
    h' = omega arith

-- |x - y| ≤ t, squared
squares : (x y t : ℕ) → x ≤ y + t → y ≤ x + t → x * x + y * y ≤ 2 * (x * y) + t * t
squares x y t h k = ⊎_elim (λ l. up (le_dest l).0 (le_dest l).1) (λ l. down (le_dest l).0 (le_dest l).1) (le_or_le x y)
  where
    up : (d : ℕ) → x + d ≡ y → x * x + y * y ≤ 2 * (x * y) + t * t
    up d e = rw (← e) (omega (arith, gap x d t (omega arith)))

    down : (d : ℕ) → y + d ≡ x → x * x + y * y ≤ 2 * (x * y) + t * t
    down d e = rw (← e) (omega (arith, gap y d t (omega arith)))

-- ROUNDING both parts to k parts each, and a small h besides, costs k + 1
pub close_round : (M k h A B a b : ℕ) → 2 * h ≤ A + B → Within M k h A a → Within M k h B b → Close M (k + 1) A B a b
close_round M k h A B a b l p q =
    from (M ∷ k ∷ h ∷ A ∷ B ∷ a ∷ b ∷ [])
    (squares (M * A) (M * a) (k * A + h) (omega (arith, p.1)) (omega (arith, p.0))
    ⊹ squares (M * B) (M * b) (k * B + h) (omega (arith, q.1)) (omega (arith, q.0))
    ⊹ mul-le-mul l' l')
    (search read depth 40 fits 20000) refl
  where
    l' : k * (A + B) + 2 * h ≤ (k + 1) * (A + B)
    l' = omega arith

-- ---- each part of a close pair
part_gap : (u v w : ℕ) → u * u + v * v ≤ w * w + 2 * (u * v) → u ≤ v + w
part_gap u v w h = ⊎_elim (λ (l : u ≤ v). omega arith) (λ (l : v ≤ u). omega (arith, split (le_dest l).0 (rw (← (le_dest l).1) at h), (le_dest l).1)) (le_or_le u v)
  where
    flat : (g : ℕ) → (v + g) * (v + g) + v * v ≤ w * w + 2 * ((v + g) * v) → g * g ≤ w * w
    flat g h = omega arith

    split : (g : ℕ) → (v + g) * (v + g) + v * v ≤ w * w + 2 * ((v + g) * v) → g ≤ w
    split g h = root_le g w (flat g h)

pub close_part : (M k A B a b : ℕ) → Close M k A B a b → (M * A ≤ M * a + k * (A + B)) × (M * a ≤ M * A + k * (A + B))
close_part M k A B a b c = (
  part_gap (M * A) (M * a) (k * (A + B)) (from (M ∷ k ∷ A ∷ B ∷ a ∷ b ∷ []) (c ⊹ M * M ⋆ two_sq B b) (search read depth 40 fits 20000) refl),
  part_gap (M * a) (M * A) (k * (A + B)) (from (M ∷ k ∷ A ∷ B ∷ a ∷ b ∷ []) (c ⊹ M * M ⋆ two_sq B b) (search read depth 40 fits 20000) refl),
)

pub close_swap : (M k A B a b : ℕ) → Close M k A B a b → Close M k B A b a
close_swap M k A B a b c = from (M ∷ k ∷ A ∷ B ∷ a ∷ b ∷ []) c (search read depth 40 fits 20000) refl

-- ---- the sizes, by squares: |w| is within 1 part in n of |z| where √2·k·(n + 1) ≤ M
pub size_low : (M k n A B a b : ℕ) → 0 < M * M → 2 * (k * k) * (n * n) ≤ M * M → Close M k A B a b → n * n * norm a b ≤ (n + 1) * (n + 1) * norm A B
size_low M k n A B a b z l h =
    from_over (M ∷ k ∷ n ∷ A ∷ B ∷ a ∷ b ∷ []) (M * M) z
    (n * (n * (n + 1)) ⋆ (h ⊹ k * k ⋆ two_sq A B) ⊹ n * (M * M) ⋆ (two_sq (n * a) ((n + 1) * A) ⊹ two_sq (n * b) ((n + 1) * B)) ⊹ (n + 1) * norm A B ⋆ l)
    (search read depth 40 fits 20000) refl

pub size_high : (M k n A B a b : ℕ) → 0 < M * M → 2 * (k * k) * ((n + 1) * (n + 1)) ≤ M * M → Close M k A B a b → n * n * norm A B ≤ (n + 1) * (n + 1) * norm a b
size_high M k n A B a b z l h =
    from_over (M ∷ k ∷ n ∷ A ∷ B ∷ a ∷ b ∷ []) (M * M) z
    ((n + 1) * (n * (n + 1)) ⋆ (h ⊹ k * k ⋆ two_sq A B) ⊹ (n + 1) * (M * M) ⋆ (two_sq ((n + 1) * a) (n * A) ⊹ two_sq ((n + 1) * b) (n * B)) ⊹ n * norm A B ⋆ l)
    (search read depth 40 fits 20000) refl
