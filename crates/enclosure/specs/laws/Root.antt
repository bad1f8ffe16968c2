-- Whole square roots: `root_of` gives the greatest n with n² ≤ x and `root_up` the least n with x ≤ n². Assumes nothing.
use Rattle.std.specs.Prelude.{◌≡◌, ℕ, zero, suc, ◌+◌, ◌*◌, ◌/◌, ◌^◌, ◌<◌, ◌≤◌, Bool, true, false, not, T, ◌==◌, nat_le}
use Rattle.std.proofs.Common.{zero-le, arith, mul-le-mul, lt_of_le_of_lt, lt_of_not-le, le_antisymm, le_refl, le_trans, lit<, leb→le, eqb→eq}
use Rattle.std.proofs.Math.Nat.{not-suc-le_self}
use Rattle.std.proofs.Math.Dec.{nleb→lt}
use Rattle.enclosure.specs.Exact.{widen, root_by, root_of, root_up}

pub record Root (x r : ℕ) : Type 0 where
  pub low : r * r ≤ x
  pub high : x < (r + 1) * (r + 1)

-- a number whose square is below m² is below m
pub below_of_squares : (r m : ℕ) → r * r < m * m → r < m
below_of_squares r m h = lt_of_not-le (λ l. not-suc-le_self (r * r) (le_trans h (mul-le-mul l l)))

pub root_le : (r m : ℕ) → r * r ≤ m * m → r ≤ m
root_le r m h = omega (arith, below_of_squares r (m + 1) (omega arith))

pub root_unique : (x r s : ℕ) → Root x r → Root x s → r ≡ s
root_unique x r s p q = le_antisymm (one r s p q) (one s r q p)
  where
    one : (r s : ℕ) → Root x r → Root x s → r ≤ s
    one r s p q = omega (arith, below_of_squares r (s + 1) (omega (arith, p.low, q.high)))

pub widen_root : (q r x : ℕ) → 4 * q ≤ x → x < 4 * q + 4 → Root q r → Root x (widen r x)
widen_root q r x l h p = on (nat_le ((2 * r + 1) * (2 * r + 1)) x) (leb→le ((2 * r + 1) * (2 * r + 1)) x) (nleb→lt ((2 * r + 1) * (2 * r + 1)) x)
  where
    on : (b : Bool) → (T b → (2 * r + 1) * (2 * r + 1) ≤ x) → (T (not b) → x < (2 * r + 1) * (2 * r + 1)) → Root x (elim b [ true ↦ 2 * r + 1 | false ↦ 2 * r ])
    on true y n = record { low = y tt; high = omega (arith, p.high) }
    on false y n = record { low = omega (arith, p.low); high = n tt }

root_by_root : (n x : ℕ) → x ≤ n → Root x (root_by n x)
unfolding root_by
root_by_root zero x l = record { low = zero-le; high = omega arith }
root_by_root (suc n) x l = on (x == 0) (eqb→eq x 0) (λ p. widen_root (x / 4) (root_by n (x / 4)) x (omega arith) (omega arith) (root_by_root n (x / 4) p))
  where
    on : (b : Bool) → (T b → x ≡ 0) → (x / 4 ≤ n → Root x (widen (root_by n (x / 4)) x)) → Root x (elim b [ true ↦ 0 | false ↦ widen (root_by n (x / 4)) x ])
    on true e r = record { low = zero-le; high = omega (arith, e tt) }
    on false e r = r (omega arith)

pub root_is : (x : ℕ) → Root x (root_of x)
unfolding root_of
root_is x = root_by_root x x (le_refl x)

-- the greatest: n² ≤ x exactly when n is at most the root
pub root_greatest : (x n : ℕ) → n * n ≤ x → n ≤ root_of x
root_greatest x n h = omega (arith, below_of_squares n (root_of x + 1) (omega (arith, (root_is x).high)))

pub root_up_reaches : (x : ℕ) → x ≤ root_up x * root_up x
unfolding root_up
root_up_reaches zero = zero-le
root_up_reaches (suc x) = omega (arith, (root_is x).high)

pub root_up_least : (x n : ℕ) → x ≤ n * n → root_up x ≤ n
unfolding root_up
root_up_least zero n h = zero-le
root_up_least (suc x) n h = below_of_squares (root_of x) n (omega (arith, (root_is x).low))

-- ---- a step of the code: from s, the root of x / 4, to that of x
pub root_below_law : (x m : ℕ) → x < m * m → root_of x < m
root_below_law x m h = below_of_squares (root_of x) m (omega (arith, (root_is x).low))

pub root_more : (x s : ℕ) → s ≡ root_of (x / 4) → (2 * s + 1) * (2 * s + 1) ≤ x → 2 * s + 1 ≡ root_of x
root_more x s e h = root_unique x (2 * s + 1) (root_of x) (record { low = h; high = up s (rw e (root_is (x / 4))) }) (root_is x)
  where
    up : (s : ℕ) → Root (x / 4) s → x < (2 * s + 1 + 1) * (2 * s + 1 + 1)
    up s r = omega (arith, r.high)

pub root_same : (x s : ℕ) → s ≡ root_of (x / 4) → x < (2 * s + 1) * (2 * s + 1) → 2 * s ≡ root_of x
root_same x s e h = root_unique x (2 * s) (root_of x) (record { low = low s (rw e (root_is (x / 4))); high = h }) (root_is x)
  where
    low : (s : ℕ) → Root (x / 4) s → 2 * s * (2 * s) ≤ x
    low s r = omega (arith, r.low)

-- within 64 bits: the root of x / 4 is below 2³¹
pub quarter_below : (x s : ℕ) → s ≡ root_of (x / 4) → x < 2 ^ 64 → s < 2 ^ 31
quarter_below x s e h = rw e (root_below_law (x / 4) (2 ^ 31) (omega arith))

pub square_fits : (s : ℕ) → s < 2 ^ 31 → (2 * s + 1) * (2 * s + 1) < 2 ^ 64
square_fits s h = lt_of_le_of_lt (mul-le-mul {n₁ = 2 * s + 1} {m₁ = 2 * s + 1} {n₂ = 4294967295} {m₂ = 4294967295} (omega arith) (omega arith)) (lit< tt)

-- ---- a guess that is tried: below 2 ^ 32 - 1 the next number's square fits
pub guess_fits : (n : ℕ) → n < 4294967295 → (n + 1) * (n + 1) < 2 ^ 64
guess_fits n h = lt_of_le_of_lt (mul-le-mul {n₁ = n + 1} {m₁ = n + 1} {n₂ = 4294967295} {m₂ = 4294967295} (omega arith) (omega arith)) (lit< tt)

pub guess_root : (x n : ℕ) → n * n ≤ x → x < (n + 1) * (n + 1) → n ≡ root_of x
guess_root x n l h = root_unique x n (root_of x) (record { low = l; high = h }) (root_is x)
