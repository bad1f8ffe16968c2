-- T(y) grows with y, is at least 1, and is the same however the fraction y is written. Assumes nothing.
use Rattle.std.specs.Prelude.{ℕ, zero, suc, ◌+◌, ◌*◌, ◌^◌, ◌≤◌, ◌<◌, ◌≡◌, refl, [], ◌∷◌}
use Rattle.std.proofs.Common.{arith, le_refl, pow-suc, mul-le-mul, mul-pos}
use Rattle.std.proofs.Math.Nat.{pow-zero}
use Rattle.algebra.specs.Reading.{identity, from, read, ◌⊹◌, ◌⋆◌}
use Rattle.elements.specs.Factors.{denominator, numerator, t_over, t_under}

-- ---- growth: the last term, then the sum
term_le : (n d n' d' : ℕ) → n * d' ≤ n' * d → (m : ℕ) → n ^ m * denominator m d' ≤ n' ^ m * denominator m d
unfolding denominator
term_le n d n' d' h zero = rw (pow-zero n, pow-zero n') (le_refl 1)
term_le n d n' d' h (suc m) = rw (pow-suc n m, pow-suc n' m) (step (n ^ m) (n' ^ m) (denominator m d) (denominator m d') (suc m) (term_le n d n' d' h m))
  where
    step : (p p' u u' s : ℕ) → p * u' ≤ p' * u → p * n * (u' * (s * d')) ≤ p' * n' * (u * (s * d))
    step p p' u u' s ih = from (n ∷ d ∷ n' ∷ d' ∷ p ∷ p' ∷ u ∷ u' ∷ s ∷ []) (s ⋆ mul-le-mul ih h) (search read depth 40 fits 20000) refl

over_le : (n d n' d' : ℕ) → n * d' ≤ n' * d → (m : ℕ) → numerator m n d * denominator m d' ≤ numerator m n' d' * denominator m d
unfolding numerator denominator
over_le n d n' d' h zero = le_refl 1
over_le n d n' d' h (suc m) =
    step (numerator m n d) (numerator m n' d') (denominator m d) (denominator m d') (suc m) (n ^ suc m) (n' ^ suc m) (over_le n d n' d' h m) (term_le n d n' d' h (suc m))
  where
    step : (o o' u u' s p p' : ℕ) → o * u' ≤ o' * u → p * (u' * (s * d')) ≤ p' * (u * (s * d)) → (o * (s * d) + p) * (u' * (s * d')) ≤ (o' * (s * d') + p') * (u * (s * d))
    step o o' u u' s p p' ih t = from (d ∷ d' ∷ o ∷ o' ∷ u ∷ u' ∷ s ∷ p ∷ p' ∷ []) (s * d * (s * d') ⋆ ih ⊹ t) (search read depth 40 fits 20000) refl

-- n/d ≤ n'/d' gives T(n/d) ≤ T(n'/d')
pub t_grows : (n d n' d' : ℕ) → n * d' ≤ n' * d → t_over n d * t_under d' ≤ t_over n' d' * t_under d
unfolding t_over t_under
t_grows n d n' d' h = over_le n d n' d' h 24

-- ---- both parts are above 0 where d is, and T is at least 1
under_pos : (m d : ℕ) → 0 < d → 0 < denominator m d
unfolding denominator
under_pos zero d h = le_refl 1
under_pos (suc m) d h = mul-pos (under_pos m d h) (mul-pos (omega arith) h)

under_le_over : (m n d : ℕ) → denominator m d ≤ numerator m n d
unfolding numerator denominator
under_le_over zero n d = le_refl 1
under_le_over (suc m) n d = omega (arith, mul-le-mul (under_le_over m n d) (le_refl (suc m * d)))

pub t_under_pos : (d : ℕ) → 0 < d → 0 < t_under d
unfolding t_under
t_under_pos d h = under_pos 24 d h

pub t_least : (n d : ℕ) → t_under d ≤ t_over n d
unfolding t_under t_over
t_least n d = under_le_over 24 n d

pub t_over_pos : (n d : ℕ) → 0 < d → 0 < t_over n d
t_over_pos n d h = omega (arith, t_under_pos d h, t_least n d)

-- ---- a fraction in other terms: both sums grow by the same factor
power_of : (n k m : ℕ) → (n * k) ^ m ≡ n ^ m * k ^ m
power_of n k zero = rw (pow-zero (n * k), pow-zero n, pow-zero k)
power_of n k (suc m) = rw (pow-suc (n * k) m, pow-suc n m, pow-suc k m, power_of n k m) (identity (n ∷ k ∷ n ^ m ∷ k ^ m ∷ []) (search read depth 40 fits 20000) refl)

under_scale : (m d k : ℕ) → denominator m (d * k) ≡ denominator m d * k ^ m
unfolding denominator
under_scale zero d k = rw (pow-zero k)
under_scale (suc m) d k = rw (under_scale m d k, pow-suc k m) (step (denominator m d) (k ^ m) (suc m))
  where
    step : (u p s : ℕ) → u * p * (s * (d * k)) ≡ u * (s * d) * (p * k)
    step u p s = identity (d ∷ k ∷ u ∷ p ∷ s ∷ []) (search read depth 40 fits 20000) refl

over_scale : (m n d k : ℕ) → numerator m (n * k) (d * k) ≡ numerator m n d * k ^ m
unfolding numerator
over_scale zero n d k = rw (pow-zero k)
over_scale (suc m) n d k = rw (over_scale m n d k, power_of n k (suc m), pow-suc k m) (step (numerator m n d) (k ^ m) (suc m) (n ^ suc m))
  where
    step : (o p s q : ℕ) → o * p * (s * (d * k)) + q * (p * k) ≡ (o * (s * d) + q) * (p * k)
    step o p s q = identity (d ∷ k ∷ o ∷ p ∷ s ∷ q ∷ []) (search read depth 40 fits 20000) refl

pub t_over_scale : (n d k : ℕ) → t_over (n * k) (d * k) ≡ t_over n d * k ^ 24
unfolding t_over
t_over_scale n d k = over_scale 24 n d k

pub t_under_scale : (d k : ℕ) → t_under (d * k) ≡ t_under d * k ^ 24
unfolding t_under
t_under_scale d k = under_scale 24 d k
