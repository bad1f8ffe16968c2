-- The law that joins the exact peak to the steps of the peak table: √2·I·V(p)/16,000, rounded up, is a peak, and a near one, where p
-- stands for R/X. Assumes nothing.
use Rattle.std.specs.Prelude.{ℕ, ◌+◌, ◌*◌, ◌^◌, ◌≤◌, ◌<◌, ◌≡◌, refl, [], ◌∷◌}
use Rattle.std.proofs.Common.{⊎_elim, arith, mul-le-mul, mul-pos, eq-or-lt_of_le}
use Rattle.algebra.specs.Reading.{identity, from, from_over, read, ◌⊹◌, ◌⋆◌}
use Rattle.elements.specs.Factors.{t_over, t_under}
use Rattle.elements.specs.laws.Exponential.{t_grows, t_over_pos, t_over_scale, t_under_scale}
use Rattle.elements.specs.Doubles.{fine_factor}
use Rattle.elements.specs.laws.FineTable.{fine_high, spread, fine_near, fine_near_last}
use Rattle.elements.specs.Peak.{crest, peak_over, peak_under, PeakBound, NearPeak, NearMachinePeak}

-- a near peak is a peak, wherever over/under is at most 1.02
pub near_bound : (over under n e v : ℕ) → 0 < under → 100 * over ≤ 102 * under → NearPeak over under n e v → PeakBound n e v
near_bound over under n e v z l h = record { no_lower = h.no_lower; near = λ m d. far m (h.near (m + 3) (omega arith)) }
  where
    far : (m : ℕ) → under * under * ((m + 3) * (m + 3)) * v ≤ over * over * e → 10000 * (m * m) * v ≤ 10404 * e
    far m k =
        from_over (over ∷ under ∷ m ∷ e ∷ v ∷ []) (under * under) (mul-pos z z) (10000 ⋆ k ⊹ e ⋆ mul-le-mul l l) (search read depth 40 fits 20000) refl

-- ---- the step p of the table for R/X: R/X in 1,600ths, rounded down with a tenth to spare, and at most 3,680
pub record Index (R X p : ℕ) : Type 0 where
  pub below : p * X ≤ 1600 * R
  pub cap : p ≤ 3680
  pub above : p < 3680 → 16000 * R < (10 * p + 11) * X

-- V(p)/16,000 is not below 1.02 + 0.98/T(3R/X)
factor_over : (p R X : ℕ) → p ≤ 3680 → p * X ≤ 1600 * R → 160 * crest R X ≤ fine_factor p * t_over (3 * R) X
unfolding crest
factor_over p R X l h =
    step (t_under 1600) (t_over (3 * p) 1600) (t_under X) (t_over (3 * R) X) (fine_factor p)
    (t_over_pos (3 * p) 1600 (omega arith)) (fine_high p (omega arith)) (t_grows (3 * p) 1600 (3 * R) X (omega arith))
  where
    step : (b t B N k : ℕ) → 0 < t → 160 * (102 * t + 98 * b) ≤ k * t → t * B ≤ N * b → 160 * (102 * N + 98 * B) ≤ k * N
    step b t B N k z p q = from_over (b ∷ t ∷ B ∷ N ∷ k ∷ []) t z (N ⋆ p ⊹ 15680 ⋆ q) (search read depth 40 fits 20000) refl

-- and above it by at most the spread of the table
factor_near : (p R X : ℕ) → p < 3680 → 16000 * R < (10 * p + 11) * X → 100000 * fine_factor p * t_over (3 * R) X ≤ 160 * spread * crest R X
unfolding crest
factor_near p R X l h =
    step (t_over (3 * (10 * p + 11)) 16000) (t_under 16000) (t_over (3 * R) X) (t_under X) (fine_factor p)
    (t_over_pos (3 * (10 * p + 11)) 16000 (omega arith)) (fine_near p l) (t_grows (3 * R) X (3 * (10 * p + 11)) 16000 (omega arith))
  where
    step : (t b N B k : ℕ) → 0 < t → 100000 * k * t ≤ 160 * spread * (102 * t + 98 * b) → N * b ≤ t * B → 100000 * k * N ≤ 160 * spread * (102 * N + 98 * B)
    step t b N B k z p q = from_over (t ∷ b ∷ N ∷ B ∷ k ∷ []) t z (N ⋆ p ⊹ 15680 * spread ⋆ q) (search read depth 40 fits 20000) refl

factor_last : (R X : ℕ) → 100000 * fine_factor 3680 * t_over (3 * R) X ≤ 160 * spread * crest R X
unfolding crest
factor_last R X = step (fine_factor 3680) (t_over (3 * R) X) (t_under X) fine_near_last
  where
    step : (k N B : ℕ) → 100000 * k ≤ 160 * spread * 102 → 100000 * k * N ≤ 160 * spread * (102 * N + 98 * B)
    step k N B h = from (k ∷ N ∷ B ∷ []) (N ⋆ h) (search read depth 40 fits 20000) refl

factor_within : (p R X : ℕ) → Index R X p → 100000 * fine_factor p * t_over (3 * R) X ≤ 160 * spread * crest R X
factor_within p R X x = ⊎_elim (λ (e : p ≡ 3680). rw e (factor_last R X)) (λ (l : p < 3680). factor_near p R X l (x.above l)) (eq-or-lt_of_le x.cap)

-- THE PEAK. n is a near peak where n² ≥ 2·I²·(V(p)/16,000)² and (n − 1)² is at most a part in 2 ^ 28 above that
pub peak_near : (P Q R X p n : ℕ) → Index R X p
    → 2 * P * (fine_factor p * fine_factor p) ≤ 256000000 * (Q * (n * n))
    → ((m : ℕ) → m + 1 ≡ n → 268435456 * (256000000 * (Q * (m * m))) ≤ 268435457 * (2 * P * (fine_factor p * fine_factor p)))
    → NearMachinePeak n (peak_over P R X) (peak_under Q R X)
unfolding peak_over peak_under
peak_near P Q R X p n x least most = record {
  no_lower = low (fine_factor p) (t_over (3 * R) X) (crest R X) least (factor_over p R X x.cap x.below);
  near = λ m e. far m (fine_factor p) (t_over (3 * R) X) (crest R X) (most m e) (factor_within p R X x);
}
  where
    low : (k N C : ℕ) → 2 * P * (k * k) ≤ 256000000 * (Q * (n * n)) → 160 * C ≤ k * N → 2 * P * (C * C) ≤ n * n * (Q * (100 * N * (100 * N)))
    low k N C h f =
        from_over (P ∷ Q ∷ n ∷ k ∷ N ∷ C ∷ []) 25600 (omega arith) (2 * P ⋆ mul-le-mul f f ⊹ N * N ⋆ h) (search read depth 40 fits 20000) refl

    far : (m k N C : ℕ) → 268435456 * (256000000 * (Q * (m * m))) ≤ 268435457 * (2 * P * (k * k)) → 100000 * k * N ≤ 160 * spread * C
        → 10000 * 10000 * (m * m) * (Q * (100 * N * (100 * N))) ≤ 10015 * 10015 * (2 * P * (C * C))
    far m k N C h f =
        from_over (P ∷ Q ∷ m ∷ k ∷ N ∷ C ∷ []) (268435456 * 2560000) (omega arith) (10000000000 * (N * N) ⋆ h ⊹ 268435457 * (2 * P) ⋆ mul-le-mul f f) (search read depth 40 fits 20000) refl

-- ---- R, X and I² in other terms: a near peak stays one
times_three : (R k : ℕ) → 3 * (R * k) ≡ 3 * R * k
times_three R k = omega arith

crest_scale : (R X k : ℕ) → crest (R * k) (X * k) ≡ crest R X * k ^ 24
unfolding crest
crest_scale R X k = rw (times_three R k, t_over_scale (3 * R) X k, t_under_scale X k) (put (t_over (3 * R) X) (t_under X) (k ^ 24))
  where
    put : (a b p : ℕ) → 102 * (a * p) + 98 * (b * p) ≡ (102 * a + 98 * b) * p
    put a b p = omega arith

near_scale : (over under n e v s : ℕ) → NearPeak over under n e v → NearPeak over under n (e * s) (v * s)
near_scale over under n e v s h = record {
  no_lower = from (n ∷ e ∷ v ∷ s ∷ []) (s ⋆ h.no_lower) (search read depth 40 fits 20000) refl;
  near = λ m d. from (over ∷ under ∷ m ∷ e ∷ v ∷ s ∷ []) (s ⋆ h.near m d) (search read depth 40 fits 20000) refl;
}

pub peak_scale : (over under n P Q R X s k : ℕ) → NearPeak over under n (peak_over P R X) (peak_under Q R X) → NearPeak over under n (peak_over (P * s) (R * k) (X * k)) (peak_under (Q * s) (R * k) (X * k))
unfolding peak_over peak_under
peak_scale a b n P Q R X s k h =
    rw (crest_scale R X k, times_three R k, t_over_scale (3 * R) X k, over (crest R X) (k ^ 24), under (t_over (3 * R) X) (k ^ 24)) (near_scale a b n _ _ (s * (k ^ 24 * k ^ 24)) h)
  where
    over : (c p : ℕ) → 2 * (P * s) * (c * p * (c * p)) ≡ 2 * P * (c * c) * (s * (p * p))
    over c p = identity (P ∷ s ∷ c ∷ p ∷ []) (search read depth 40 fits 20000) refl

    under : (t p : ℕ) → Q * s * (100 * (t * p) * (100 * (t * p))) ≡ Q * (100 * t * (100 * t)) * (s * (p * p))
    under t p = identity (Q ∷ s ∷ t ∷ p ∷ []) (search read depth 40 fits 20000) refl
