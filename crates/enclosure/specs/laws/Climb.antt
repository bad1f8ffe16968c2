-- Whole numbers found bit by bit.
-- Assumes nothing.
use Rattle.std.specs.Prelude.{◌≡◌, ℕ, zero, suc, ◌+◌, ◌-◌, ◌*◌, ◌/◌, ◌^◌, ◌<◌, ◌≤◌, Bool, true, false, cond, ◌⊎◌, refl, Float}
use Rattle.std.proofs.Common.{sym, ap, ◌∙◌, inl, inr, arith, pow-suc, mul-div_cancel, add_assoc, pow_pos}
use Rattle.std.specs.Float.Ieee.{le}
use Rattle.enclosure.specs.Doubles.{climb, squared, root_below, size_below}
use Rattle.enclosure.specs.declared.Complex.{Complex}

-- r is where the climb began or passes the test, and the next number fails it
pub record Top (test : ℕ → Bool) (low high r : ℕ) : Type 0 where
  pub least : low ≤ r
  pub most : r < high
  pub passes : (r ≡ low) ⊎ (test r ≡ true)
  pub fails : test (r + 1) ≡ false

doubled : (k : ℕ) → 2 ^ suc k ≡ 2 ^ k + 2 ^ k
doubled k = pow-suc 2 k ∙ two (2 ^ k)
  where
    two : (n : ℕ) → n * 2 ≡ n + n
    two n = omega arith

pub above : (low k : ℕ) → low + 2 ^ suc k ≡ low + 2 ^ k + 2 ^ k
above low k = ap (λ (n : ℕ). low + n) (doubled k) ∙ sym (add_assoc low (2 ^ k) (2 ^ k))

higher : (test : ℕ → Bool) (low s e r : ℕ) → test (low + s) ≡ true → e ≡ low + s + s → Top test (low + s) (low + s + s) r → Top test low e r
higher test low s e r t d u = record { least = omega (arith, u.least); most = omega (arith, u.most); passes = passed u.passes; fails = u.fails }
  where
    passed : (r ≡ low + s) ⊎ (test r ≡ true) → (r ≡ low) ⊎ (test r ≡ true)
    passed (inl e) = inr (rw e t)
    passed (inr e) = inr e

lower : (test : ℕ → Bool) (low s e r : ℕ) → e ≡ low + s + s → Top test low (low + s) r → Top test low e r
lower test low s e r d u = record { least = u.least; most = omega (arith, u.most); passes = u.passes; fails = u.fails }

pub climb_top : (test : ℕ → Bool) (k low : ℕ) → test (low + 2 ^ k) ≡ false → Top test low (low + 2 ^ k) (climb test k low)
unfolding climb
climb_top test zero low h = record { least = omega arith; most = omega arith; passes = inl refl; fails = h }
climb_top test (suc k) low h = go (test (low + 2 ^ k)) refl (climb_top test k (low + 2 ^ k)) (climb_top test k low)
  where
    go : (b : Bool) → test (low + 2 ^ k) ≡ b
        → (test (low + 2 ^ k + 2 ^ k) ≡ false → Top test (low + 2 ^ k) (low + 2 ^ k + 2 ^ k) (climb test k (low + 2 ^ k)))
        → (test (low + 2 ^ k) ≡ false → Top test low (low + 2 ^ k) (climb test k low))
        → Top test low (low + 2 ^ suc k) (climb test k (cond b (low + 2 ^ k) low))
    go true t u v = higher test low (2 ^ k) (low + 2 ^ suc k) _ t (above low k) (u (rw (← (above low k)) h))
    go false t u v = lower test low (2 ^ k) (low + 2 ^ suc k) _ (above low k) (v t)

-- whatever the test, the climb stays below
pub climb_small : (test : ℕ → Bool) (k low : ℕ) → climb test k low < low + 2 ^ k
unfolding climb
climb_small test zero low = omega arith
climb_small test (suc k) low = go (test (low + 2 ^ k)) (climb_small test k (low + 2 ^ k)) (climb_small test k low)
  where
    go : (b : Bool) → climb test k (low + 2 ^ k) < low + 2 ^ k + 2 ^ k → climb test k low < low + 2 ^ k → climb test k (cond b (low + 2 ^ k) low) < low + 2 ^ suc k
    go true u v = rw (above low k) u
    go false u v = rw (above low k) (omega arith)

-- ---- for code: one bit more
pub halved : (k : ℕ) → 0 < k → 2 ^ k / 2 ≡ 2 ^ (k - 1)
halved zero h = absurd (omega arith)
halved (suc k) h = let e : suc k - 1 ≡ k = omega arith in rw (e, pow-suc 2 k) (mul-div_cancel (2 ^ k) (pow_pos 1))

pub climb_more : (test : ℕ → Bool) (k low : ℕ) → 0 < k → climb test k low ≡ climb test (k - 1) (cond (test (low + 2 ^ (k - 1))) (low + 2 ^ (k - 1)) low)
unfolding climb
climb_more test zero low h = absurd (omega arith)
climb_more test (suc k) low h = let e : suc k - 1 ≡ k = omega arith in rw e

-- the bit fits, and so does the next
pub bit_room : (low k high : ℕ) → 0 < k → low + 2 ^ k ≤ high → low + 2 ^ (k - 1) + 2 ^ (k - 1) ≤ high
bit_room low zero high z h = absurd (omega arith)
bit_room low (suc k) high z h = let e : suc k - 1 ≡ k = omega arith in let d = doubled k in rw e (omega arith)

-- what a loop keeps: k bits are left, the last one tried was s, and the climb from here is the whole climb
pub record Left (test : ℕ → Bool) (whole high low s k : ℕ) : Type 0 where
  pub step : s ≡ 2 ^ k
  pub room : low + 2 ^ k ≤ high
  pub same : climb test k low ≡ whole

-- the bit to try
pub left_next : (test : ℕ → Bool) (whole high low s k : ℕ) → 0 < k → Left test whole high low s k → low + s / 2 ≤ high
left_next test whole high low s k z h = rw (h.step, halved k z) (omega (arith, bit_room low k high z h.room))

pub left_taken : (test : ℕ → Bool) (whole high low s k : ℕ) → 0 < k → Left test whole high low s k → test (low + s / 2) ≡ true → Left test whole high (low + s / 2) (s / 2) (k - 1)
left_taken test whole high low s k z h t =
    let e : s / 2 ≡ 2 ^ (k - 1) = rw h.step (halved k z) in
    record { step = e; room = rw e (bit_room low k high z h.room); same = ap (λ (n : ℕ). climb test (k - 1) (low + n)) e ∙ sym (climb_more test k low z ∙ rw (rw e at t)) ∙ h.same }

pub left_passed : (test : ℕ → Bool) (whole high low s k : ℕ) → 0 < k → Left test whole high low s k → test (low + s / 2) ≡ false → Left test whole high low (s / 2) (k - 1)
left_passed test whole high low s k z h t =
    let e : s / 2 ≡ 2 ^ (k - 1) = rw h.step (halved k z) in
    record { step = e; room = omega (arith, bit_room low k high z h.room); same = sym (climb_more test k low z ∙ rw (rw e at t)) ∙ h.same }

pub left_none : (test : ℕ → Bool) (whole high low s k : ℕ) → k ≡ 0 → Left test whole high low s k → low ≡ whole
unfolding climb
left_none test whole high low s k e h = rw e at h.same

pub root_small : (m : Float) → root_below m < 2 ^ 53
unfolding root_below
root_small m = climb_small (λ r. le (squared r) m) 53 0

pub size_small : (margin p q : ℕ) (z : Complex) → size_below margin p q z < 2 ^ 53
unfolding size_below
size_small margin p q z = root_small _
