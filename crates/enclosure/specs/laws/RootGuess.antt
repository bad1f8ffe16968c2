-- A guessed root that passes the test, and the next number fails it, is the root: the test is passed by every number below one that passes.
-- Assumes nothing.
use Rattle.std.specs.Prelude.{◌≡◌, ℕ, zero, suc, ◌+◌, ◌*◌, ◌^◌, ◌<◌, ◌≤◌, Bool, true, false, cond, T, refl, Float}
use Rattle.std.proofs.Common.{sym, ap, ◌∙◌, subst, true≢false, ⊎_elim, arith, le_trans, le_of_lt, le_refl, mul-le-mul, mul-pos, eq-or-lt_of_le, lt_of_not-le, lit≤, pow_pos}
use Rattle.std.specs.Float.{nan, inf, fin, binary64}
use Rattle.std.specs.Float.Ieee.{round, le}
use Rattle.std.specs.Float.Ieee.Order.{le_of_values, round_mono}
use Rattle.std.specs.Float.Ieee.Bits.{is_true}
use Rattle.std.specs.Float.Ieee.Positive.{num, den, den_pos, own_value, positive, positive_of_value, values_of_le, through, above, above_of_le}
use Rattle.enclosure.specs.Doubles.{climb, squared, root_below}
use Rattle.enclosure.specs.laws.Climb.{above as doubled-above}
use Rattle.enclosure.specs.laws.RoundedOnce.{mul_at}
use Rattle.enclosure.specs.laws.Units.{unit, unit_pos, unit_large, Is, units_of, exact, square_rounds}
use Rattle.enclosure.specs.laws.WholeBounds.{le_units}

-- ---- a climb finds the one number that passes where the next one fails
-- from low to high, the test is passed by every number below one that passes
abbrev pub Falling : (ℕ → Bool) → ℕ → ℕ → Type 0
Falling test low high = (a b : ℕ) → low ≤ a → a < b → b ≤ high → test b ≡ true → test a ≡ true

-- which half the number is in
upper_half : (test : ℕ → Bool) (low s e r : ℕ) → Falling test low e → e ≡ low + s + s → test (low + s) ≡ true → low ≤ r → test (r + 1) ≡ false → low + s ≤ r
upper_half test low s e r f d t l u = omega (arith, lt_of_not-le no)
  where
    no : r + 1 ≤ low + s → ⊥
    no h = true≢false (sym (⊎_elim (λ (p : r + 1 ≡ low + s). ap test p ∙ t) (λ (p : r + 1 < low + s). f (r + 1) (low + s) (omega arith) p (omega arith) t) (eq-or-lt_of_le h)) ∙ u)

lower_half : (test : ℕ → Bool) (low s e r : ℕ) → Falling test low e → r < e → test (low + s) ≡ false → test r ≡ true → r < low + s
lower_half test low s e r f h t u = lt_of_not-le no
  where
    no : low + s ≤ r → ⊥
    no l = true≢false (sym (⊎_elim (λ (p : low + s ≡ r). ap test p ∙ u) (λ (p : low + s < r). f (low + s) r (omega arith) p (le_of_lt h) u) (eq-or-lt_of_le l)) ∙ t)

falling_upper : (test : ℕ → Bool) (low s e : ℕ) → Falling test low e → e ≡ low + s + s → Falling test (low + s) (low + s + s)
falling_upper test low s e f d a b p q l t = f a b (omega arith) q (omega arith) t

falling_lower : (test : ℕ → Bool) (low s e : ℕ) → Falling test low e → e ≡ low + s + s → Falling test low (low + s)
falling_lower test low s e f d a b p q l t = f a b p q (omega arith) t

pub climb_unique : (test : ℕ → Bool) (k low r : ℕ) → Falling test low (low + 2 ^ k) → low ≤ r → r < low + 2 ^ k → test r ≡ true → test (r + 1) ≡ false → climb test k low ≡ r
unfolding climb
climb_unique test zero low r f l h t u = omega arith
climb_unique test (suc k) low r f l h t u = go (test (low + 2 ^ k)) refl (climb_unique test k (low + 2 ^ k) r) (climb_unique test k low r)
  where
    e : low + 2 ^ suc k ≡ low + 2 ^ k + 2 ^ k
    e = doubled-above low k

    go : (b : Bool) → test (low + 2 ^ k) ≡ b
        → (Falling test (low + 2 ^ k) (low + 2 ^ k + 2 ^ k) → low + 2 ^ k ≤ r → r < low + 2 ^ k + 2 ^ k → test r ≡ true → test (r + 1) ≡ false → climb test k (low + 2 ^ k) ≡ r)
        → (Falling test low (low + 2 ^ k) → low ≤ r → r < low + 2 ^ k → test r ≡ true → test (r + 1) ≡ false → climb test k low ≡ r)
        → climb test k (cond b (low + 2 ^ k) low) ≡ r
    go true s x y = x (falling_upper test low (2 ^ k) (low + 2 ^ suc k) f e) (upper_half test low (2 ^ k) (low + 2 ^ suc k) r f e s l u) (rw e at h) t u
    go false s x y = y (falling_lower test low (2 ^ k) (low + 2 ^ suc k) f e) l (lower_half test low (2 ^ k) (low + 2 ^ suc k) r f h s t) t u

-- ---- f64's test x·x ≤ m
-- the square of a larger whole number is no smaller
squares_grow : (a b : ℕ) → a ≤ b → b ≤ 2 ^ 53 → T (le (squared a) (squared b))
squares_grow a b h l =
    subst (λ (z : Float). T (le z (squared b))) (sym (at a (le_trans h l)))
    (subst (λ (z : Float). T (le (round binary64 false (a * a) (1 * 1)) z)) (sym (at b l)) (round_mono binary64 (a * a) (1 * 1) (b * b) (1 * 1) (pow_pos 0) (pow_pos 0) (mul-le-mul (mul-le-mul h h) (le_refl (1 * 1)))))
  where
    at : (n : ℕ) → n ≤ 2 ^ 53 → squared n ≡ round binary64 false (n * n) (1 * 1)
    at n k = mul_at binary64 _ _ n 1 n 1 (pow_pos 0) (pow_pos 0) (exact n k) (exact n k)

-- and above 0
square_some : (b : ℕ) → 0 < b → b ≤ 2 ^ 53 → 0 < units_of (squared b)
square_some b z l = some (units_of (squared b)) (b * b * unit) (le_trans (le_trans (lit≤ tt) unit_large) (one b unit z)) (square_rounds b l).law.1
  where
    one : (b u : ℕ) → 0 < b → u ≤ b * b * u
    one b u z = le_trans (omega arith) (mul-le-mul (mul-pos z z) (le_refl u))

    some : (g w : ℕ) → 2 ≤ w → 18014398509481984 * w ≤ 18014398509481984 * (g * 1) + 2 * w + 9007199254740992 * 1 → 0 < g
    some g w h k = omega arith

le_most : (x : Float) (a : ℕ) → Is x a → T (le x (inf false))
unfolding le
le_most nan a h = absurd h
le_most (inf s) a h = absurd h
le_most (fin true n e) a h = absurd (true≢false h.0)
le_most (fin false n e) a h = tt

-- x ≤ y ≤ m, where y is above 0
le_through : (x y m : Float) (a b : ℕ) → Is x a → Is y b → a ≤ b → T (positive y) → T (le y m) → T (le x m)
le_through x y m a b h k l p t = go m t (above_of_le y m p t)
  where
    go : (m : Float) → T (le y m) → T (above m) → T (le x m)
    go nan t u = absurd u
    go (inf true) t u = absurd u
    go (inf false) t u = le_most x a h
    go (fin true n e) t u = absurd u
    go (fin false n e) t u =
        let z : Float = fin false n e in
        le_of_values x z a unit (num z) (den z) unit_pos (den_pos z) h (own_value z u)
        (through a b (num z) unit unit (den z) unit_pos (mul-le-mul l (le_refl unit)) (values_of_le y z b unit (num z) (den z) p u k (own_value z u) t))

pub root_falling : (m : Float) → Falling (λ r. le (squared r) m) 0 (0 + 2 ^ 53)
root_falling m a b z h l t =
    let x = (square_rounds a (omega arith)).is in
    let y = (square_rounds b (omega arith)).is in
    is_true (le (squared a) m)
    (le_through (squared a) (squared b) m _ _ x y (le_units _ _ _ _ x y (is_true (le (squared a) (squared b)) (squares_grow a b (omega arith) (omega arith))))
    (positive_of_value (squared b) _ unit y (square_some b (omega arith) (omega arith))) (subst T (sym t) tt))

-- THE GUESS: for every m, NaN, infinities and negative numbers among them
pub root_guessed : (m : Float) (n : ℕ) → n < 2 ^ 53 → le (squared n) m ≡ true → le (squared (n + 1)) m ≡ false → n ≡ root_below m
unfolding root_below
root_guessed m n h t u = sym (climb_unique (λ r. le (squared r) m) 53 0 n (root_falling m) (omega arith) (omega arith) t u)
