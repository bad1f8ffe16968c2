-- One rounding to f64: off by at most 2 ^ -53 of the value and half of the smallest f64, for every fraction that is not negative and at most 2 ^ 1023.
-- Assumes nothing.
use Prim.Native.Nat.{compare, Ordering}
use Rattle.std.specs.Prelude.{◌≡◌, ℕ, suc, ◌+◌, ◌-◌, ◌*◌, ◌/◌, ◌%◌, ◌^◌, ◌<◌, ◌≤◌, not, T, ◌==◌}
use Rattle.std.proofs.Common.{sym, ap, ◌∙◌, subst, ⊎_elim, le_trans, le_of_eq, add-mul, one-mul, mul-one, mul_comm, mul_assoc, mul-pos, mul-le-mul_right, le-div_iff_mul-le, div-add-mod', mod-lt, arith, leb→le, eqb→eq, pow-add, pow_pos}
use Rattle.std.proofs.Math.Dec.{is_le, compare_is_eq, nleb→lt, eqb_refl}
use Rattle.std.proofs.Math.Arith.{lt_of_le-ne}
use Rattle.std.specs.Float.Ieee.{nearest, size}
use Rattle.std.specs.Float.Ieee.Digits.{size_reaches}
use Rattle.std.specs.Float.Ieee.Nearest.{closest}
use Rattle.std.specs.Float.Ieee.Order.{drop, kept}
use Rattle.algebra.specs.Polynomial.{le_or_le}

-- ---- a fraction to the nearest whole number is off by a half at most
abbrev Cmp : Ordering → ℕ → ℕ → Type 0
Cmp Ordering.lt a b = a < b
Cmp Ordering.eq a b = a ≡ b
Cmp Ordering.gt a b = b < a

cmp : (a b : ℕ) → Cmp (compare a b) a b
cmp a b = go (compare a b) (leb→le a b) (nleb→lt a b) (eqb→eq a b) (λ (e : a ≡ b). subst (λ (x : ℕ). T (a == x)) e (eqb_refl a))
  where
    go : (o : Ordering) → (T (is_le o) → a ≤ b) → (T (not (is_le o)) → b < a) → (T (compare_is_eq o) → a ≡ b) → (a ≡ b → T (compare_is_eq o)) → Cmp o a b
    go Ordering.lt h k e n = lt_of_le-ne (h tt) n
    go Ordering.eq h k e n = e tt
    go Ordering.gt h k e n = k tt

abbrev Half : ℕ → ℕ → ℕ → Type 0
Half n X u = (n * 2 ≤ X * 2 + u) × (X * 2 ≤ n * 2 + u)

bit : (q : ℕ) → q % 2 ≤ 1
bit q = omega arith

half_lt : (n Q r u : ℕ) → Q + r ≡ n → r * 2 < u → Half n Q u
half_lt n Q r u e h = (omega arith, omega arith)

half_eq : (n Q r u t : ℕ) → Q + r ≡ n → r * 2 ≡ u → t ≤ u → Half n (Q + t) u
half_eq n Q r u t e h k = (omega arith, omega arith)

half_gt : (n Q r u : ℕ) → Q + r ≡ n → r < u → u < r * 2 → Half n (Q + u) u
half_gt n Q r u e l h = (omega arith, omega arith)

suc_mul' : (q u : ℕ) → suc q * u ≡ q * u + u
suc_mul' q u = ap (λ (z : ℕ). z * u) one_more ∙ add-mul q 1 u ∙ ap (λ (z : ℕ). q * u + z) (one-mul u)
  where
    one_more : suc q ≡ q + 1
    one_more = omega arith

half : (n u : ℕ) → 0 < u → Half n (closest n u * u) u
half n u U = go (compare (n % u * 2) u) (cmp (n % u * 2) u)
  where
    split : n / u * u + n % u ≡ n
    split = div-add-mod' n u

    go : (o : Ordering) → Cmp o (n % u * 2) u → Half n (nearest (n / u) o * u) u
    go Ordering.lt h = half_lt n (n / u * u) (n % u) u split h
    go Ordering.eq h =
        subst (λ (z : ℕ). Half n z u) (sym (add-mul (n / u) (n / u % 2) u))
        (half_eq n (n / u * u) (n % u) u (n / u % 2 * u) split h (le_trans (mul-le-mul_right u (bit (n / u))) (le_of_eq (one-mul u))))
    go Ordering.gt h = subst (λ (z : ℕ). Half n z u) (sym (suc_mul' (n / u) u)) (half_gt n (n / u * u) (n % u) u split (mod-lt n U) h)

-- ---- g is n / c, rounded: 2·2^53·|g - n/c| is at most 2·n/c + 2^53
abbrev pub Rounds : ℕ → ℕ → ℕ → Type 0
Rounds g n c =
    (18014398509481984 * (g * c) ≤ 18014398509481984 * n + 2 * n + 9007199254740992 * c) × (18014398509481984 * n ≤ 18014398509481984 * (g * c) + 2 * n + 9007199254740992 * c)

-- the unit u is c itself, or at most 2 ^ -52 of n
few : (n X c u : ℕ) → Half n X u → u ≡ c → (18014398509481984 * X ≤ 18014398509481984 * n + 2 * n + 9007199254740992 * c) × (18014398509481984 * n ≤ 18014398509481984 * X + 2 * n + 9007199254740992 * c)
few n X c u h e = (omega arith, omega arith)

many : (n X c u : ℕ) → Half n X u → 4503599627370496 * u ≤ n → (18014398509481984 * X ≤ 18014398509481984 * n + 2 * n + 9007199254740992 * c) × (18014398509481984 * n ≤ 18014398509481984 * X + 2 * n + 9007199254740992 * c)
many n X c u h e = (omega arith, omega arith)

keeps : (z : ℕ) → 53 ≤ z → 52 + (z - 53) < z
keeps z h = omega arith

none : (z : ℕ) → z ≤ 53 → z - 53 ≡ 0
none z h = omega arith

pub law : (n c : ℕ) → 0 < c → Rounds (kept 53 n c * 2 ^ drop 53 n c) n c
law n c C =
    let k : ℕ = drop 53 n c in
    let u : ℕ = c * 2 ^ k in
    let q : ℕ = kept 53 n c in
    let P : 0 < u = mul-pos C (pow_pos k) in
    let X : q * 2 ^ k * c ≡ q * u = mul_assoc q (2 ^ k) c ∙ ap (λ (z : ℕ). q * z) (mul_comm (2 ^ k) c) in
    let h : Half n (q * 2 ^ k * c) u = subst (λ (z : ℕ). Half n z u) (sym X) (half n u P) in
    ⊎_elim
    (λ s. few n (q * 2 ^ k * c) c u h (ap (λ (z : ℕ). c * 2 ^ z) (none (size (n / c)) s) ∙ mul-one c))
    (λ s. many n (q * 2 ^ k * c) c u h (le_trans (le_of_eq (ap (λ (z : ℕ). 2 ^ 52 * z) (mul_comm c (2 ^ k)) ∙ sym (mul_assoc (2 ^ 52) (2 ^ k) c) ∙ ap (λ (z : ℕ). z * c) (sym (pow-add 2 52 k)))) ((le-div_iff_mul-le C).0 (size_reaches (n / c) (52 + k) (keeps (size (n / c)) s)))))
    (le_or_le (size (n / c)) 53)
