-- An f64 that is finite and not negative as a whole number of smallest f64s, and the operations on those numbers.
-- Assumes nothing.
use Rattle.std.specs.Prelude.{◌≡◌, ℕ, ◌+◌, ◌*◌, ◌/◌, ◌^◌, ◌<◌, ◌≤◌, false, ◌⊎◌, [], ◌∷◌, refl, Float}
use Rattle.std.proofs.Common.{sym, ap, ◌∙◌, subst, inl, inr, ⊎_elim, le_trans, le_of_eq, mul-one, one-mul, mul_comm, mul_assoc, mul-pos, mul-le-mul, mul-le-mul_right, mul-div_cancel, arith, lit≤, pow_pos}
use Rattle.std.specs.Float.{binary64}
use Rattle.std.specs.Float.Ieee.{round, of_int, add, mul, div}
use Rattle.std.specs.Float.Ieee.Exact.{HasValue}
use Rattle.std.specs.Float.Ieee.Back.{round_whole}
use Rattle.std.specs.Float.Ieee.Scale.{grid, overflow, round_val}
use Rattle.std.specs.Float.Ieee.Positive.{num, den, den_pos, value→cross}
use Rattle.algebra.specs.Reading.{from, from_over, read, ◌⊹◌, ◌⋆◌}
use Rattle.enclosure.specs.laws.RoundedOnce.{add_at, mul_at, div_at}
use Rattle.enclosure.specs.laws.Rounding.{Rounds, law}
use Rattle.enclosure.specs.Exact.{of_nat}

-- how many of the smallest make 1. Shut, so that nothing computes it
unfoldable pub unit : ℕ
unit = 2 ^ 1074

-- no fraction up to this one rounds to an infinity
unfoldable pub most : ℕ
most = 2 ^ 1023

-- the sizes from 1/span to span can be inverted
unfoldable pub span : ℕ
span = 2 ^ 500

-- the sizes from 1/extent to extent have whole bounds
unfoldable pub extent : ℕ
extent = 2 ^ 450

pub unit_pos : 0 < unit
unfolding unit
unit_pos = pow_pos 1074

pub span_pos : 0 < span
unfolding span
span_pos = pow_pos 500

pub span_unit : span * span * 2 ^ 64 ≤ unit
unfolding span unit
span_unit = lit≤ tt

pub span_most : span * span * 2 ^ 20 ≤ most
unfolding span most
span_most = lit≤ tt

pub span_ratio : span * 2 ^ 47 ≤ most
unfolding span most
span_ratio = lit≤ tt

pub span_large : span * 2 ^ 100 ≤ unit
unfolding span unit
span_large = lit≤ tt

pub unit_large : 2 ^ 100 ≤ unit
unfolding unit
unit_large = lit≤ tt

pub extent_range : 2 ^ 200 ≤ extent
unfolding extent
extent_range = lit≤ tt

pub extent_span : extent ≤ span
unfolding extent span
extent_span = lit≤ tt

pub extent_unit : extent * extent * 2 ^ 120 ≤ unit
unfolding extent unit
extent_unit = lit≤ tt

pub extent_most : extent * extent * 2 ^ 60 ≤ most
unfolding extent most
extent_most = lit≤ tt

pub extent_pos : 0 < extent
unfolding extent
extent_pos = pow_pos 450

-- ---- s of the smallest are from 1/E to E; and are 0 or that
abbrev pub Between : ℕ → ℕ → Type 0
Between E s = (unit ≤ s * E) × (s ≤ unit * E)

abbrev pub Sized : ℕ → ℕ → Type 0
Sized E s = (s ≡ 0) ⊎ Between E s

pub between_more : (E F s : ℕ) → E ≤ F → Between E s → Between F s
between_more E F s l h = (
  from (E ∷ F ∷ s ∷ unit ∷ []) (h.0 ⊹ s ⋆ l) (search read depth 40 fits 20000) refl,
  from (E ∷ F ∷ s ∷ unit ∷ []) (h.1 ⊹ unit ⋆ l) (search read depth 40 fits 20000) refl,
)

pub sized_more : (E F s : ℕ) → E ≤ F → Sized E s → Sized F s
sized_more E F s l = ⊎_elim (λ e. inl e) (λ h. inr (between_more E F s l h))

-- x is w of the smallest, and which w
abbrev pub Is : Float → ℕ → Type 0
Is x w = HasValue x false w unit

unfoldable pub units_of : Float → ℕ
units_of x = num x * unit / den x

pub units_is : (x : Float) (w : ℕ) → Is x w → units_of x ≡ w
unfolding units_of
units_is x w h = ap (λ (z : ℕ). z / den x) (value→cross x w unit h) ∙ mul-div_cancel w (den_pos x)

-- x is n / c of the smallest, rounded
pub record Rounded (x : Float) (n c : ℕ) : Type 0 where
  pub is : Is x (units_of x)
  pub law : Rounds (units_of x) n c

under : (M n c g X : ℕ) → 0 < c → 0 < X → n ≤ c * X → 18014398509481984 * (g * c) ≤ 18014398509481984 * n + 2 * n + 9007199254740992 * c → g < 2 * X
under M n c g X C P h r = fin (from_over (n ∷ c ∷ g ∷ X ∷ []) c C (r ⊹ 18014398509481986 ⋆ h) (search read depth 40 fits 20000) refl)
  where
    fin : 18014398509481984 * g ≤ 18014398509481986 * X + 9007199254740992 → g < 2 * X
    fin k = omega arith

below : (a c : ℕ) → 0 < c → a ≤ c * 2 ^ 1023 → grid binary64 a c < overflow binary64
below a c C h =
    le_trans
    (under 0 (a * 2 ^ 1074) c (grid binary64 a c) (2 ^ 1023 * 2 ^ 1074) C (mul-pos (pow_pos 1023) (pow_pos 1074))
    (le_trans (mul-le-mul_right (2 ^ 1074) h) (le_of_eq (mul_assoc c (2 ^ 1023) (2 ^ 1074)))) (law (a * 2 ^ 1074) c C).0)
    (lit≤ tt)

pub rounded : (a c : ℕ) → 0 < c → a ≤ c * most → Rounded (round binary64 false a c) (a * unit) c
unfolding most unit
rounded a c C h =
    let x = round binary64 false a c in
    let v : HasValue x false (grid binary64 a c) (2 ^ 1074) = round_val binary64 a c (below a c C h) in
    let e : units_of x ≡ grid binary64 a c = units_is x (grid binary64 a c) v in
    record { is = subst (λ (z : ℕ). HasValue x false z (2 ^ 1074)) (sym e) v; law = subst (λ (z : ℕ). Rounds z (a * 2 ^ 1074) c) (sym e) (law (a * 2 ^ 1074) c C) }

-- ---- a common factor d is taken away
reduced : (g n c d n' c' : ℕ) → 0 < d → n' ≡ d * n → c' ≡ d * c → Rounds g n' c' → Rounds g n c
reduced g n c d n' c' z p q h = (
  from_over (g ∷ n ∷ c ∷ d ∷ []) d z h'.0 (search read depth 40 fits 20000) refl,
  from_over (g ∷ n ∷ c ∷ d ∷ []) d z h'.1 (search read depth 40 fits 20000) refl,
)
  where
    h' : Rounds g (d * n) (d * c)
    h' = rw (p, q) at h

moved : (x y : Float) (n c d n' c' : ℕ) → x ≡ y → 0 < d → n' ≡ d * n → c' ≡ d * c → Rounded y n' c' → Rounded x n c
moved x y n c d n' c' e z p q h = rw e (record { is = h.is; law = reduced (units_of y) n c d n' c' z p q h.law })

pub add_rounds : (x y : Float) (w v : ℕ) → Is x w → Is y v → w + v ≤ unit * most → Rounded (add binary64 x y) (w + v) 1
add_rounds x y w v h k l =
    moved (add binary64 x y) (round binary64 false (w * unit + v * unit) (unit * unit)) (w + v) 1 (unit * unit) ((w * unit + v * unit) * unit) (unit * unit)
    (add_at binary64 x y w unit v unit unit_pos unit_pos h k) (mul-pos unit_pos unit_pos) (put w v unit) (sym (mul-one (unit * unit)))
    (rounded (w * unit + v * unit) (unit * unit) (mul-pos unit_pos unit_pos) (up w v unit most l))
  where
    put : (w v u : ℕ) → (w * u + v * u) * u ≡ u * u * (w + v)
    put w v u = omega arith

    up : (w v u m : ℕ) → w + v ≤ u * m → w * u + v * u ≤ u * u * m
    up w v u m l = from (w ∷ v ∷ u ∷ m ∷ []) (u ⋆ l) (search read depth 40 fits 20000) refl

pub mul_rounds : (x y : Float) (w v : ℕ) → Is x w → Is y v → w * v ≤ unit * unit * most → Rounded (mul binary64 x y) (w * v) unit
mul_rounds x y w v h k l =
    moved (mul binary64 x y) (round binary64 false (w * v) (unit * unit)) (w * v) unit unit (w * v * unit) (unit * unit)
    (mul_at binary64 x y w unit v unit unit_pos unit_pos h k) unit_pos (mul_comm (w * v) unit) refl
    (rounded (w * v) (unit * unit) (mul-pos unit_pos unit_pos) l)

pub div_rounds : (x y : Float) (w v : ℕ) → Is x w → Is y v → 0 < v → w ≤ v * most → Rounded (div binary64 x y) (w * unit) v
div_rounds x y w v h k z l =
    moved (div binary64 x y) (round binary64 false (w * unit) (v * unit)) (w * unit) v unit (w * unit * unit) (v * unit)
    (div_at binary64 x y w unit v unit unit_pos unit_pos z h k) unit_pos (mul_comm (w * unit) unit) (mul_comm v unit)
    (rounded (w * unit) (v * unit) (mul-pos z unit_pos) (up w v unit most l))
  where
    up : (w v u m : ℕ) → w ≤ v * m → w * u ≤ v * u * m
    up w v u m l = from (w ∷ v ∷ u ∷ m ∷ []) (u ⋆ l) (search read depth 40 fits 20000) refl

pub exact : (n : ℕ) → n ≤ 2 ^ 53 → HasValue (of_nat n) false n 1
unfolding of_int
exact n h = round_whole binary64 false n h

squares_most : 2 ^ 53 * 2 ^ 53 ≤ 1 * 1 * most
unfolding most
squares_most = lit≤ tt

whole_most : (p q : ℕ) → p ≤ 2 ^ 53 → 0 < q → p ≤ q * most
whole_most p q l z = from (p ∷ q ∷ most ∷ []) (l ⊹ squares_most ⊹ most ⋆ z) (search read depth 40 fits 20000) refl

pub ratio_rounds : (p q : ℕ) → p ≤ 2 ^ 53 → q ≤ 2 ^ 53 → 0 < q → Rounded (div binary64 (of_nat p) (of_nat q)) (p * unit) q
ratio_rounds p q lp lq z =
    moved (div binary64 (of_nat p) (of_nat q)) (round binary64 false (p * 1) (q * 1)) (p * unit) q 1 (p * 1 * unit) (q * 1)
    (div_at binary64 (of_nat p) (of_nat q) p 1 q 1 (pow_pos 0) (pow_pos 0) z (exact p lp) (exact q lq)) (pow_pos 0) (ap (λ (z : ℕ). z * unit) (mul-one p) ∙ sym (one-mul (p * unit))) (mul_comm q 1)
    (rounded (p * 1) (q * 1) (mul-pos z (pow_pos 0)) (rw (mul-one p, mul-one q) (whole_most p q lp z)))

-- the square of a whole number
pub square_rounds : (n : ℕ) → n ≤ 2 ^ 53 → Rounded (mul binary64 (of_nat n) (of_nat n)) (n * n * unit) 1
square_rounds n l =
    moved (mul binary64 (of_nat n) (of_nat n)) (round binary64 false (n * n) (1 * 1)) (n * n * unit) 1 1 (n * n * unit) (1 * 1)
    (mul_at binary64 (of_nat n) (of_nat n) n 1 n 1 (pow_pos 0) (pow_pos 0) (exact n l) (exact n l)) (pow_pos 0) (sym (one-mul (n * n * unit))) refl
    (rounded (n * n) (1 * 1) (pow_pos 0) (le_trans (mul-le-mul l l) squares_most))

-- ---- 2 ^ -20
unfoldable pub sliver : ℕ
sliver = 2 ^ 1054

pub sliver_unit : unit ≡ 1048576 * sliver
unfolding sliver unit
sliver_unit = refl
