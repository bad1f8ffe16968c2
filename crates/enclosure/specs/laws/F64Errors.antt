-- Each operation of f64 is near the exact one on the same numbers: within 2, 6 and 4 parts in 2 ^ 53 of the size re + im.
-- Assumes nothing.
use Rattle.std.specs.Prelude.{◌≡◌, ℕ, zero, suc, ◌+◌, ◌*◌, ◌^◌, ◌<◌, ◌≤◌, Bool, true, false, ◌&&◌, ◌⊎◌, [], ◌∷◌, ◌==◌, refl, Float}
use Rattle.std.proofs.Common.{sym, ap₂, ◌∙◌, true≢false, inl, inr, arith, le_trans, mul-le-mul, pow_pos, lit≤, eq-eqb, ne_eqb}
use Rattle.std.proofs.Math.Nat.{mul-pos}
use Rattle.std.specs.Float.{nan, inf, fin, binary64}
use Rattle.std.specs.Float.Ieee.{of_bits, add, mul, div, eq, up, down}
use Rattle.std.specs.Float.Ieee.Fits.{down_pos}
use Rattle.algebra.specs.Polynomial.{two_sq}
use Rattle.algebra.specs.Reading.{from, from_over, read, ◌⊹◌, ◌⋆◌}
use Rattle.enclosure.specs.laws.Close.{Close, Within, close_round}
use Rattle.enclosure.specs.Exact.{norm, Point, is_nothing, sum, times, turned, inverse}
use Rattle.enclosure.specs.laws.Nearness.{Near}
use Rattle.enclosure.specs.declared.Complex.{Complex}
use Rattle.enclosure.specs.laws.Rounding.{Rounds}
use Rattle.enclosure.specs.laws.Units.{unit, most, span, Sized, unit_pos, unit_large, span_pos, span_unit, span_most, span_ratio, span_large, Is, units_of, Rounded, add_rounds, mul_rounds, div_rounds, ratio_rounds}
use Rattle.enclosure.specs.laws.StepErrors.{parts, sum_step, square_step, inverse_step, scale_step}
use Rattle.enclosure.specs.Doubles.{nought, added, empty, square, inverted, ratio, scaled}

-- ---- what an f64 point stands for
abbrev pub value : Complex → Point
value z = record { re = units_of z.re; im = units_of z.im; den = unit }

abbrev pub size : Complex → ℕ
size z = units_of z.re + units_of z.im

-- both parts are finite and not negative
pub record Fine (z : Complex) : Type 0 where
  pub re : Is z.re (units_of z.re)
  pub im : Is z.im (units_of z.im)

-- ---- the sizes, over plain numbers: L smallest make 1, e is the span or the extent, m the most
pub norm_large : (A B L e s t : ℕ) → 0 < e → 2 * t ≤ s → e * e * s ≤ L → L ≤ (A + B) * e → t * L ≤ norm A B
norm_large A B L e s t e₀ l eL lo =
    from_over (A ∷ B ∷ L ∷ e ∷ s ∷ t ∷ []) (2 * (e * e)) (mul-pos (omega arith) (mul-pos e₀ e₀)) (e * e * L ⋆ l ⊹ L ⋆ eL ⊹ mul-le-mul lo lo ⊹ e * e ⋆ two_sq A B) (search read depth 40 fits 20000) refl

module _ (L e m : ℕ) (L₀ : 0 < L) (e₀ : 0 < e) (eL : e * e * 2 ^ 64 ≤ L) (em : e * e * 2 ^ 20 ≤ m) where
  pub least : (s : ℕ) → L ≤ s * e → 2 ^ 60 ≤ s
  least s k = from_over (s ∷ L ∷ e ∷ []) e e₀ (k ⊹ eL ⊹ 2 ^ 64 * e ⋆ e₀) (search read depth 40 fits 20000) refl

  pub fits_sum : (s : ℕ) → s ≤ L * e → s ≤ L * m
  fits_sum s h = from (s ∷ L ∷ m ∷ e ∷ []) (h ⊹ L ⋆ em ⊹ L * e * 2 ^ 20 ⋆ e₀) (search read depth 40 fits 20000) refl

  module _ (A B : ℕ) (lo : L ≤ (A + B) * e) (hi : A + B ≤ L * e) where
    pub fits_square : (a : ℕ) → a ≤ A + B → a * a ≤ L * L * m
    fits_square a h = from (a ∷ L ∷ e ∷ m ∷ []) (mul-le-mul h' h' ⊹ L * L ⋆ em) (search read depth 40 fits 20000) refl
      where
        h' : a ≤ L * e
        h' = le_trans h hi

    pub fits_squares : (p q : ℕ) → Rounds p (A * A) L → Rounds q (B * B) L → p + q ≤ L * m
    fits_squares p q hp hq =
        from_over (A ∷ B ∷ L ∷ e ∷ m ∷ p ∷ q ∷ []) (18014398509481984 * L) (mul-pos (omega arith) L₀)
        (hp.0 ⊹ hq.0 ⊹ 18014398509481986 ⋆ mul-le-mul hi hi ⊹ 18014398509481984 * (L * L) ⋆ em ⊹ 18014398509481984 * L ⋆ mul-pos L₀ (mul-pos e₀ e₀))
        (search read depth 40 fits 20000) refl

    pub fits_quotient : (n : ℕ) → Within parts 3 0 (norm A B) (n * L) → A + B ≤ n * m
    fits_quotient n h =
        from_over (A ∷ B ∷ L ∷ e ∷ m ∷ n ∷ []) (9007199254740992 * L) (mul-pos (omega arith) L₀)
        (9007199254740992 * (A + B) ⋆ lo ⊹ 9007199254740992 * e ⋆ two_sq A B ⊹ 4 * e ⋆ h.1 ⊹ 9007199254740992 * n * L ⋆ em ⊹ 36028797018963968 * n * L * e ⋆ e₀)
        (search read depth 40 fits 20000) refl

    pub little : 2 * (parts * norm A B) ≤ A * L * L + B * L * L
    little = from (A ∷ B ∷ L ∷ e ∷ []) (18014398509481984 * (A + B) ⋆ hi ⊹ (A + B) * L ⋆ eL ⊹ (A + B) * L * e * 18014398509481984 ⋆ e₀) (search read depth 40 fits 20000) refl

square_pos : (N L n : ℕ) → 0 < L → 2 ^ 60 * L ≤ N → Within parts 3 0 N (n * L) → 0 < n
square_pos N L zero z l h = absurd (omega (arith, h.1))
square_pos N L (suc n) z l h = omega arith

-- ---- THE SUM
rounds_zero : (g n u : ℕ) → 0 < u → n ≡ 0 → Rounds g n u → g ≡ 0
rounds_zero zero n u z e h = refl
rounds_zero (suc g) n u z e h = absurd (omega (arith, h.0))

sum_close : (n m a b : ℕ) → Rounds a n 1 → Rounds b m 1 → (n + m ≡ 0) ⊎ (2 ^ 60 ≤ n + m) → Close parts 2 n m a b
sum_close n m a b h k (inl e) =
    let p : n ≡ 0 = omega arith in
    let q : m ≡ 0 = omega arith in
    rw (rounds_zero a n 1 (pow_pos 0) p h, rounds_zero b m 1 (pow_pos 0) q k, p, q) (omega arith)
sum_close n m a b h k (inr l) = close_round parts 1 parts n m a b (omega arith) (sum_step n a h) (sum_step m b k)

spread : (A A' B B' a b u : ℕ) → Close parts 2 (A + A') (B + B') a b → Close parts 2 ((A * u + A' * u) * u) ((B * u + B' * u) * u) (a * (u * u)) (b * (u * u))
spread A A' B B' a b u h = from (A ∷ A' ∷ B ∷ B' ∷ a ∷ b ∷ u ∷ []) (u * u * (u * u) ⋆ h) (search read depth 40 fits 20000) refl

some : (s : ℕ) → Sized span s → (s ≡ 0) ⊎ (2 ^ 60 ≤ s)
some s (inl e) = inl e
some s (inr h) = inr (least unit span most unit_pos span_pos span_unit span_most s h.0)

pub fits : (s : ℕ) → Sized span s → s ≤ unit * most
fits s (inl e) = omega arith
fits s (inr h) = fits_sum unit span most unit_pos span_pos span_unit span_most s h.1

pub fair_add : (x y : Complex) → Fine x → Fine y → Sized span (size x + size y) → Near parts 2 (sum (value x) (value y)) (value (added x y)) × Fine (added x y)
unfolding added
fair_add x y f g s = (record { left = mul-pos unit_pos unit_pos; right = unit_pos; close = close }, record { re = rr.is; im = ri.is })
  where
    l : size x + size y ≤ unit * most
    l = fits (size x + size y) s

    rr : Rounded (add binary64 x.re y.re) (units_of x.re + units_of y.re) 1
    rr = add_rounds x.re y.re (units_of x.re) (units_of y.re) f.re g.re (le_trans (omega arith) l)

    ri : Rounded (add binary64 x.im y.im) (units_of x.im + units_of y.im) 1
    ri = add_rounds x.im y.im (units_of x.im) (units_of y.im) f.im g.im (le_trans (omega arith) l)

    four : (a b c d : ℕ) → (a + b + (c + d) ≡ 0) ⊎ (2 ^ 60 ≤ a + b + (c + d)) → (a + c + (b + d) ≡ 0) ⊎ (2 ^ 60 ≤ a + c + (b + d))
    four a b c d (inl e) = inl (omega arith)
    four a b c d (inr e) = inr (omega arith)

    close : Close parts 2 ((units_of x.re * unit + units_of y.re * unit) * unit) ((units_of x.im * unit + units_of y.im * unit) * unit) (units_of (add binary64 x.re y.re) * (unit * unit)) (units_of (add binary64 x.im y.im) * (unit * unit))
    close =
        spread (units_of x.re) (units_of y.re) (units_of x.im) (units_of y.im) _ _ unit
        (sum_close _ _ _ _ rr.law ri.law (four (units_of x.re) (units_of x.im) (units_of y.re) (units_of y.im) (some (size x + size y) s)))

-- ---- nothing
zero_is : (a u w d : ℕ) → 0 < u → 0 < d → a * u ≡ w * d → (a * 1 == 0 * 1 * d) ≡ (w == 0)
zero_is zero u (suc w) zero U D h = elim D [ ]
zero_is a u zero d U D h = eq-eqb (a * 1) (0 * 1 * d) (zeroed a u U (omega arith))
  where
    zeroed : (a u : ℕ) → 0 < u → a * u ≡ 0 → a * 1 ≡ 0 * 1 * d
    zeroed (suc a) zero U h = elim U [ ]
    zeroed zero u U h = omega arith
    zeroed (suc a) (suc u) U h = absurd (omega arith)
zero_is zero u (suc w) (suc d) U D h = absurd (omega arith)
zero_is (suc a) u (suc w) d U D h = ne_eqb (suc a * 1) (0 * 1 * d) (λ e. omega arith) ∙ sym (ne_eqb (suc w) 0 (λ e. omega arith))

and_true : (b : Bool) → (b && true) ≡ b
and_true true = refl
and_true false = refl

pub zero_eq : (x : Float) (w : ℕ) → Is x w → eq x nought ≡ (w == 0)
unfolding eq of_bits
zero_eq nan w h = absurd h
zero_eq (inf s) w h = absurd h
zero_eq (fin true m e) w h = absurd (true≢false h.0)
zero_eq (fin false m e) w h = and_true _ ∙ zero_is (m * up e) unit w (down e) unit_pos (down_pos e) h.1

-- ---- THE INVERSE
module _ (z : Complex) (f : Fine z) (lo : unit ≤ size z * span) (hi : size z ≤ unit * span) where
  -- x is the real part or the imaginary one
  part_squared : (x : Float) → Is x (units_of x) → units_of x ≤ size z → Rounded (mul binary64 x x) (units_of x * units_of x) unit
  part_squared x i l = mul_rounds x x _ _ i i (fits_square unit span most unit_pos span_pos span_unit span_most (units_of z.re) (units_of z.im) lo hi (units_of x) l)

  pub sq : Rounded (square z) (units_of (mul binary64 z.re z.re) + units_of (mul binary64 z.im z.im)) 1
  sq =
      let r = part_squared z.re f.re (omega arith) in
      let i = part_squared z.im f.im (omega arith) in
      add_rounds _ _ _ _ r.is i.is (fits_squares unit span most unit_pos span_pos span_unit span_most (units_of z.re) (units_of z.im) lo hi _ _ r.law i.law)

  pub big : 2 ^ 60 * unit ≤ norm (units_of z.re) (units_of z.im)
  big = norm_large (units_of z.re) (units_of z.im) unit span (2 ^ 64) (2 ^ 60) span_pos (lit≤ tt) span_unit lo

  pub near_square : Within parts 3 0 (norm (units_of z.re) (units_of z.im)) (units_of (square z) * unit)
  near_square = square_step (units_of z.re) (units_of z.im) unit _ _ (units_of (square z)) big (part_squared z.re f.re (omega arith)).law (part_squared z.im f.im (omega arith)).law sq.law

  above : 0 < units_of (square z)
  above = square_pos _ unit (units_of (square z)) unit_pos big near_square

  most_part : size z ≤ units_of (square z) * most
  most_part = fits_quotient unit span most unit_pos span_pos span_unit span_most (units_of z.re) (units_of z.im) lo hi (units_of (square z)) near_square

  part_inverted : (x : Float) → Is x (units_of x) → units_of x ≤ size z → Rounded (div binary64 x (square z)) (units_of x * unit) (units_of (square z))
  part_inverted x i l = div_rounds x (square z) _ _ i sq.is above (le_trans l most_part)

  near_inverse : Near parts 6 (turned (value z)) (value (record { re = div binary64 z.re (square z); im = div binary64 z.im (square z) }))
  near_inverse = record {
    left = le_trans (mul-pos (pow_pos 60) unit_pos) big;
    right = unit_pos;
    close =
        close_round parts 5 (parts * norm (units_of z.re) (units_of z.im)) _ _ _ _
        (little unit span most unit_pos span_pos span_unit span_most (units_of z.re) (units_of z.im) lo hi)
        (inverse_step (units_of z.re) unit (units_of (square z)) _ _ near_square (part_inverted z.re f.re (omega arith)).law)
        (inverse_step (units_of z.im) unit (units_of (square z)) _ _ near_square (part_inverted z.im f.im (omega arith)).law);
  }

times_zero : (a b : ℕ) → a ≡ 0 → a * b ≡ 0
times_zero a b e = rw e (omega arith)

zero_le_of : (n m : ℕ) → n ≡ 0 → n ≤ m
zero_le_of n m e = omega arith

module _ (z : Complex) (f : Fine z) (e : size z ≡ 0) where
  no_re : units_of z.re ≡ 0
  no_re = omega arith

  no_im : units_of z.im ≡ 0
  no_im = omega arith

  none_squared : (x : Float) → Is x (units_of x) → units_of x ≡ 0 → Is (mul binary64 x x) (units_of (mul binary64 x x)) × (units_of (mul binary64 x x) ≡ 0)
  none_squared x i n = let r = mul_rounds x x _ _ i i (zero_le_of _ _ (times_zero _ _ n)) in (r.is, rounds_zero _ _ unit unit_pos (times_zero _ _ n) r.law)

  none_sum : units_of (mul binary64 z.re z.re) + units_of (mul binary64 z.im z.im) ≡ 0
  none_sum = ap₂ ◌+◌ (none_squared z.re f.re no_re).1 (none_squared z.im f.im no_im).1

  ns : Rounded (square z) (units_of (mul binary64 z.re z.re) + units_of (mul binary64 z.im z.im)) 1
  ns = add_rounds _ _ _ _ (none_squared z.re f.re no_re).0 (none_squared z.im f.im no_im).0 (zero_le_of _ _ none_sum)

  no_square : eq (square z) nought ≡ true
  no_square = zero_eq (square z) _ ns.is ∙ eq-eqb _ 0 (rounds_zero _ _ 1 (pow_pos 0) none_sum ns.law)

pub some_size : (s u e : ℕ) → 0 < u → u ≤ s * e → 0 < s
some_size zero u e z h = absurd (omega arith)
some_size (suc s) u e z h = omega arith

pub fair_inverse : (z : Complex) → Fine z → Sized span (size z) → Near parts 6 (inverse (value z)) (value (inverted z)) × Fine (inverted z)
unfolding inverted inverse
fair_inverse z f (inl e) =
    rw (eq-eqb (size z) 0 e, no_square z f e)
    (record { left = omega arith; right = unit_pos; close = rw (no_re z f e, no_im z f e) (omega arith) }, f)
fair_inverse z f (inr h) =
    rw (ne_eqb (size z) 0 (λ q. omega (arith, some_size (size z) unit span unit_pos h.0)), zero_eq (square z) _ (sq z f h.0 h.1).is ∙ ne_eqb (units_of (square z)) 0 (λ q. omega (arith, above z f h.0 h.1)))
    (near_inverse z f h.0 h.1, record { re = (part_inverted z f h.0 h.1 z.re f.re (omega arith)).is; im = (part_inverted z f h.0 h.1 z.im f.im (omega arith)).is })

pub fair_empty : (z : Complex) → Fine z → Sized span (size z) → empty z ≡ is_nothing (value z)
unfolding empty
fair_empty z f s = zero_eq _ _ t.is ∙ same (size z) _ t.law (some (size z) s)
  where
    t : Rounded (add binary64 z.re z.im) (size z) 1
    t = add_rounds z.re z.im _ _ f.re f.im (fits (size z) s)

    same : (n g : ℕ) → Rounds g n 1 → (n ≡ 0) ⊎ (2 ^ 60 ≤ n) → (g == 0) ≡ (n == 0)
    same n g h (inl e) = eq-eqb g 0 (rounds_zero g n 1 (pow_pos 0) e h) ∙ sym (eq-eqb n 0 e)
    same n g h (inr e) = ne_eqb g 0 (λ q. omega (arith, h.1)) ∙ sym (ne_eqb n 0 (λ q. omega arith))

-- ---- THE SCALING
far : (s u e : ℕ) → 0 < e → e * 2 ^ 100 ≤ u → u ≤ s * e → 2 ^ 100 ≤ s
far s u e z h k = from_over (s ∷ u ∷ e ∷ []) e z (h ⊹ k) (search read depth 40 fits 20000) refl

-- T is p/q
pub ratio_most : (b p q L T : ℕ) → 0 < q → 0 < L → p ≤ b → q ≤ b → Rounds T (p * L) q → T ≤ 2 * b * L
ratio_most b p q L T z l hp hq h =
    from_over (b ∷ p ∷ q ∷ L ∷ T ∷ []) 18014398509481984 (omega arith) (h.0 ⊹ 18014398509481984 * T ⋆ z ⊹ 18014398509481986 * L ⋆ hp ⊹ 9007199254740992 ⋆ hq ⊹ 9007199254740992 * b ⋆ l) (search read depth 40 fits 20000) refl

fits_product : (A T s L e m : ℕ) → A ≤ s → s ≤ L * e → T ≤ 2 * 2 ^ 46 * L → e * 2 ^ 47 ≤ m → A * T ≤ L * L * m
fits_product A T s L e m a h t k = from (A ∷ T ∷ L ∷ e ∷ m ∷ []) (mul-le-mul (le_trans a h) t ⊹ L * L ⋆ k) (search read depth 40 fits 20000) refl

pub ratio_large : (p q : ℕ) → 0 < p → q ≤ 2 ^ 46 → parts * q ≤ p * unit
ratio_large p q z h = from (p ∷ q ∷ unit ∷ []) (parts ⋆ h ⊹ unit_large ⊹ unit ⋆ z) (search read depth 40 fits 20000) refl

light : (A B L p q : ℕ) → 2 ^ 100 ≤ A + B → 0 < p → q < 2 ^ 46 → 2 * (parts * (L * q)) ≤ A * p * L + B * p * L
light A B L p q h z k = from (A ∷ B ∷ L ∷ p ∷ q ∷ []) (L * 18014398509481984 ⋆ k ⊹ L * 2 ^ 100 ⋆ z ⊹ L * p ⋆ h) (search read depth 40 fits 20000) refl

module _ (z : Complex) (f : Fine z) (p q : ℕ) (p₀ : 0 < p) (q₀ : 0 < q) (p₁ : p < 2 ^ 46) (q₁ : q < 2 ^ 46) where
  by : Rounded (ratio p q) (p * unit) q
  by = ratio_rounds p q (omega arith) (omega arith) q₀

  top : (A : ℕ) → A ≤ size z → Sized span (size z) → A * units_of (ratio p q) ≤ unit * unit * most
  top A l (inl e) = zero_le_of _ _ (times_zero A _ (omega arith))
  top A l (inr h) = fits_product A (units_of (ratio p q)) (size z) unit span most l h.1 (ratio_most (2 ^ 46) p q unit _ q₀ unit_pos (omega arith) (omega arith) by.law) span_ratio

  part_scaled : Sized span (size z) → (x : Float) → Is x (units_of x) → units_of x ≤ size z → Rounded (mul binary64 x (ratio p q)) (units_of x * units_of (ratio p q)) unit
  part_scaled s x i l = mul_rounds x (ratio p q) _ _ i by.is (top (units_of x) l s)

  near_parts : (s : Sized span (size z)) → Close parts 4 (units_of z.re * p * unit) (units_of z.im * p * unit) (units_of (mul binary64 z.re (ratio p q)) * (unit * q)) (units_of (mul binary64 z.im (ratio p q)) * (unit * q))
  near_parts (inl e) =
      rw (
        rounds_zero _ _ unit unit_pos (times_zero _ _ (no_re z f e)) (part_scaled (inl e) z.re f.re (omega arith)).law,
        rounds_zero _ _ unit unit_pos (times_zero _ _ (no_im z f e)) (part_scaled (inl e) z.im f.im (omega arith)).law,
        no_re z f e,
        no_im z f e,
      ) (omega arith)
  near_parts (inr h) =
      close_round parts 3 (parts * (unit * q)) _ _ _ _
      (light (units_of z.re) (units_of z.im) unit p q (far (size z) unit span span_pos span_large h.0) p₀ q₁)
      (scale_step (units_of z.re) unit p q (units_of (ratio p q)) _ (ratio_large p q p₀ (omega arith)) by.law (part_scaled (inr h) z.re f.re (omega arith)).law)
      (scale_step (units_of z.im) unit p q (units_of (ratio p q)) _ (ratio_large p q p₀ (omega arith)) by.law (part_scaled (inr h) z.im f.im (omega arith)).law)

  pub fair_scale : Sized span (size z) → Near parts 4 (times p q (value z)) (value (scaled p q z)) × Fine (scaled p q z)
  unfolding scaled
  fair_scale s = (record { left = mul-pos unit_pos q₀; right = unit_pos; close = near_parts s }, record { re = (part_scaled s z.re f.re (omega arith)).is; im = (part_scaled s z.im f.im (omega arith)).is })
