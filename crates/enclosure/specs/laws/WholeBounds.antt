-- Whole bounds of √(p/q)·|P|, by squares, from an f64 point near P: they hold the exact size, and they are narrow.
-- Document 01: "a bound n is at most I exactly when 3·n²·(R² + X²) ≤ (c·Un)²". Assumes nothing.
use Rattle.std.specs.Prelude.{◌≡◌, ℕ, ◌+◌, ◌-◌, ◌*◌, ◌^◌, ◌<◌, ◌≤◌, Bool, true, false, ◌&&◌, ◌||◌, T, ◌⊎◌, [], ◌∷◌, ◌==◌, nat_lt, Float}
use Rattle.std.proofs.Math.Path.{refl}
use Rattle.std.proofs.Common.{sym, ◌∙◌, true≢false, inl, inr, ⊎_elim, arith, le_refl, le_trans, le_of_lt, le_of_eq, mul-add, mul-le-mul, mul-pos, lt_of_not-le, le_of_mul-le-mul_right, lit<, lit≤, le→leb, ltb→lt, eqb→eq, eqb-true, eq-eqb, ne_eqb}
use Rattle.std.proofs.Math.Nat.{le_dest}
use Rattle.std.specs.Float.{nan, inf, fin}
use Rattle.std.specs.Float.Ieee.{up, down, binary64, mul, le}
use Rattle.std.specs.Float.Ieee.Fits.{down_pos, and_l}
use Rattle.std.specs.Float.Ieee.Order.{le_of_values, transfer}
use Rattle.algebra.specs.Polynomial.{le_or_le}
use Rattle.algebra.specs.Reading.{from, from_over, read, ◌⊹◌, ◌⋆◌}
use Rattle.enclosure.specs.laws.Close.{Within, size_low, size_high}
use Rattle.enclosure.specs.Exact.{norm, Point}
use Rattle.enclosure.specs.laws.Root.{below_of_squares}
use Rattle.enclosure.specs.laws.Nearness.{Near, near_nothing}
use Rattle.enclosure.specs.declared.Complex.{Complex}
use Rattle.enclosure.specs.laws.Rounding.{Rounds}
use Rattle.enclosure.specs.laws.Units.{unit, unit_pos, most, span, extent, Between, Sized, between_more, extent_span, extent_unit, extent_most, extent_pos, Is, units_of, Rounded, mul_rounds, ratio_rounds, square_rounds}
use Rattle.enclosure.specs.laws.StepErrors.{parts}
use Rattle.enclosure.specs.Doubles.{square, squared, ratio, empty, root_below, size_below, lower_of, upper_of}
use Rattle.enclosure.specs.laws.Climb.{Top, climb_top}
use Rattle.enclosure.specs.laws.F64Errors.{value, size, Fine, norm_large, near_square, sq, some_size, fair_empty, ratio_most, ratio_large}

-- ---- the order of f64 is that of the whole numbers
truth : {b : Bool} → b ≡ true → T b
truth e = rw e tt

or_split : (a b : Bool) → T (a || b) → T a ⊎ T b
or_split true b t = inl tt
or_split false b t = inr t

lt_or_eq : (a b : ℕ) → T (nat_lt a b || (a == b && true)) → a ≤ b
lt_or_eq a b t = ⊎_elim (λ u. le_of_lt (ltb→lt a b u)) (λ u. le_of_eq (eqb→eq a b (and_l (a == b) true u))) (or_split (nat_lt a b) (a == b && true) t)

pub le_units : (x y : Float) (w v : ℕ) → Is x w → Is y v → le x y ≡ true → w ≤ v
unfolding le
le_units nan y w v h k t = absurd h
le_units (inf s) y w v h k t = absurd h
le_units (fin true m e) y w v h k t = absurd (true≢false h.0)
le_units (fin false m e) nan w v h k t = absurd k
le_units (fin false m e) (inf s) w v h k t = absurd k
le_units (fin false m e) (fin true n d) w v h k t = absurd (true≢false k.0)
le_units (fin false m e) (fin false n d) w v h k t =
    le_of_mul-le-mul_right (transfer w v unit unit (m * up e) (n * up d) (down e) (down d) (down_pos e) (down_pos d) (sym h.1) (sym k.1) (lt_or_eq (m * up e * down d) (n * up d * down e) (truth t))) unit_pos

pub nle_units : (x y : Float) (w v : ℕ) → Is x w → Is y v → le x y ≡ false → v < w
nle_units x y w v h k e = lt_of_not-le (λ (l : w ≤ v). rw e at (le_of_values x y w unit v unit unit_pos unit_pos h k (mul-le-mul l (le_refl unit))))

-- ---- one test of a root, over plain numbers: L smallest make 1; N is |z|², n its f64, T that of p/q, m that of p/q·|z|², g that of r²
module _ (r L g m n T N p q : ℕ) (hg : Rounds g (r * r * L) 1) (hm : Rounds m (n * T) L) (ht : Rounds T (p * L) q) (hn : Within parts 3 0 N (n * L))
    (big : parts * (L * q) ≤ p * N) (fine : parts * q ≤ p * L) where
  under : g ≤ m → parts * (q * (r * r * (L * L))) ≤ parts * (p * N) + 8 * (p * N)
  under h =
      from_over (r ∷ L ∷ g ∷ m ∷ n ∷ T ∷ N ∷ p ∷ q ∷ []) (18014398509481984 * 18014398509481982) (omega arith)
      (9007199254740992 * 18014398509481984 * L * q ⋆ hg.1
      ⊹ 9007199254740992 * 18014398509481984 * 18014398509481984 * L * q ⋆ h
      ⊹ 9007199254740992 * 18014398509481984 * q ⋆ hm.0
      ⊹ 9007199254740992 * 18014398509481986 * n ⋆ ht.0
      ⊹ 9007199254740992 * 18014398509481986 * n ⋆ fine
      ⊹ 18014398509481986 * 18014398509481987 * p ⋆ hn.0
      ⊹ 18014398509481984 * 18014398509481984 ⋆ big) (search read depth 40 fits 20000) refl

  over : m ≤ g → parts * (p * N) ≤ parts * (q * (r * r * (L * L))) + 8 * (p * N)
  over h =
      from_over (r ∷ L ∷ g ∷ m ∷ n ∷ T ∷ N ∷ p ∷ q ∷ []) (18014398509481984 * 18014398509481986) (omega arith)
      (9007199254740992 * 18014398509481984 * L * q ⋆ hg.0
      ⊹ 9007199254740992 * 18014398509481984 * 18014398509481984 * L * q ⋆ h
      ⊹ 9007199254740992 * 18014398509481984 * q ⋆ hm.1
      ⊹ 9007199254740992 * 18014398509481982 * n ⋆ ht.1
      ⊹ 9007199254740992 * 18014398509481982 * n ⋆ fine
      ⊹ 18014398509481982 * 18014398509481981 * p ⋆ hn.1
      ⊹ 18014398509481984 * 18014398509481984 ⋆ big) (search read depth 40 fits 20000) refl

-- ---- sizes over plain numbers: e is the extent
norm_most : (A B L e : ℕ) → A + B ≤ L * e → norm A B ≤ L * L * (e * e)
norm_most A B L e hi = from (A ∷ B ∷ L ∷ e ∷ []) (mul-le-mul hi hi) (search read depth 40 fits 20000) refl

scaled_large : (p q L N : ℕ) → 0 < p → q ≤ 2 ^ 46 → 2 ^ 119 * L ≤ N → parts * (L * q) ≤ p * N
scaled_large p q L N z h k = from (p ∷ q ∷ L ∷ N ∷ []) (parts * L ⋆ h ⊹ k ⊹ N ⋆ z) (search read depth 40 fits 20000) refl

product_fits : (n T N L e m : ℕ) → 0 < L → parts * (n * L) ≤ parts * N + 3 * N + 0 → N ≤ L * L * (e * e) → T ≤ 2 * 2 ^ 48 * L → e * e * 2 ^ 60 ≤ m → n * T ≤ L * L * m
product_fits n T N L e m z hn hN hT k =
    from_over (n ∷ T ∷ N ∷ L ∷ e ∷ m ∷ []) parts (omega arith) (parts * n ⋆ hT ⊹ 2 ^ 49 ⋆ hn ⊹ 2 ^ 49 * 9007199254740995 ⋆ hN ⊹ parts * (L * L) ⋆ k) (search read depth 40 fits 20000) refl

-- the square of 2 ^ 53 is too large
no_more : (p q L N c : ℕ) → 0 < q → 0 < L → c ≤ 1073741825 → p * N ≤ q * (2 ^ 105 * (L * L)) → parts * (q * 1073741824 * (2 ^ 53 * 2 ^ 53 * (L * L))) ≤ parts * (p * c * N) + 8 * (p * c * N) → ⊥
no_more p q L N c zq zl hc room h =
    absurd (le→leb 1 0 (from (p ∷ q ∷ L ∷ N ∷ c ∷ []) (h ⊹ 9007199254741000 * p * N ⋆ hc ⊹ 9007199254741000 * 1073741825 ⋆ room ⊹ 2 ^ 180 ⋆ mul-pos zq (mul-pos zl zl)) (search read depth 40 fits 20000) refl))

-- what is known of P, in the units of z
carried : (p q A B D L a b : ℕ) → 0 < D → 4294967296 * 4294967296 * norm (a * D) (b * D) ≤ 4294967297 * 4294967297 * norm (A * L) (B * L) → p * norm A B ≤ q * (2 ^ 104 * (D * D)) → p * norm a b ≤ q * (2 ^ 105 * (L * L))
carried p q A B D L a b z h k =
    from_over (p ∷ q ∷ A ∷ B ∷ D ∷ L ∷ a ∷ b ∷ []) (4294967296 * 4294967296 * (D * D)) (mul-pos (omega arith) (mul-pos z z)) (p ⋆ h ⊹ 4294967297 * 4294967297 * (L * L) ⋆ k) (search read depth 40 fits 20000) refl

-- ---- from the roots' tests to P: the margin is wider than all roundings together
low_end : (p q A B D L a b r : ℕ) → 0 < L → parts * (q * 1073741824 * (r * r * (L * L))) ≤ parts * (p * 1073741823 * norm a b) + 8 * (p * 1073741823 * norm a b)
    → 4294967296 * 4294967296 * norm (a * D) (b * D) ≤ 4294967297 * 4294967297 * norm (A * L) (B * L) → q * (r * r * (D * D)) ≤ p * norm A B
low_end p q A B D L a b r z h k =
    from_over (p ∷ q ∷ A ∷ B ∷ D ∷ L ∷ a ∷ b ∷ r ∷ []) (9007199254740992 * 1073741824 * 4294967296 * 4294967296 * (L * L)) (mul-pos (lit< tt) (mul-pos z z))
    (4294967296 * 4294967296 * (D * D) ⋆ h ⊹ 9007199254741000 * 1073741823 * p ⋆ k) (search read depth 40 fits 20000) refl

high_end : (p q A B D L a b r : ℕ) → 0 < L → parts * (p * 1073741825 * norm a b) ≤ parts * (q * 1073741824 * (r * r * (L * L))) + 8 * (p * 1073741825 * norm a b)
    → 4294967296 * 4294967296 * norm (A * L) (B * L) ≤ 4294967297 * 4294967297 * norm (a * D) (b * D) → p * norm A B ≤ q * (r * r * (D * D))
high_end p q A B D L a b r z h k =
    from_over (p ∷ q ∷ A ∷ B ∷ D ∷ L ∷ a ∷ b ∷ r ∷ []) (9007199254740984 * 1073741825 * 4294967296 * 4294967296 * (L * L)) (mul-pos (lit< tt) (mul-pos z z))
    (4294967297 * 4294967297 * (D * D) ⋆ h ⊹ 9007199254740984 * 1073741825 * p ⋆ k) (search read depth 40 fits 20000) refl

near_end : (p q A B D L a b r : ℕ) → 0 < L → parts * (q * 1073741824 * (r * r * (L * L))) ≤ parts * (p * 1073741825 * norm a b) + 8 * (p * 1073741825 * norm a b)
    → 4294967296 * 4294967296 * norm (a * D) (b * D) ≤ 4294967297 * 4294967297 * norm (A * L) (B * L) → 268435456 * (q * (r * r * (D * D))) ≤ 268435457 * (p * norm A B)
near_end p q A B D L a b r z h k =
    from_over (p ∷ q ∷ A ∷ B ∷ D ∷ L ∷ a ∷ b ∷ r ∷ []) (9007199254740992 * 1073741824 * 4294967296 * 4294967296 * (L * L)) (mul-pos (lit< tt) (mul-pos z z))
    (268435456 * 4294967296 * 4294967296 * (D * D) ⋆ h ⊹ 268435456 * 9007199254741000 * 1073741825 * p ⋆ k) (search read depth 40 fits 20000) refl

-- ---- the width: u is one below the upper bound, s one above the lower
close_roots : (p q L N u s : ℕ) → 0 < q → 0 < L → parts * (q * 1073741824 * (u * u * (L * L))) ≤ parts * (p * 1073741825 * N) + 8 * (p * 1073741825 * N)
    → parts * (p * 1073741823 * N) ≤ parts * (q * 1073741824 * (s * s * (L * L))) + 8 * (p * 1073741823 * N) → 9007199254740984 * 1073741823 * (u * u) ≤ 9007199254741000 * 1073741825 * (s * s)
close_roots p q L N u s zq zl h k =
    from_over (p ∷ q ∷ L ∷ N ∷ u ∷ s ∷ []) (9007199254740992 * 1073741824 * q * (L * L)) (mul-pos (mul-pos (omega arith) zq) (mul-pos zl zl)) (9007199254740984 * 1073741823 ⋆ h ⊹ 9007199254741000 * 1073741825 ⋆ k) (search read depth 40 fits 20000) refl

no_wider : (u s : ℕ) → 9007199254740984 * 1073741823 * (u * u) ≤ 9007199254741000 * 1073741825 * (s * s) → 536870913 * s + 1 ≤ 536870912 * u → ⊥
no_wider u s h k = absurd (le→leb 1 0 (from (u ∷ s ∷ []) (536870912 * 536870912 ⋆ h ⊹ 9007199254740984 * 1073741823 ⋆ mul-le-mul k k) (search read depth 40 fits 20000) refl))

below_root : (p q D m : ℕ) → 0 < q * (D * D) → (X : ℕ) → 268435456 * (q * (m * m * (D * D))) ≤ 268435457 * X → X ≤ q * (2 ^ 104 * (D * D)) → m * m < 2 ^ 53 * (2 ^ 53 - 2)
below_root p q D m z X h k = lt_of_not-le (λ (l : 2 ^ 53 * (2 ^ 53 - 2) ≤ m * m). absurd (le→leb 1 0 (from (q ∷ D ∷ m ∷ X ∷ []) (h ⊹ 268435457 ⋆ k ⊹ 268435456 * q * (D * D) ⋆ l ⊹ 2 ^ 130 ⋆ z) (search read depth 40 fits 20000) refl)))

-- ---- WHAT WHOLE BOUNDS OF √(p/q)·|P| PROMISE
pub record Enclosed (p q : ℕ) (P : Point) (lower upper : ℕ) : Type 0 where
  pub below : q * (lower * lower * (P.den * P.den)) ≤ p * norm P.re P.im
  pub above : p * norm P.re P.im ≤ q * (upper * upper * (P.den * P.den))
  -- one less than the upper bound is at most a part in 2 ^ 28 above, by squares
  pub near : (m : ℕ) → m + 1 ≡ upper → 268435456 * (q * (m * m * (P.den * P.den))) ≤ 268435457 * (p * norm P.re P.im)
  -- 2 apart and one part in 2 ^ 29
  pub narrow : 536870912 * upper ≤ 536870912 * (lower + 2) + (lower + 1)
  pub small : upper < 2 ^ 53

-- that is narrower than 2 A and a w-th of the upper bound, for every w up to 2 ^ 29: a thousand and a million are among them
pub width : (w lower upper : ℕ) → w ≤ 536870912 → 536870912 * upper ≤ 536870912 * (lower + 2) + (lower + 1) → w * upper ≤ w * (lower + 2) + upper
width w lower upper l h = ⊎_elim (λ (k : upper ≤ lower + 2). le_trans (mul-le-mul (le_refl w) k) (omega arith)) (λ (k : lower + 2 ≤ upper). go (le_dest k).0 (le_dest k).1) (le_or_le upper (lower + 2))
  where
    go : (d : ℕ) → lower + 2 + d ≡ upper → w * upper ≤ w * (lower + 2) + upper
    go d e = let m : w * d ≤ 536870912 * d = mul-le-mul l (le_refl d) in rw (← e) (omega (arith, rw (← e) at h, mul-add w (lower + 2) d))

margins : (k n : ℕ) → k ≤ 1000000 → n ≤ 4294967297 → 2 * (k * k) * (n * n) ≤ parts * parts
margins k n l h = from (k ∷ n ∷ []) (2 * (n * n) ⋆ mul-le-mul l l ⊹ 2000000000000 ⋆ mul-le-mul h h) (search read depth 40 fits 20000) refl

module _ (z : Complex) (f : Fine z) (lo : unit ≤ size z * extent) (hi : size z ≤ unit * extent) (k : ℕ) (P : Point) (few : k ≤ 1000000) (h : Near parts k P (value z))
    (p q : ℕ) (p₀ : 0 < p) (q₀ : 0 < q) (p₁ : p < 65536) (q₁ : q < 65536) (room : p * norm P.re P.im ≤ q * (2 ^ 104 * (P.den * P.den))) where
  spanned : Between span (size z)
  spanned = between_more extent span (size z) extent_span (lo, hi)

  near_low : 4294967296 * 4294967296 * norm (units_of z.re * P.den) (units_of z.im * P.den) ≤ 4294967297 * 4294967297 * norm (P.re * unit) (P.im * unit)
  near_low = size_low parts k 4294967296 _ _ _ _ (lit< tt) (margins k 4294967296 few (lit≤ tt)) h.close

  near_high : 4294967296 * 4294967296 * norm (P.re * unit) (P.im * unit) ≤ 4294967297 * 4294967297 * norm (units_of z.re * P.den) (units_of z.im * P.den)
  near_high = size_high parts k 4294967296 _ _ _ _ (lit< tt) (margins k 4294967297 few (lit≤ tt)) h.close

  module _ (c : ℕ) (c₀ : 0 < c) (c₁ : c ≤ 1073741825) where
    pc : p * c ≤ 2 ^ 48
    pc = le_trans (mul-le-mul (le_of_lt p₁) c₁) (lit≤ tt)

    tq : q * 1073741824 ≤ 2 ^ 46
    tq = omega arith

    by : Rounded (ratio (p * c) (q * 1073741824)) (p * c * unit) (q * 1073741824)
    by = ratio_rounds (p * c) (q * 1073741824) (le_trans pc (lit≤ tt)) (le_trans tq (lit≤ tt)) (omega arith)

    sized : Within parts 3 0 (norm (units_of z.re) (units_of z.im)) (units_of (square z) * unit)
    sized = near_square z f spanned.0 spanned.1

    part : Rounded (mul binary64 (square z) (ratio (p * c) (q * 1073741824))) (units_of (square z) * units_of (ratio (p * c) (q * 1073741824))) unit
    part =
        mul_rounds (square z) (ratio (p * c) (q * 1073741824)) _ _ (sq z f spanned.0 spanned.1).is by.is
        (product_fits (units_of (square z)) (units_of (ratio (p * c) (q * 1073741824))) (norm (units_of z.re) (units_of z.im)) unit extent most unit_pos sized.0
        (norm_most (units_of z.re) (units_of z.im) unit extent hi)
        (ratio_most (2 ^ 48) (p * c) (q * 1073741824) unit _ (omega arith) unit_pos pc (le_trans tq (lit≤ tt)) by.law) extent_most)

    some : 0 < p * c
    some = mul-pos p₀ c₀

    big : parts * (unit * (q * 1073741824)) ≤ p * c * norm (units_of z.re) (units_of z.im)
    big = scaled_large (p * c) (q * 1073741824) unit _ some tq (norm_large (units_of z.re) (units_of z.im) unit extent (2 ^ 120) (2 ^ 119) extent_pos (lit≤ tt) extent_unit lo)

    small : parts * (q * 1073741824) ≤ p * c * unit
    small = ratio_large (p * c) (q * 1073741824) some tq

    passed : (r : ℕ) → r ≤ 2 ^ 53 → le (squared r) (mul binary64 (square z) (ratio (p * c) (q * 1073741824))) ≡ true
        → parts * (q * 1073741824 * (r * r * (unit * unit))) ≤ parts * (p * c * norm (units_of z.re) (units_of z.im)) + 8 * (p * c * norm (units_of z.re) (units_of z.im))
    passed r l t =
        let g = square_rounds r l in
        under r unit _ _ _ _ _ (p * c) (q * 1073741824) g.law part.law by.law sized big small (le_units _ _ _ _ g.is part.is t)

    failed : (r : ℕ) → r ≤ 2 ^ 53 → le (squared r) (mul binary64 (square z) (ratio (p * c) (q * 1073741824))) ≡ false
        → parts * (p * c * norm (units_of z.re) (units_of z.im)) ≤ parts * (q * 1073741824 * (r * r * (unit * unit))) + 8 * (p * c * norm (units_of z.re) (units_of z.im))
    failed r l t =
        let g = square_rounds r l in
        over r unit _ _ _ _ _ (p * c) (q * 1073741824) g.law part.law by.law sized big small (le_of_lt (nle_units _ _ _ _ g.is part.is t))

    top : Top (λ r. le (squared r) (mul binary64 (square z) (ratio (p * c) (q * 1073741824)))) 0 (0 + 2 ^ 53) (size_below c p q z)
    unfolding size_below root_below
    top = climb_top (λ r. le (squared r) (mul binary64 (square z) (ratio (p * c) (q * 1073741824)))) 53 0 (go (le (squared (2 ^ 53)) (mul binary64 (square z) (ratio (p * c) (q * 1073741824)))) refl)
      where
        go : (t : Bool) → le (squared (2 ^ 53)) (mul binary64 (square z) (ratio (p * c) (q * 1073741824))) ≡ t → t ≡ false
        go true e = absurd (no_more p q unit _ c q₀ unit_pos c₁ (carried p q P.re P.im P.den unit _ _ h.left near_low room) (passed (2 ^ 53) (le_refl (2 ^ 53)) e))
        go false e = refl

    below_root_of : parts * (q * 1073741824 * (size_below c p q z * size_below c p q z * (unit * unit))) ≤ parts * (p * c * norm (units_of z.re) (units_of z.im)) + 8 * (p * c * norm (units_of z.re) (units_of z.im))
    below_root_of = ⊎_elim (λ e. rw e (omega arith)) (λ t. passed (size_below c p q z) (omega (arith, top.most)) t) top.passes

    above_root_of : parts * (p * c * norm (units_of z.re) (units_of z.im)) ≤ parts * (q * 1073741824 * ((size_below c p q z + 1) * (size_below c p q z + 1) * (unit * unit))) + 8 * (p * c * norm (units_of z.re) (units_of z.im))
    above_root_of = failed (size_below c p q z + 1) (omega (arith, top.most)) top.fails

  filled : empty z ≡ false
  filled = fair_empty z f (inr spanned) ∙ ne_eqb (size z) 0 (λ e. omega (arith, some_size (size z) unit extent unit_pos lo))

  encloses_some : Enclosed p q P (lower_of p q z) (upper_of p q z)
  unfolding lower_of upper_of
  encloses_some = rw filled (record {
    below = low_end p q P.re P.im P.den unit _ _ (size_below 1073741823 p q z) unit_pos (below_root_of 1073741823 (lit< tt) (lit≤ tt)) near_low;
    above = high_end p q P.re P.im P.den unit _ _ (size_below 1073741825 p q z + 1) unit_pos (above_root_of 1073741825 (lit< tt) (lit≤ tt)) near_high;
    near = λ m e. rw (same m (size_below 1073741825 p q z) e) near;
    narrow = put (size_below 1073741823 p q z) (size_below 1073741825 p q z) narrow_roots;
    small = omega (arith, below_of_squares (size_below 1073741825 p q z) (2 ^ 53 - 1) (le_trans (below_root p q P.den (size_below 1073741825 p q z) (mul-pos q₀ (mul-pos h.left h.left)) _ near room) (lit≤ tt)));
  })
    where
      near : 268435456 * (q * (size_below 1073741825 p q z * size_below 1073741825 p q z * (P.den * P.den))) ≤ 268435457 * (p * norm P.re P.im)
      near = near_end p q P.re P.im P.den unit _ _ (size_below 1073741825 p q z) unit_pos (below_root_of 1073741825 (lit< tt) (lit≤ tt)) near_low

      same : (m u : ℕ) → m + 1 ≡ u + 1 → m ≡ u
      same m u e = omega arith

      drop_one : (a b : ℕ) → a < b + 1 → a ≤ b
      drop_one a b h = omega arith

      narrow_roots : 536870912 * size_below 1073741825 p q z ≤ 536870913 * (size_below 1073741823 p q z + 1)
      narrow_roots =
          drop_one _ _ (lt_of_not-le (λ (w : 536870913 * (size_below 1073741823 p q z + 1) + 1 ≤ 536870912 * size_below 1073741825 p q z). no_wider (size_below 1073741825 p q z) (size_below 1073741823 p q z + 1)
          (close_roots p q unit _ (size_below 1073741825 p q z) (size_below 1073741823 p q z + 1) q₀ unit_pos (below_root_of 1073741825 (lit< tt) (lit≤ tt)) (above_root_of 1073741823 (lit< tt) (lit≤ tt))) w))

      put : (r u : ℕ) → 536870912 * u ≤ 536870913 * (r + 1) → 536870912 * (u + 1) ≤ 536870912 * (r + 2) + (r + 1)
      put r u h = omega arith

-- nothing is enclosed by 0 and 0
encloses_none : (p q : ℕ) (z : Complex) (P : Point) → empty z ≡ true → P.re + P.im ≡ 0 → Enclosed p q P (lower_of p q z) (upper_of p q z)
unfolding lower_of upper_of
encloses_none p q z P t e = rw t (record {
  below = omega arith;
  above = rw (re, im) (omega arith);
  near = λ m d. absurd (omega arith);
  narrow = omega arith;
  small = lit< tt;
})
  where
    re : P.re ≡ 0
    re = omega arith

    im : P.im ≡ 0
    im = omega arith

-- THE ENCLOSURE: whole bounds of √(p/q)·|P| from an f64 point within 10⁶ parts in 2 ^ 53, for every size in range
pub encloses : (z : Complex) (k : ℕ) (P : Point) (p q : ℕ) → Fine z → Sized extent (size z) → k ≤ 1000000 → Near parts k P (value z) → 0 < p → 0 < q → p < 65536 → q < 65536
    → p * norm P.re P.im ≤ q * (2 ^ 104 * (P.den * P.den)) → Enclosed p q P (lower_of p q z) (upper_of p q z)
encloses z k P p q f (inl e) few h p₀ q₀ p₁ q₁ room = encloses_none p q z P (fair_empty z f (inl e) ∙ eq-eqb (size z) 0 e) (eqb-true (P.re + P.im) 0 (near_nothing parts k P (value z) (omega arith) (omega arith) h ∙ eq-eqb (size z) 0 e))
encloses z k P p q f (inr x) few h p₀ q₀ p₁ q₁ room = encloses_some z f x.0 x.1 k P few h p q p₀ q₀ p₁ q₁ room
