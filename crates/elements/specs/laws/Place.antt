-- The calculated place is not above R/X, and less than 1.1 steps of 1/1,600 below it where the table goes on.
-- Assumes nothing.
use Rattle.std.specs.Prelude.{ℕ, zero, suc, ◌+◌, ◌*◌, ◌^◌, ◌≤◌, ◌<◌, ◌≡◌, refl, Bool, true, false, [], ◌∷◌, ltb}
use Rattle.std.proofs.Common.{sym, ◌∙◌, true≢false, inr, ⊎_elim, arith, le_trans, le_of_lt, lt_of_not-le, mul-pos, le→leb, lit<, lit≤, lt-ltb, le-ltb, ltb-true, ltb-false}
use Rattle.std.specs.Float.{binary64}
use Rattle.std.specs.Float.Ieee.{of_bits, add, mul}
use Rattle.algebra.specs.Reading.{poly, from, from_over, read, ◌⊹◌, ◌⋆◌}
use Rattle.enclosure.specs.laws.Close.{Close, close_part, close_swap}
use Rattle.enclosure.specs.Exact.{Point, of_nat}
use Rattle.enclosure.specs.laws.Nearness.{Near}
use Rattle.enclosure.specs.declared.Complex.{Complex}
use Rattle.enclosure.specs.laws.Rounding.{Rounds}
use Rattle.enclosure.specs.laws.Units.{unit, unit_pos, most, span, span_pos, span_unit, span_most, extent, Between, between_more, extent_span, extent_pos, extent_unit, extent_most, sliver, sliver_unit, Is, units_of, Rounded, add_rounds, mul_rounds}
use Rattle.enclosure.specs.laws.ElementStart.{is_whole}
use Rattle.enclosure.specs.laws.StepErrors.{parts}
use Rattle.enclosure.specs.laws.F64Errors.{value, size, Fine, least, fits}
use Rattle.enclosure.specs.laws.WholeBounds.{le_units, nle_units}
use Rattle.enclosure.specs.laws.Climb.{Top, climb_top}
use Rattle.enclosure.specs.Doubles.{climb}
use Rattle.elements.specs.laws.Peak.{Index}
use Rattle.elements.specs.Doubles.{margin, steps, fits_at, place_of}

-- ---- one test over plain numbers: 1,048,576·u smallest make 1; a and b are G and B, m1 is i·b, s is a + b, m2 is its margin, t is m1 + m2, h is 1,600·a
module _ (i u a b m1 s m2 t h : ℕ) (i₁ : i ≤ 3680) (u₀ : 0 < u) (big : 2 ^ 60 ≤ a + b)
    (r1 : Rounds m1 (i * (1048576 * u) * b) (1048576 * u)) (rs : Rounds s (a + b) 1) (r2 : Rounds m2 (s * u) (1048576 * u)) (rt : Rounds t (m1 + m2) 1)
    (rh : Rounds h (1600 * (1048576 * u) * a) (1048576 * u)) where
  -- three quarters of the margin are left
  passes : t ≤ h → 4194304 * (i * b) + 3 * (a + b) ≤ 6710886400 * a
  passes l =
      from_over (i ∷ u ∷ a ∷ b ∷ m1 ∷ s ∷ m2 ∷ t ∷ h ∷ []) (18014398509481984 * 18014398509481984 * 18014398509481986 * (1048576 * u)) (mul-pos (lit< tt) (mul-pos (lit< tt) u₀))
      (18014398509481984 * 18014398509481984 * 1048576 * 4 * (1048576 * u) ⋆ rt.1
      ⊹ 18014398509481984 * 18014398509481984 * 18014398509481984 * 1048576 * 4 * (1048576 * u) ⋆ l
      ⊹ 18014398509481984 * 18014398509481984 * 1048576 * 4 ⋆ rh.0
      ⊹ 18014398509481984 * 18014398509481982 * 1048576 * 4 ⋆ r1.1
      ⊹ 18014398509481984 * 18014398509481982 * 1048576 * 4 ⋆ r2.1
      ⊹ 18014398509481982 * 18014398509481982 * 4 * (1048576 * u) ⋆ rs.1
      ⊹ 24 * 18014398509481984 * 18014398509481984 * 1048576 * (1048576 * u) * b ⋆ i₁
      ⊹ 163840 * 18014398509481984 * 18014398509481984 * (1048576 * u) ⋆ big) (search read depth 40 fits 20000) refl

  fails : h ≤ t → 838860800 * a ≤ 524288 * (i * b) + (a + b)
  fails l =
      from_over (i ∷ u ∷ a ∷ b ∷ m1 ∷ s ∷ m2 ∷ t ∷ h ∷ []) (18014398509481984 * 18014398509481984 * 2 * 18014398509481982 * (1048576 * u)) (mul-pos (lit< tt) (mul-pos (lit< tt) u₀))
      (18014398509481984 * 18014398509481984 * 1048576 * (1048576 * u) ⋆ rt.0
      ⊹ 18014398509481984 * 18014398509481984 * 18014398509481984 * 1048576 * (1048576 * u) ⋆ l
      ⊹ 18014398509481984 * 18014398509481984 * 1048576 ⋆ rh.1
      ⊹ 18014398509481984 * 18014398509481986 * 1048576 ⋆ r1.0
      ⊹ 18014398509481984 * 18014398509481986 * 1048576 ⋆ r2.0
      ⊹ 18014398509481986 * 18014398509481986 * (1048576 * u) ⋆ rs.0
      ⊹ 7 * 18014398509481984 * 18014398509481984 * 1048576 * (1048576 * u) * b ⋆ i₁
      ⊹ 40960 * 18014398509481984 * 18014398509481984 * (1048576 * u) ⋆ big) (search read depth 40 fits 20000) refl

-- ---- from the calculated pair (a, b) to the exact (A, B)
module _ (i k L D A B a b : ℕ) (i₁ : i ≤ 3680) (few : k ≤ 1000000) (L₀ : 0 < L) (c : Close parts k (A * L) (B * L) (a * D) (b * D)) where
  below : 4194304 * (i * b) + 3 * (a + b) ≤ 6710886400 * a → i * B ≤ 1600 * A
  below h =
      from_over (i ∷ k ∷ L ∷ D ∷ A ∷ B ∷ a ∷ b ∷ []) (9007199254740992 * 4194304 * L) (mul-pos (lit< tt) L₀)
      (4194304 * i ⋆ (close_part parts k (B * L) (A * L) (b * D) (a * D) (close_swap parts k (A * L) (B * L) (a * D) (b * D) c)).0
      ⊹ 9007199254740992 * D ⋆ h
      ⊹ 6710886400 ⋆ (close_part parts k (A * L) (B * L) (a * D) (b * D) c).1
      ⊹ 3 ⋆ (close_part parts k (A * L) (B * L) (a * D) (b * D) c).0
      ⊹ 3 ⋆ (close_part parts k (B * L) (A * L) (b * D) (a * D) (close_swap parts k (A * L) (B * L) (a * D) (b * D) c)).0
      ⊹ 4194304 * k * (A * L + B * L) ⋆ i₁
      ⊹ 22145925126 * (A * L + B * L) ⋆ few) (search read depth 40 fits 20000) refl

  above : 838860800 * a ≤ 524288 * (i * b) + (a + b) → 838860800 * A ≤ 524288 * (i * B) + 2 * (A + B)
  above h =
      from_over (i ∷ k ∷ L ∷ D ∷ A ∷ B ∷ a ∷ b ∷ []) (9007199254740992 * L) (mul-pos (lit< tt) L₀)
      (838860800 ⋆ (close_part parts k (A * L) (B * L) (a * D) (b * D) c).0
      ⊹ 9007199254740992 * D ⋆ h
      ⊹ 524288 * i ⋆ (close_part parts k (B * L) (A * L) (b * D) (a * D) (close_swap parts k (A * L) (B * L) (a * D) (b * D) c)).1
      ⊹ (close_part parts k (A * L) (B * L) (a * D) (b * D) c).1
      ⊹ (close_part parts k (B * L) (A * L) (b * D) (a * D) (close_swap parts k (A * L) (B * L) (a * D) (b * D) c)).1
      ⊹ 524288 * k * (A * L + B * L) ⋆ i₁
      ⊹ 2768240642 * (A * L + B * L) ⋆ few) (search read depth 40 fits 20000) refl

  -- a tenth of a step is more than the margin
  tenth : 0 < B → 838860800 * A ≤ 524288 * (i * B) + 2 * (A + B) → 16000 * A < (10 * i + 1) * B
  tenth z h =
      lt_of_not-le (λ (l : (10 * i + 1) * B ≤ 16000 * A). absurd (le→leb 1 0 (from (i ∷ A ∷ B ∷ []) (16000 ⋆ h ⊹ 20 * B ⋆ i₁ ⊹ 838860798 ⋆ l ⊹ z) (search read depth 40 fits 20000) refl)))

-- ---- the constants of the test
margin_is : Is margin sliver
unfolding of_bits
margin_is = (refl, omega (arith, sliver_unit))

steps_is : Is steps (1600 * unit)
unfolding of_bits
steps_is = (refl, omega arith)

-- ---- sizes over plain numbers: e is the extent, m the most
module _ (L e m a b : ℕ) (L₀ : 0 < L) (e₀ : 0 < e) (eL : e * e * 2 ^ 120 ≤ L) (em : e * e * 2 ^ 60 ≤ m) (lo : L ≤ (a + b) * e) (hi : a + b ≤ L * e) where
  product_fits : (i w : ℕ) → i ≤ 4096 → w ≤ a + b → i * L * w ≤ L * L * m
  product_fits i w h k = from (L ∷ e ∷ m ∷ a ∷ b ∷ i ∷ w ∷ []) (L * w ⋆ h ⊹ 4096 * L ⋆ k ⊹ 4096 * L ⋆ hi ⊹ L * L ⋆ em ⊹ L * L * e * 2 ^ 60 ⋆ e₀) (search read depth 40 fits 20000) refl

  -- s is a + b and m1 is i·b, rounded; u is no more than L
  margin_fits : (s u : ℕ) → Rounds s (a + b) 1 → u ≤ L → s * u ≤ L * L * m
  margin_fits s u h k =
      from_over (L ∷ e ∷ m ∷ a ∷ b ∷ s ∷ u ∷ []) 18014398509481984 (lit< tt)
      (18014398509481984 * s ⋆ k ⊹ L ⋆ h.0 ⊹ 18014398509481986 * L ⋆ hi ⊹ 18014398509481984 * (L * L) ⋆ em ⊹ 18014398509481984 * (L * L) * e * 2 ^ 60 ⋆ e₀ ⊹ 9007199254740992 * L ⋆ mul-pos L₀ e₀)
      (search read depth 40 fits 20000) refl

  both_fit : (i s u m1 m2 : ℕ) → i ≤ 4096 → u ≤ L → Rounds s (a + b) 1 → Rounds m1 (i * L * b) L → Rounds m2 (s * u) L → m1 + m2 ≤ L * m
  both_fit i s u m1 m2 h k hs h1 h2 =
      from_over (L ∷ e ∷ m ∷ a ∷ b ∷ i ∷ s ∷ u ∷ m1 ∷ m2 ∷ []) (18014398509481984 * L) (mul-pos (lit< tt) L₀)
      (h1.0 ⊹ h2.0 ⊹ 18014398509481986 * L * b ⋆ h ⊹ 18014398509481986 * 4096 * L ⋆ hi ⊹ 18014398509481986 * s ⋆ k
      ⊹ 2 * L ⋆ hs.0 ⊹ 40000000000000000 * L ⋆ hi ⊹ 40000000000000000 * L ⋆ mul-pos L₀ e₀
      ⊹ 18014398509481984 * (L * L) ⋆ em ⊹ 18014398509481984 * (L * L) * e * 2 ^ 60 ⋆ e₀)
      (search read depth 40 fits 20000) refl

module _ (y : Complex) (f : Fine y) (lo : unit ≤ size y * extent) (hi : size y ≤ unit * extent) where
  spanned : Between span (size y)
  spanned = between_more extent span (size y) extent_span (lo, hi)

  joint : Rounded (add binary64 y.re y.im) (size y) 1
  joint = add_rounds y.re y.im _ _ f.re f.im (fits (size y) (inr spanned))

  small : sliver ≤ unit
  small = omega (arith, sliver_unit)

  spare : Rounded (mul binary64 (add binary64 y.re y.im) margin) (units_of (add binary64 y.re y.im) * sliver) unit
  spare = mul_rounds _ margin _ sliver joint.is margin_is (margin_fits unit extent most (units_of y.re) (units_of y.im) unit_pos extent_pos extent_unit extent_most lo hi _ sliver joint.law small)

  right : Rounded (mul binary64 steps y.re) (1600 * unit * units_of y.re) unit
  right = mul_rounds steps y.re (1600 * unit) _ steps_is f.re (product_fits unit extent most (units_of y.re) (units_of y.im) unit_pos extent_pos extent_unit extent_most lo hi 1600 (units_of y.re) (omega arith) (omega arith))

  module _ (i : ℕ) (i₁ : i ≤ 3680) where
    times_i : Rounded (mul binary64 (of_nat i) y.im) (i * unit * units_of y.im) unit
    times_i = mul_rounds (of_nat i) y.im (i * unit) _ (is_whole i (omega arith)) f.im (product_fits unit extent most (units_of y.re) (units_of y.im) unit_pos extent_pos extent_unit extent_most lo hi i (units_of y.im) (omega arith) (omega arith))

    left : Rounded (add binary64 (mul binary64 (of_nat i) y.im) (mul binary64 (add binary64 y.re y.im) margin)) (units_of (mul binary64 (of_nat i) y.im) + units_of (mul binary64 (add binary64 y.re y.im) margin)) 1
    left =
        add_rounds _ _ _ _ times_i.is spare.is
        (both_fit unit extent most (units_of y.re) (units_of y.im) unit_pos extent_pos extent_unit extent_most lo hi i _ sliver _ _ (omega arith) small joint.law times_i.law spare.law)

    enough : 2 ^ 60 ≤ units_of y.re + units_of y.im
    enough = least unit span most unit_pos span_pos span_unit span_most (size y) spanned.0

    sliver_pos : 0 < sliver
    sliver_pos = go sliver sliver_unit
      where
        go : (s : ℕ) → unit ≡ 1048576 * s → 0 < s
        go zero e = absurd (omega (arith, unit_pos))
        go (suc s) e = omega arith

    fits_true : fits_at y i ≡ true → 4194304 * (i * units_of y.im) + 3 * (units_of y.re + units_of y.im) ≤ 6710886400 * units_of y.re
    unfolding fits_at
    fits_true e =
        passes i sliver (units_of y.re) (units_of y.im) _ _ _ _ _ i₁ sliver_pos enough
        (rw sliver_unit at times_i.law) joint.law (rw sliver_unit at spare.law) left.law (rw sliver_unit at right.law)
        (le_units _ _ _ _ left.is right.is (rw (le-ltb 3680 i i₁) at e))

    fits_false : fits_at y i ≡ false → 838860800 * units_of y.re ≤ 524288 * (i * units_of y.im) + (units_of y.re + units_of y.im)
    unfolding fits_at
    fits_false e =
        fails i sliver (units_of y.re) (units_of y.im) _ _ _ _ _ i₁ sliver_pos enough
        (rw sliver_unit at times_i.law) joint.law (rw sliver_unit at spare.law) left.law (rw sliver_unit at right.law)
        (le_of_lt (nle_units _ _ _ _ left.is right.is (rw (le-ltb 3680 i i₁) at e)))

-- nothing past the end of the table fits
past : (y : Complex) (i : ℕ) → 3680 < i → fits_at y i ≡ false
unfolding fits_at
past y i h = rw (lt-ltb 3680 i h)

inside : (y : Complex) (i : ℕ) → fits_at y i ≡ true → i ≤ 3680
inside y i e = go (ltb 3680 i) refl
  where
    go : (t : Bool) → ltb 3680 i ≡ t → i ≤ 3680
    go true h = absurd (true≢false (sym e ∙ past y i (ltb-true 3680 i h)))
    go false h = ltb-false 3680 i h

-- THE PLACE: p/1,600 ≤ R/X, and R/X < (p + 1.1)/1,600 below the table's end, for an admittance within 10⁶ parts in 2 ^ 53 of P
pub place_index : (y : Complex) (k : ℕ) (P : Point) → Fine y → unit ≤ size y * extent → size y ≤ unit * extent → k ≤ 1000000 → Near parts k P (value y) → 0 < P.im → Index P.re P.im (place_of y)
unfolding place_of
place_index y k P f lo hi few near B₀ = go (climb_top (fits_at y) 12 0 (past y 4096 (lit< tt)))
  where
    go : Top (fits_at y) 0 (0 + 2 ^ 12) (climb (fits_at y) 12 0) → Index P.re P.im (climb (fits_at y) 12 0)
    go top = record { below = ⊎_elim (λ e. rw e (omega arith)) under top.passes; cap = cap; above = over }
      where
        cap : climb (fits_at y) 12 0 ≤ 3680
        cap = ⊎_elim (λ e. rw e (lit≤ tt)) (inside y (climb (fits_at y) 12 0)) top.passes

        under : fits_at y (climb (fits_at y) 12 0) ≡ true → climb (fits_at y) 12 0 * P.im ≤ 1600 * P.re
        under e = below (climb (fits_at y) 12 0) k unit P.den P.re P.im _ _ cap few unit_pos near.close (fits_true y f lo hi (climb (fits_at y) 12 0) cap e)

        over : climb (fits_at y) 12 0 < 3680 → 16000 * P.re < (10 * climb (fits_at y) 12 0 + 11) * P.im
        over l =
            let i : ℕ = climb (fits_at y) 12 0 + 1 in
            shift (climb (fits_at y) 12 0) P.im _
            (tenth i k unit P.den P.re P.im (units_of y.re) (units_of y.im) (omega arith) few unit_pos near.close B₀
            (above i k unit P.den P.re P.im _ _ (omega arith) few unit_pos near.close (fits_false y f lo hi i (omega arith) top.fails)))
          where
            shift : (i B x : ℕ) → x < (10 * (i + 1) + 1) * B → x < (10 * i + 11) * B
            shift i B x h = le_trans h (poly (i ∷ B ∷ []) (search read depth 40 fits 20000) refl)
