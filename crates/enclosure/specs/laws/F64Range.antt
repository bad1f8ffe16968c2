-- The steps of f64 are near the exact ones in the sense of `NearSteps` of Nearness, for a limited number of steps from numbers of a known size.
-- Assumes nothing.
use Rattle.std.specs.Prelude.{◌≡◌, ℕ, zero, suc, ◌+◌, ◌-◌, ◌*◌, ◌^◌, ◌<◌, ◌≤◌, ◌⊎◌, [], ◌∷◌, ◌≢◌, refl}
use Rattle.std.proofs.Common.{zero-le, sym, ap, ◌∙◌, inl, inr, ⊎_elim, arith, le_refl, le_trans, le_of_eq, mul-le-mul, mul-pos, pow-add, lit≤, eq-eqb, ne_eqb}
use Rattle.std.proofs.Math.Nat.{le_dest, zero-mul}
use Rattle.std.proofs.Math.Pow.{pow_mono}
use Rattle.std.specs.Float.Ieee.{of_bits}
use Rattle.algebra.specs.Polynomial.{two_sq, le_or_le}
use Rattle.algebra.specs.Reading.{poly, from, from_over, read, ◌⊹◌, ◌⋆◌}
use Rattle.enclosure.specs.laws.Close.{Close}
use Rattle.enclosure.specs.Exact.{norm, Point, nothing, sum, times, turned, inverse, exact}
use Rattle.enclosure.specs.laws.Nearness.{Near, NearSteps, Rules, NearTo, near_steps_rules, near_scaled}
use Rattle.enclosure.specs.declared.Complex.{Complex}
use Rattle.enclosure.specs.laws.Units.{unit, span, Between, Sized, between_more, unit_pos, Is, units_of, units_is}
use Rattle.enclosure.specs.laws.StepErrors.{parts}
use Rattle.enclosure.specs.Doubles.{nought, added, inverted, scaled, doubles}
use Rattle.enclosure.specs.laws.F64Errors.{value, size, Fine, some_size, fair_add, fair_inverse, fair_scale, fair_empty}

-- ---- near points have sizes within a factor of 2
over_twice : (S s d : ℕ) → 2 * s + d ≡ S → 7 * (S * S) + 8 * (s * s) ≤ 16 * (S * s) → S ≤ 2 * s
over_twice S zero zero e h = omega arith
over_twice S (suc s) d e h = absurd (omega (arith, rw (← e) at h))
over_twice S zero (suc d) e h = absurd (omega (arith, rw (← e) at h))

under_half : (S s d : ℕ) → 2 * S + d ≡ s → 7 * (S * S) + 8 * (s * s) ≤ 16 * (S * s) → s ≤ 2 * S
under_half zero s zero e h = omega arith
under_half (suc S) s d e h = absurd (omega (arith, rw (← e) at h))
under_half zero s (suc d) e h = absurd (omega (arith, rw (← e) at h))

close_sizes : (M k A B a b : ℕ) → 0 < M → 4 * k ≤ M → Close M k A B a b → 7 * ((A + B) * (A + B)) + 8 * ((a + b) * (a + b)) ≤ 16 * ((A + B) * (a + b))
close_sizes M k A B a b z l h =
    from_over (M ∷ k ∷ A ∷ B ∷ a ∷ b ∷ []) (M * M) (mul-pos z z)
    (16 ⋆ h ⊹ (A + B) * (A + B) ⋆ mul-le-mul l l ⊹ 8 * (M * M) ⋆ two_sq (A + b) (a + B))
    (search read depth 40 fits 20000) refl

halves : (S s : ℕ) → 7 * (S * S) + 8 * (s * s) ≤ 16 * (S * s) → (S ≤ 2 * s) × (s ≤ 2 * S)
halves S s h = (
  ⊎_elim (λ l. l) (λ l. over_twice S s (le_dest l).0 (le_dest l).1 h) (le_or_le S (2 * s)),
  ⊎_elim (λ l. l) (λ l. under_half S s (le_dest l).0 (le_dest l).1 h) (le_or_le s (2 * S)),
)

pub near_size : (M k : ℕ) (x y : Point) → 0 < M → 4 * k ≤ M → Near M k x y
    → ((x.re + x.im) * y.den ≤ 2 * ((y.re + y.im) * x.den)) × ((y.re + y.im) * x.den ≤ 2 * ((x.re + x.im) * y.den))
near_size M k x y z l h = put x.re x.im x.den y.re y.im y.den (halves _ _ (close_sizes M k _ _ _ _ z l h.close))
  where
    put : (a b c d e f : ℕ) → (a * f + b * f ≤ 2 * (d * c + e * c)) × (d * c + e * c ≤ 2 * (a * f + b * f)) → ((a + b) * f ≤ 2 * ((d + e) * c)) × ((d + e) * c ≤ 2 * ((a + b) * f))
    put a b c d e f q = (omega arith, omega arith)

-- what is within a factor of 2 of 0 is 0
pub no_size : (s d t u : ℕ) → 0 < d → t ≡ 0 → s * d ≤ 2 * (t * u) → s ≡ 0
no_size (suc s) zero t u z e h = elim z [ ]
no_size zero d t u z e h = refl
no_size (suc s) (suc d) zero u z e h = absurd (omega arith)
no_size (suc s) (suc d) (suc t) u z e h = absurd (omega arith)

-- what a scaling multiplies or divides by: volts, kVA, metres, ratios
abbrev pub Factor : ℕ → Type 0
Factor p = (0 < p) × (p < 2 ^ 32)

-- what it can multiply and divide by at the same cost: numbers of up to 46 bits, neither more than 2 ^ 39 times the other
pub record Wide (p q : ℕ) : Type 0 where
  pub over : 0 < p
  pub under : 0 < q
  pub over_most : p < 2 ^ 46
  pub under_most : q < 2 ^ 46
  pub high : p ≤ 2 ^ 39 * q
  pub low : q ≤ 2 ^ 39 * p

factors_wide : (p q : ℕ) → Factor p → Factor q → Wide p q
factors_wide p q h k = record { over = h.0; under = k.0; over_most = omega arith; under_most = omega arith; high = omega arith; low = omega arith }

module _ (w : ℕ) where
  -- d steps' worth of costs from a size within 2 ^ w
  abbrev pub reach : ℕ → ℕ
  reach d = 2 ^ (w + 5 * d)

  reach_more : (d n : ℕ) → reach d * 2 ^ (5 * n) ≡ reach (d + n)
  reach_more d n = sym (pow-add 2 (w + 5 * d) (5 * n)) ∙ ap (λ (z : ℕ). 2 ^ z) (put d n)
    where
      put : (d n : ℕ) → w + 5 * d + 5 * n ≡ w + 5 * (d + n)
      put d n = omega arith

  reach_up : (d e : ℕ) → d ≤ e → reach d ≤ reach e
  reach_up d e l = pow_mono (omega arith)

  reach_span : (d : ℕ) → w + 5 * d ≤ 500 → reach d ≤ span
  unfolding span
  reach_span d l = pow_mono l

  -- ---- WHAT A NUMBER NEEDS: after a cost of k, of which k₀ lies before the branch
  abbrev pub Range : ℕ → ℕ → ℕ → Type 0
  Range k₀ k s = (s ≡ 0) ⊎ ((k₀ ≤ k) × Between (reach (k - k₀)) s)

  pub record Good (k₀ k : ℕ) (z : Complex) : Type 0 where
    pub fine : Fine z
    pub range : Range k₀ k (size z)

  pub good_sized : (E k₀ k : ℕ) (z : Complex) → reach (k - k₀) ≤ E → Good k₀ k z → Sized E (size z)
  good_sized E k₀ k z l g = ⊎_elim (λ e. inl e) (λ h. inr (between_more (reach (k - k₀)) E (size z) l h.1)) g.range

  pub good_more : (k₀ j k : ℕ) (z : Complex) → j ≤ k → Good k₀ j z → Good k₀ k z
  good_more k₀ j k z l g = record {
    fine = g.fine;
    range = ⊎_elim (λ e. inl e) (λ h. inr (omega arith, between_more (reach (j - k₀)) (reach (k - k₀)) (size z) (reach_up (j - k₀) (k - k₀) (omega arith)) h.1)) g.range;
  }

  -- a step of cost n that loses a factor of 2 ^ (5·n) at most
  further : (k₀ k n E F s : ℕ) → k₀ ≤ k → E ≤ reach (k - k₀) * F → F ≤ 2 ^ (5 * n) → Between E s → Between (reach (k + n - k₀)) s
  further k₀ k n E F s l g f h = between_more E (reach (k + n - k₀)) s (le_trans g (le_trans (mul-le-mul (le_refl (reach (k - k₀))) f) (le_of_eq (reach_more (k - k₀) n ∙ ap reach (shift k₀ k n l))))) h
    where
      shift : (k₀ k n : ℕ) → k₀ ≤ k → k - k₀ + n ≡ k + n - k₀
      shift k₀ k n l = omega arith

  nought_is : Is nought 0
  unfolding of_bits
  nought_is = (refl, zero-mul unit)

  nought_units : units_of nought ≡ 0
  nought_units = units_is nought 0 nought_is

  parts_pos : 0 < parts
  parts_pos = omega arith

  -- ---- the size of a result, over plain numbers
  module _ (L E s : ℕ) (L₀ : 0 < L) (lo : L ≤ s * E) (hi : s ≤ L * E) where
    -- r is s, rounded
    size_copied : (r : ℕ) → s ≤ 2 * r → r ≤ 2 * s → (L ≤ r * (E * 2)) × (r ≤ L * (E * 2))
    size_copied r p q = (from (L ∷ E ∷ s ∷ r ∷ []) (lo ⊹ E ⋆ p) (search read depth 40 fits 20000) refl, from (L ∷ E ∷ s ∷ r ∷ []) (2 ⋆ hi ⊹ q) (search read depth 40 fits 20000) refl)

    -- r is L·L/s to a factor of 2, N the square of the size
    size_turned : (r N : ℕ) → 0 < s → N ≤ s * s → s * s ≤ 2 * N → s * L * L ≤ 2 * (r * N) → r * N ≤ 2 * (s * L * L) → (L ≤ r * (E * 4)) × (r ≤ L * (E * 4))
    size_turned r N z m n p q = (
      from_over (L ∷ E ∷ s ∷ r ∷ N ∷ []) (s * L) (mul-pos z L₀) (p ⊹ 2 * r ⋆ m ⊹ 2 * r * s ⋆ hi) (search read depth 40 fits 20000) refl,
      from_over (L ∷ E ∷ s ∷ r ∷ N ∷ []) (s * s) (mul-pos z z) (r ⋆ n ⊹ 2 ⋆ q ⊹ 4 * s * L ⋆ lo) (search read depth 40 fits 20000) refl,
    )

    -- r is s·p/q to a factor of 2
    size_scaled : (r p q : ℕ) → Wide p q → s * p ≤ 2 * (r * q) → r * q ≤ 2 * (s * p) → (L ≤ r * (E * 2 ^ 40)) × (r ≤ L * (E * 2 ^ 40))
    size_scaled r p q wide h k = (
      from_over (L ∷ E ∷ s ∷ r ∷ p ∷ q ∷ []) p wide.over (p ⋆ lo ⊹ E ⋆ h ⊹ 2 * E * r ⋆ wide.low) (search read depth 40 fits 20000) refl,
      from_over (L ∷ E ∷ s ∷ r ∷ p ∷ q ∷ []) q wide.under (k ⊹ 2 * s ⋆ wide.high ⊹ 2 ^ 40 * q ⋆ hi) (search read depth 40 fits 20000) refl,
    )

  -- a sum of two, of which the other is no larger than E
  size_left : (L E s t : ℕ) → L ≤ s * E → s ≤ L * E → t ≤ L * E → (L ≤ (s + t) * (E * 2)) × (s + t ≤ L * (E * 2))
  size_left L E s t p q r = (from (L ∷ E ∷ s ∷ t ∷ []) p (search read depth 40 fits 20000) refl, omega arith)

  size_right : (L E s t : ℕ) → L ≤ t * E → s ≤ L * E → t ≤ L * E → (L ≤ (s + t) * (E * 2)) × (s + t ≤ L * (E * 2))
  size_right L E s t p q r = (from (L ∷ E ∷ s ∷ t ∷ []) p (search read depth 40 fits 20000) refl, omega arith)

  -- ---- cancelling
  cancel_sum : (a b c d s u : ℕ) → 0 < u → ((a * u + b * u + (c * u + d * u)) * u ≤ 2 * (s * (u * u))) × (s * (u * u) ≤ 2 * ((a * u + b * u + (c * u + d * u)) * u)) → (a + c + (b + d) ≤ 2 * s) × (s ≤ 2 * (a + c + (b + d)))
  cancel_sum a b c d s u z h = (
    from_over (a ∷ b ∷ c ∷ d ∷ s ∷ u ∷ []) (u * u) (mul-pos z z) h.0 (search read depth 40 fits 20000) refl,
    from_over (a ∷ b ∷ c ∷ d ∷ s ∷ u ∷ []) (u * u) (mul-pos z z) h.1 (search read depth 40 fits 20000) refl,
  )

  cancel_scale : (a b p q s u : ℕ) → 0 < u → ((a * p + b * p) * u ≤ 2 * (s * (u * q))) × (s * (u * q) ≤ 2 * ((a * p + b * p) * u)) → ((a + b) * p ≤ 2 * (s * q)) × (s * q ≤ 2 * ((a + b) * p))
  cancel_scale a b p q s u z h = (
    from_over (a ∷ b ∷ p ∷ q ∷ s ∷ u ∷ []) u z h.0 (search read depth 40 fits 20000) refl,
    from_over (a ∷ b ∷ p ∷ q ∷ s ∷ u ∷ []) u z h.1 (search read depth 40 fits 20000) refl,
  )

  joint : (k₀ k s t : ℕ) → Range k₀ k s → Range k₀ k t → (s + t ≡ 0) ⊎ ((k₀ ≤ k) × Between (reach (k - k₀) * 2) (s + t))
  joint k₀ k s t (inl p) (inl q) = inl (omega arith)
  joint k₀ k s t (inl p) (inr q) = inr (q.0, size_right unit (reach (k - k₀)) s t q.1.0 (rw p zero-le) q.1.1)
  joint k₀ k s t (inr p) (inl q) = inr (p.0, size_left unit (reach (k - k₀)) s t p.1.0 p.1.1 (rw q zero-le))
  joint k₀ k s t (inr p) (inr q) = inr (p.0, size_left unit (reach (k - k₀)) s t p.1.0 p.1.1 q.1.1)

  twice_twice : (E : ℕ) → E * 2 * 2 ≤ E * 4
  twice_twice E = omega arith

  -- a result r of size within a factor of 2 of s
  copied : (k₀ k s r : ℕ) → (s ≡ 0) ⊎ ((k₀ ≤ k) × Between (reach (k - k₀) * 2) s) → (s ≤ 2 * r) × (r ≤ 2 * s) → Range k₀ (k + 4) r
  copied k₀ k s r (inl e) h = inl (omega (arith, h.1))
  copied k₀ k s r (inr g) h =
      inr (omega arith, further k₀ k 4 (reach (k - k₀) * 2 * 2) 4 r g.0 (twice_twice (reach (k - k₀))) (lit≤ tt) (size_copied unit (reach (k - k₀) * 2) s unit_pos g.1.0 g.1.1 r h.0 h.1))

  doubled : (k₀ k s : ℕ) → w + 5 * (k + 1 - k₀) ≤ 500 → (s ≡ 0) ⊎ ((k₀ ≤ k) × Between (reach (k - k₀) * 2) s) → Sized span s
  doubled k₀ k s l (inl e) = inl e
  doubled k₀ k s l (inr g) =
      inr (between_more (reach (k + 1 - k₀)) span s (reach_span (k + 1 - k₀) (omega arith)) (further k₀ k 1 (reach (k - k₀) * 2) 2 s g.0 (le_refl (reach (k - k₀) * 2)) (lit≤ tt) g.1))

  inverse_zero : (x : Point) → x.re + x.im ≡ 0 → inverse x ≡ nothing
  unfolding inverse
  inverse_zero x e = rw (eq-eqb (x.re + x.im) 0 e)

  inverse_some : (x : Point) → (x.re + x.im ≢ 0) → inverse x ≡ turned x
  unfolding inverse
  inverse_some x e = rw (ne_eqb (x.re + x.im) 0 e)

  norm_under : (a b : ℕ) → norm a b ≤ (a + b) * (a + b)
  norm_under a b = poly (a ∷ b ∷ []) (search read depth 40 fits 20000) refl

  norm_over : (a b : ℕ) → (a + b) * (a + b) ≤ 2 * norm a b
  norm_over a b = from (a ∷ b ∷ []) (two_sq a b) (search read depth 40 fits 20000) refl

  regroup : (a b u : ℕ) → (a * u + b * u) * u ≡ (a + b) * u * u
  regroup a b u = omega arith

  turned_range : (k₀ k : ℕ) (x r : Complex) → Range k₀ k (size x) → Near parts 6 (inverse (value x)) (value r) → Range k₀ (k + 13) (size r)
  turned_range k₀ k x r (inl e) h = inl (no_size (size r) 1 0 unit (lit≤ tt) refl (near_size parts 6 nothing (value r) parts_pos (lit≤ tt) (rw (inverse_zero (value x) e) at h)).1)
  turned_range k₀ k x r (inr g) h =
      let s = some_size (size x) unit (reach (k - k₀)) unit_pos g.1.0 in
      let n = near_size parts 6 (turned (value x)) (value r) parts_pos (lit≤ tt) (rw (inverse_some (value x) (λ e. omega arith)) at h) in
      inr (
        omega arith,
        further k₀ k 13 (reach (k - k₀) * 4) 4 (size r) g.0 (le_refl (reach (k - k₀) * 4)) (lit≤ tt)
            (size_turned unit (reach (k - k₀)) (size x) unit_pos g.1.0 g.1.1 (size r) (norm (units_of x.re) (units_of x.im)) s
            (norm_under (units_of x.re) (units_of x.im)) (norm_over (units_of x.re) (units_of x.im))
            (rw (← regroup (units_of x.re) (units_of x.im) unit) n.0) (rw (← regroup (units_of x.re) (units_of x.im) unit) n.1)),
      )

  scaled_range : (k₀ k p q : ℕ) (x r : Complex) → Wide p q → Range k₀ k (size x) → Near parts 4 (times p q (value x)) (value r) → Range k₀ (k + 8) (size r)
  scaled_range k₀ k p q x r wide g h = go g (cancel_scale (units_of x.re) (units_of x.im) p q (size r) unit unit_pos (near_size parts 4 (times p q (value x)) (value r) parts_pos (lit≤ tt) h))
    where
      go : Range k₀ k (size x) → (size x * p ≤ 2 * (size r * q)) × (size r * q ≤ 2 * (size x * p)) → Range k₀ (k + 8) (size r)
      go (inl e) n = inl (no_size (size r) q (size x) p wide.under e n.1)
      go (inr g) n =
          inr (
            omega arith,
            further k₀ k 8 (reach (k - k₀) * 2 ^ 40) (2 ^ 40) (size r) g.0 (le_refl (reach (k - k₀) * 2 ^ 40)) (lit≤ tt)
                (size_scaled unit (reach (k - k₀)) (size x) unit_pos g.1.0 g.1.1 (size r) p q wide n.0 n.1),
          )

  module _ (k₀ limit : ℕ) (small : w + 5 * (limit + 1 - k₀) ≤ 500) where
    good_add : (k : ℕ) (x y : Complex) → k ≤ limit → Good k₀ k x → Good k₀ k y → Near parts 2 (sum (value x) (value y)) (value (added x y)) × Good k₀ (k + 4) (added x y)
    good_add k x y l g h =
        let j = joint k₀ k (size x) (size y) g.range h.range in
        let f = fair_add x y g.fine h.fine (doubled k₀ k (size x + size y) (omega arith) j) in (
          f.0,
          record {
            fine = f.1;
            range =
                copied k₀ k (size x + size y) (size (added x y)) j
                (cancel_sum (units_of x.re) (units_of y.re) (units_of x.im) (units_of y.im) (size (added x y)) unit unit_pos (near_size parts 2 (sum (value x) (value y)) (value (added x y)) parts_pos (lit≤ tt) f.0));
          },
        )

    good_inverse : (k : ℕ) (x : Complex) → k ≤ limit → Good k₀ k x → Near parts 6 (inverse (value x)) (value (inverted x)) × Good k₀ (k + 13) (inverted x)
    good_inverse k x l g =
        let f = fair_inverse x g.fine (good_sized span k₀ k x (reach_span (k - k₀) (omega arith)) g) in (f.0, record { fine = f.1; range = turned_range k₀ k x (inverted x) g.range f.0 })

    good_scale : (k p q : ℕ) (x : Complex) → Wide p q → k ≤ limit → Good k₀ k x → Near parts 4 (times p q (value x)) (value (scaled p q x)) × Good k₀ (k + 8) (scaled p q x)
    good_scale k p q x wide l g =
        let f = fair_scale x g.fine p q wide.over wide.under wide.over_most wide.under_most (good_sized span k₀ k x (reach_span (k - k₀) (omega arith)) g) in
        (f.0, record { fine = f.1; range = scaled_range k₀ k p q x (scaled p q x) wide g.range f.0 })

    pub doubles_near_steps : NearSteps doubles value (Good k₀) Factor parts limit 2 6 4 1
    doubles_near_steps = record {
      positive = λ p h. h.0;
      good_more = good_more k₀;
      fair_none = (
        record { left = omega arith; right = unit_pos; close = rw nought_units (omega arith) },
        record { fine = record { re = rw nought_units nought_is; im = rw nought_units nought_is }; range = inl (rw nought_units refl) },
      );
      fair_empty = λ k x l g. fair_empty x g.fine (good_sized span k₀ k x (reach_span (k - k₀) (omega arith)) g);
      fair_add = good_add;
      fair_inverse = good_inverse;
      fair_scale = λ k p q x hp hq l g. good_scale k p q x (factors_wide p q hp hq) l g;
    }

-- F64 KEEPS THE RULES OF NEARNESS for a further cost of 50, from numbers that are 0 or from 2 ^ -200 to 2 ^ 200
pub f64_rules : (k : ℕ) → k ≤ 1000000 → Rules exact doubles (NearTo value (Good 200 k) parts) Factor (k + 50) 4 13 8
f64_rules k l = near_steps_rules doubles value (Good 200 k) Factor parts (k + 50) 2 6 4 1 (omega arith) (omega arith) (omega arith) products (doubles_near_steps 200 k (k + 50) (omega arith))
  where
    products : 2 * ((k + 50) * (k + 50 + 1)) ≤ 1 * parts
    products = let p : k + 50 ≤ 1000050 = omega arith in let q : k + 50 + 1 ≤ 1000051 = omega arith in omega (arith, mul-le-mul p q)

-- and for a scaling by wider numbers
pub wide_near : (k p q : ℕ) (x : Point) (z : Complex) → Wide p q → k ≤ 50 → NearTo value (Good 200 0) parts k x z → NearTo value (Good 200 0) parts (k + 8) (times p q x) (scaled p q z)
wide_near k p q x z wide l h =
    let g = good_scale 200 0 50 (omega arith) k p q z wide l h.1 in
    (near_scaled parts k 4 p q x (value z) _ (omega arith) (omega arith) wide.under h.0 g.0, g.1)
