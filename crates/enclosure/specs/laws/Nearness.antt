-- Nearness of a rounded point to an exact one, and rounded calculation that keeps it.
-- Assumes nothing.
use Rattle.std.specs.Prelude.{◌≡◌, ℕ, zero, suc, ◌+◌, ◌*◌, ◌<◌, ◌≤◌, Bool, true, false, cond, [], ◌∷◌, ◌≢◌, refl}
use Rattle.std.proofs.Common.{sym, ◌∙◌, ap, arith, le_refl, mul-le-mul, mul-pos, eqb-true, eq-eqb, ne_eqb}
use Rattle.std.proofs.lemmas.Bool.{eqb-false}
use Rattle.algebra.specs.Reading.{identity, from, read, ◌⊹◌, ◌⋆◌}
use Rattle.algebra.specs.Polynomial.{two_sq}
use Rattle.enclosure.specs.laws.Close.{Close, close_scale, close_unscale, close_more, close_sum, close_invert, close_trans}
use Rattle.enclosure.specs.Exact.{norm, Point, Ops, nothing, is_nothing, sum, times, turned, inverse, exact}

close_eq : (M k : ℕ) {A B a b A' B' a' b' : ℕ} → A ≡ A' → B ≡ B' → a ≡ a' → b ≡ b' → Close M k A B a b → Close M k A' B' a' b'
close_eq M k p q r s h = rw (← p, ← q, ← r, ← s) h

-- y is within k parts in M of x
pub record Near (M k : ℕ) (x y : Point) : Type 0 where
  pub left : 0 < x.den
  pub right : 0 < y.den
  pub close : Close M k (x.re * y.den) (x.im * y.den) (y.re * x.den) (y.im * x.den)

pub near_more : (M j k : ℕ) (x y : Point) → j ≤ k → Near M j x y → Near M k x y
near_more M j k x y l h = record { left = h.left; right = h.right; close = close_more M j k _ _ _ _ l h.close }

-- ---- sum
cross : (r d e r' d' e' : ℕ) → d' * e' * (r * e) + d * e * (r' * e') ≡ (r * d' + r' * d) * (e * e')
cross r d e r' d' e' = identity (r ∷ d ∷ e ∷ r' ∷ d' ∷ e' ∷ []) (search read depth 40 fits 20000) refl

cross' : (r d e r' d' e' : ℕ) → d' * e' * (r * d) + d * e * (r' * d') ≡ (r * e' + r' * e) * (d * d')
cross' r d e r' d' e' = identity (r ∷ d ∷ e ∷ r' ∷ d' ∷ e' ∷ []) (search read depth 40 fits 20000) refl

pub near_sum : (M k : ℕ) (x x' y y' : Point) → Near M k x y → Near M k x' y' → Near M k (sum x x') (sum y y')
near_sum M k x x' y y' h h' =
    record {
      left = mul-pos h.left h'.left;
      right = mul-pos h.right h'.right;
      close =
          close_eq M k
          (cross x.re x.den y.den x'.re x'.den y'.den) (cross x.im x.den y.den x'.im x'.den y'.den)
          (cross' y.re x.den y.den y'.re x'.den y'.den) (cross' y.im x.den y.den y'.im x'.den y'.den)
          (close_sum M k _ _ _ _ _ _ _ _ (close_scale M k (x'.den * y'.den) _ _ _ _ h.close) (close_scale M k (x.den * y.den) _ _ _ _ h'.close));
    }

-- ---- p/q
scaled : (r e p q : ℕ) → p * q * (r * e) ≡ r * p * (e * q)
scaled r e p q = identity (r ∷ e ∷ p ∷ q ∷ []) (search read depth 40 fits 20000) refl

pub near_times : (M k p q : ℕ) (x y : Point) → 0 < q → Near M k x y → Near M k (times p q x) (times p q y)
near_times M k p q x y z h =
    record {
      left = mul-pos h.left z;
      right = mul-pos h.right z;
      close = close_eq M k (scaled x.re y.den p q) (scaled x.im y.den p q) (scaled y.re x.den p q) (scaled y.im x.den p q) (close_scale M k (p * q) _ _ _ _ h.close);
    }

-- ---- inverse
turn : (r d e s t : ℕ) → r * e * norm (s * d) (t * d) ≡ e * d * (r * d * norm s t)
turn r d e s t = identity (r ∷ d ∷ e ∷ s ∷ t ∷ []) (search read depth 40 fits 20000) refl

turn' : (r d e s t : ℕ) → r * d * norm (s * e) (t * e) ≡ e * d * (r * e * norm s t)
turn' r d e s t = identity (r ∷ d ∷ e ∷ s ∷ t ∷ []) (search read depth 40 fits 20000) refl

near_turned : (M k c : ℕ) (x y : Point) → 0 < M → 0 < c → 2 * (k * (k + c)) ≤ c * M → 0 < norm x.re x.im → 0 < norm y.re y.im → Near M k x y
    → Near M (k + c) (turned x) (turned y)
near_turned M k c x y z w l p q h =
    record {
      left = p;
      right = q;
      close =
          close_unscale M (k + c) (y.den * x.den) _ _ _ _ (mul-pos h.right h.left)
          (close_eq M (k + c)
          (turn x.re x.den y.den y.re y.im) (turn x.im x.den y.den y.re y.im)
          (turn' y.re x.den y.den x.re x.im) (turn' y.im x.den y.den x.re x.im)
          (close_invert M k c (x.re * y.den) (x.im * y.den) (y.re * x.den) (y.im * x.den) z w l h.close));
    }

-- ---- nothing is near nothing alone
sq_zero : (c a b : ℕ) → 0 < c → c * (a * a + b * b) ≤ 0 → a + b ≡ 0
sq_zero zero zero (suc b) z h = elim z [ ]
sq_zero zero (suc a) b z h = elim z [ ]
sq_zero c zero zero z h = refl
sq_zero (suc c) zero (suc b) z h = absurd (omega arith)
sq_zero (suc c) (suc a) zero z h = absurd (omega arith)
sq_zero (suc c) (suc a) (suc b) z h = absurd (omega arith)

-- a + b is 0 where A + B is
zero_right : (M k A B a b : ℕ) → 0 < M → A + B ≡ 0 → Close M k A B a b → a + b ≡ 0
zero_right M k A B a b z e h =
    let p : A ≡ 0 = omega arith in
    let q : B ≡ 0 = omega arith in
    sq_zero (M * M) a b (mul-pos z z) (from (M ∷ k ∷ a ∷ b ∷ []) (rw (p, q) at h) (search read depth 40 fits 20000) refl)

zero_left : (M k A B a b : ℕ) → 0 < M → 2 * k ≤ M → a + b ≡ 0 → Close M k A B a b → A + B ≡ 0
zero_left M k A B a b z l e h =
    let p : a ≡ 0 = omega arith in
    let q : b ≡ 0 = omega arith in
    sq_zero (2 * (M * M)) A B (mul-pos (omega arith) (mul-pos z z))
    (from (M ∷ k ∷ A ∷ B ∷ []) (4 ⋆ (rw (p, q) at h) ⊹ (A + B) * (A + B) ⋆ mul-le-mul l l ⊹ M * M ⋆ two_sq A B) (search read depth 40 fits 20000) refl)

pub spread : (c r i : ℕ) → r + i ≡ 0 → r * c + i * c ≡ 0
spread c r i h = let p : r ≡ 0 = omega arith in let q : i ≡ 0 = omega arith in rw (p, q) (omega arith)

gathered : (c r i : ℕ) → 0 < c → r * c + i * c ≡ 0 → r + i ≡ 0
gathered zero r i z h = elim z [ ]
gathered (suc c) r i z h = omega arith

pub near_nothing : (M k : ℕ) (x y : Point) → 0 < M → 2 * k ≤ M → Near M k x y → is_nothing x ≡ is_nothing y
near_nothing M k x y z l h = go (is_nothing x) refl
  where
    go : (s : Bool) → is_nothing x ≡ s → is_nothing x ≡ is_nothing y
    go true e = e ∙ sym (eq-eqb (y.re + y.im) 0 (gathered x.den _ _ h.left (zero_right M k _ _ _ _ z (spread y.den _ _ (eqb-true (x.re + x.im) 0 e)) h.close)))
    go false e =
        e
        ∙ sym
        (ne_eqb (y.re + y.im) 0
        (λ q. eqb-false (x.re + x.im) 0 e (gathered y.den _ _ h.right (zero_left M k _ _ _ _ z l (spread x.den _ _ q) h.close))))

pub norm_pos : (a b : ℕ) → (a + b ≢ 0) → 0 < norm a b
norm_pos zero zero h = absurd (h refl)
norm_pos zero (suc b) h = omega arith
norm_pos (suc a) b h = omega arith

nothing_near : (M k : ℕ) → Near M k nothing nothing
nothing_near M k = record { left = omega arith; right = omega arith; close = omega arith }

pub near_inverse : (M k c : ℕ) (x y : Point) → 0 < M → 0 < c → 2 * k ≤ M → 2 * (k * (k + c)) ≤ c * M → Near M k x y → Near M (k + c) (inverse x) (inverse y)
unfolding inverse
near_inverse M k c x y z w d l h = go (is_nothing x) (is_nothing y) refl refl (near_nothing M k x y z d h)
  where
    go : (s t : Bool) → is_nothing x ≡ s → is_nothing y ≡ t → is_nothing x ≡ is_nothing y → Near M (k + c) (cond s nothing (turned x)) (cond t nothing (turned y))
    go true true p q e = nothing_near M (k + c)
    go true false p q e = let c : ◌≡◌ {A = ℕ} 0 1 = cc in absurd (omega arith)
    go false true p q e = let c : ◌≡◌ {A = ℕ} 0 1 = cc in absurd (omega arith)
    go false false p q e = near_turned M k c x y z w l (norm_pos _ _ (eqb-false (x.re + x.im) 0 p)) (norm_pos _ _ (eqb-false (y.re + y.im) 0 q)) h

-- ---- the triangle rule
third : (r d e : ℕ) → e * (r * d) ≡ d * (r * e)
third r d e = identity (r ∷ d ∷ e ∷ []) (search read depth 40 fits 20000) refl

pub near_trans : (M k s : ℕ) (x y y' : Point) → 0 < M → 4 * k ≤ M → Near M k x y → Near M s y y' → Near M (k + 2 * s) x y'
near_trans M k s x y y' z l h g =
    record {
      left = h.left;
      right = g.right;
      close =
          close_unscale M (k + 2 * s) y.den _ _ _ _ h.right
          (close_eq M (k + 2 * s) (third x.re y.den y'.den) (third x.im y.den y'.den) (third y'.re y.den x.den) (third y'.im y.den x.den)
          (close_trans M k s (y'.den * (x.re * y.den)) (y'.den * (x.im * y.den)) (y'.den * (y.re * x.den)) (y'.den * (y.im * x.den)) (x.den * (y'.re * y.den)) (x.den * (y'.im * y.den)) z l
          (close_scale M k y'.den _ _ _ _ h.close)
          (close_eq M s (third y.re y'.den x.den) (third y.im y'.den x.den) refl refl (close_scale M s x.den _ _ _ _ g.close))));
    }

-- ---- equal as fractions
pub record Same (x y : Point) : Type 0 where
  pub re : x.re * y.den ≡ y.re * x.den
  pub im : x.im * y.den ≡ y.im * x.den

crossed : (r d s e f : ℕ) → r * e ≡ s * d → e * (r * f) ≡ d * (s * f)
crossed r d s e f h = identity (r ∷ e ∷ f ∷ []) (search read depth 40 fits 20000) refl ∙ ap (λ (n : ℕ). n * f) h ∙ identity (s ∷ d ∷ f ∷ []) (search read depth 40 fits 20000) refl

-- what is near a point is near its equals
pub near_same : (M k : ℕ) (x y z : Point) → 0 < y.den → Same x y → Near M k x z → Near M k y z
near_same M k x y z p s h = record {
  left = p;
  right = h.right;
  close =
      close_unscale M k x.den _ _ _ _ h.left
      (close_eq M k
      (crossed x.re x.den y.re y.den z.den s.re) (crossed x.im x.den y.im y.den z.den s.im)
      (third z.re x.den y.den) (third z.im x.den y.den)
      (close_scale M k y.den _ _ _ _ h.close));
}

-- ---- what rounded numbers promise: R k x y says that y is within k of x; a, v and s are what a sum, an inverse and a scaling cost
pub record Rules {A B : Type 0} (o : Ops A) (o' : Ops B) (R : ℕ → A → B → Type 0) (Factor : ℕ → Type 0) (limit a v s : ℕ) : Type 0 where
  pub more : (j k : ℕ) (x : A) (y : B) → j ≤ k → R j x y → R k x y
  pub near_none : R 0 o.none o'.none
  pub near_empty : (k : ℕ) (x : A) (y : B) → k ≤ limit → R k x y → o.empty x ≡ o'.empty y
  pub near_add : (k : ℕ) (x x' : A) (y y' : B) → k ≤ limit → R k x y → R k x' y' → R (k + a) (o.add x x') (o'.add y y')
  pub near_inverse : (k : ℕ) (x : A) (y : B) → k ≤ limit → R k x y → R (k + v) (o.inverse x) (o'.inverse y)
  pub near_scale : (k p q : ℕ) (x : A) (y : B) → Factor p → Factor q → k ≤ limit → R k x y → R (k + s) (o.scale p q x) (o'.scale p q y)

-- ---- rounded calculation: each step is within a, v or s of the exact step on the same numbers, and c is what an exact inverse costs.
-- Good k y is what the numbers need besides, as an exponent in its range, after a cost of k
pub record NearSteps {B : Type 0} (o : Ops B) (value : B → Point) (Good : ℕ → B → Type 0) (Factor : ℕ → Type 0) (M limit a v s c : ℕ) : Type 0 where
  pub positive : (p : ℕ) → Factor p → 0 < p
  pub good_more : (j k : ℕ) (x : B) → j ≤ k → Good j x → Good k x
  pub fair_none : Near M 0 nothing (value o.none) × Good 0 o.none
  pub fair_empty : (k : ℕ) (x : B) → k ≤ limit → Good k x → o.empty x ≡ is_nothing (value x)
  pub fair_add : (k : ℕ) (x y : B) → k ≤ limit → Good k x → Good k y → Near M a (sum (value x) (value y)) (value (o.add x y)) × Good (k + 2 * a) (o.add x y)
  pub fair_inverse : (k : ℕ) (x : B) → k ≤ limit → Good k x → Near M v (inverse (value x)) (value (o.inverse x)) × Good (k + (c + 2 * v)) (o.inverse x)
  pub fair_scale : (k p q : ℕ) (x : B) → Factor p → Factor q → k ≤ limit → Good k x → Near M s (times p q (value x)) (value (o.scale p q x)) × Good (k + 2 * s) (o.scale p q x)

abbrev pub NearTo : {B : Type 0} → (B → Point) → (ℕ → B → Type 0) → ℕ → ℕ → Point → B → Type 0
NearTo value Good M k x y = Near M k x (value y) × Good k y

-- a scaling, rounded: what is near x, scaled, to what is near that
pub near_scaled : (M k s p q : ℕ) (x y y' : Point) → 0 < M → 4 * k ≤ M → 0 < q → Near M k x y → Near M s (times p q y) y' → Near M (k + 2 * s) (times p q x) y'
near_scaled M k s p q x y y' z l d h g = near_trans M k s _ _ _ z l (near_times M k p q x y d h) g

pub near_steps_rules : {B : Type 0} (o : Ops B) (value : B → Point) (Good : ℕ → B → Type 0) (Factor : ℕ → Type 0) (M limit a v s c : ℕ) → 0 < M → 0 < c
    → 4 * (limit + c) ≤ M → 2 * (limit * (limit + c)) ≤ c * M → NearSteps o value Good Factor M limit a v s c → Rules exact o (NearTo value Good M) Factor limit (2 * a) (c + 2 * v) (2 * s)
near_steps_rules o value Good Factor M limit a v s c z w l₁ l₂ f =
    record {
      more = λ j k x y l h. (near_more M j k x (value y) l h.0, f.good_more j k y l h.1);
      near_none = f.fair_none;
      near_empty = λ k x y l h. near_nothing M k x (value y) z (omega arith) h.0 ∙ sym (f.fair_empty k y l h.1);
      near_add = λ k x x' y y' l h h'.
          let g = f.fair_add k y y' l h.1 h'.1 in
          (near_trans M k a _ _ _ z (omega arith) (near_sum M k x x' (value y) (value y') h.0 h'.0) g.0, g.1);
      near_inverse = λ k x y l h.
          let g = f.fair_inverse k y l h.1 in (
            near_more M (k + c + 2 * v) (k + (c + 2 * v)) _ _ (omega arith)
                (near_trans M (k + c) v _ _ _ z (omega arith) (near_inverse M k c x (value y) z w (omega arith) (fits k l) h.0) g.0),
            g.1,
          );
      near_scale = λ k p q x y hp hq l h.
          let g = f.fair_scale k p q y hp hq l h.1 in
          (near_scaled M k s p q x (value y) _ z (omega arith) (f.positive q hq) h.0 g.0, g.1);
    }
  where
    fits : (k : ℕ) → k ≤ limit → 2 * (k * (k + c)) ≤ c * M
    fits k l = let m : k * (k + c) ≤ limit * (limit + c) = mul-le-mul l (omega arith) in omega arith

-- ---- the exact numbers are fair, at no cost: the rules ask for nothing that cannot be had
near_refl : (M : ℕ) (x : Point) → 0 < x.den → Near M 0 x x
near_refl M x h =
    record {
      left = h;
      right = h;
      close = from (M ∷ x.re ∷ x.im ∷ x.den ∷ []) (le_refl 0) (search read depth 40 fits 20000) refl;
    }

pub inverse_proper : (x : Point) → 0 < (inverse x).den
unfolding inverse
inverse_proper x = go (is_nothing x) refl
  where
    go : (s : Bool) → is_nothing x ≡ s → 0 < (cond s nothing (turned x)).den
    go true e = omega arith
    go false e = norm_pos x.re x.im (eqb-false (x.re + x.im) 0 e)

pub exact_near_steps : (M limit c : ℕ) → NearSteps exact (λ x. x) (λ k x. 0 < x.den) (λ p. 0 < p) M limit 0 0 0 c
exact_near_steps M limit c =
    record {
      positive = λ p h. h;
      good_more = λ j k x l h. h;
      fair_none = (nothing_near M 0, omega arith);
      fair_empty = λ k x l h. refl;
      fair_add = λ k x y l h g. (near_refl M (sum x y) (mul-pos h g), mul-pos h g);
      fair_inverse = λ k x l h. (near_refl M (inverse x) (inverse_proper x), inverse_proper x);
      fair_scale = λ k p q x hp hq l h. (near_refl M (times p q x) (mul-pos h hq), mul-pos h hq);
    }
