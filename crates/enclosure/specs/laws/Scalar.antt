-- How near an f64 is to an exact fraction that is not negative, after products and quotients, and after products of many factors with a
-- floor. Counted in parts of 2 ^ 30: a share needs no finer ones, and whole bounds of every rounding are then small numbers.
-- Assumes nothing.
use Rattle.std.specs.Prelude.{◌≡◌, ℕ, zero, suc, ◌+◌, ◌-◌, ◌*◌, ◌^◌, ◌<◌, ◌≤◌, Bool, true, false, cond, ◌⊎◌, [], ◌∷◌, refl, Float}
use Rattle.std.proofs.Common.{sym, inl, inr, arith, le_refl, le_trans, le_of_eq, mul-le-mul, mul-pos, mul_comm, lit≤, le→leb}
use Rattle.std.proofs.Math.Logic.{⊎_elim}
use Rattle.std.specs.Float.Ieee.{binary64, of_bits, mul, div, le}
use Rattle.algebra.specs.Polynomial.{le_or_le}
use Rattle.algebra.specs.Reading.{identity, from, from_over, read, ◌⊹◌, ◌⋆◌}
use Rattle.enclosure.specs.Exact.{Point, norm}
use Rattle.enclosure.specs.Fraction.{Fraction, whole, product, quotient, size_square}
use Rattle.enclosure.specs.laws.Close.{Within, size_low, size_high}
use Rattle.enclosure.specs.laws.Nearness.{Near}
use Rattle.enclosure.specs.declared.Complex.{Complex}
use Rattle.enclosure.specs.laws.Rounding.{Rounds}
use Rattle.enclosure.specs.laws.Units.{unit, most, span, unit_pos, Is, units_of, units_is, Rounded, mul_rounds, div_rounds, ratio_rounds, square_rounds}
use Rattle.enclosure.specs.laws.StepErrors.{parts}
use Rattle.enclosure.specs.Doubles.{square, squared, ratio, nought, unity, faintest, floored}
use Rattle.enclosure.specs.laws.F64Errors.{value, size, Fine, sq, near_square}
use Rattle.enclosure.specs.laws.WholeBounds.{le_units, nle_units}

abbrev pub grain : ℕ
grain = 1073741824

-- ---- x is X up to δ parts in 2 ^ 30
pub record About (δ : ℕ) (X : Fraction) (x : Float) : Type 0 where
  pub proper : 0 < X.under
  pub is : Is x (units_of x)
  pub close : Within grain δ 0 (X.top * unit) (units_of x * X.under)

-- ---- laws of Within without a fixed part
module _ (M : ℕ) where
  within_more : (j k A a : ℕ) → j ≤ k → Within M j 0 A a → Within M k 0 A a
  within_more j k A a l h = (
    from (M ∷ j ∷ k ∷ A ∷ a ∷ []) (h.0 ⊹ A ⋆ l) (search read depth 40 fits 20000) refl,
    from (M ∷ j ∷ k ∷ A ∷ a ∷ []) (h.1 ⊹ A ⋆ l) (search read depth 40 fits 20000) refl,
  )

  within_by : (k c A a : ℕ) → Within M k 0 A a → Within M k 0 (c * A) (c * a)
  within_by k c A a h = (
    from (M ∷ k ∷ c ∷ A ∷ a ∷ []) (c ⋆ h.0) (search read depth 40 fits 20000) refl,
    from (M ∷ k ∷ c ∷ A ∷ a ∷ []) (c ⋆ h.1) (search read depth 40 fits 20000) refl,
  )

  within_over : (k c A a : ℕ) → 0 < c → Within M k 0 (c * A) (c * a) → Within M k 0 A a
  within_over k c A a z h = (
    from_over (M ∷ k ∷ c ∷ A ∷ a ∷ []) c z h.0 (search read depth 40 fits 20000) refl,
    from_over (M ∷ k ∷ c ∷ A ∷ a ∷ []) c z h.1 (search read depth 40 fits 20000) refl,
  )

  within_eq : (k : ℕ) {A a A' a' : ℕ} → A ≡ A' → a ≡ a' → Within M k 0 A a → Within M k 0 A' a'
  within_eq k p q h = rw (← p, ← q) h

  module _ (z : 0 < M) (j k : ℕ) (l : j * k ≤ M) where
    -- two steps, then two factors
    within_trans : (A a b : ℕ) → Within M j 0 A a → Within M k 0 a b → Within M (j + k + 1) 0 A b
    within_trans A a b h g = (
      from_over (M ∷ j ∷ k ∷ A ∷ a ∷ b ∷ []) M z (M ⋆ g.0 ⊹ (M + k) ⋆ h.0 ⊹ A ⋆ l) (search read depth 40 fits 20000) refl,
      from_over (M ∷ j ∷ k ∷ A ∷ a ∷ b ∷ []) M z (M ⋆ h.1 ⊹ M ⋆ g.1 ⊹ k ⋆ h.0 ⊹ A ⋆ l) (search read depth 40 fits 20000) refl,
    )

    within_product : (A a B b : ℕ) → Within M j 0 A a → Within M k 0 B b → Within M (j + k + 1) 0 (A * B) (a * b)
    within_product A a B b h g = (
      from_over (M ∷ j ∷ k ∷ A ∷ a ∷ B ∷ b ∷ []) M z (mul-le-mul h.0 g.0 ⊹ A * B ⋆ l) (search read depth 40 fits 20000) refl,
      from_over (M ∷ j ∷ k ∷ A ∷ a ∷ B ∷ b ∷ []) M z (M * B ⋆ h.1 ⊹ M * a ⋆ g.1 ⊹ k * B ⋆ h.0 ⊹ A * B ⋆ l) (search read depth 40 fits 20000) refl,
    )

  -- and a quotient, A/B against a/b
  within_quotient : (j k A a B b : ℕ) → 0 < M → 2 * k ≤ M → 2 * (k * (j + k)) ≤ M → Within M j 0 A a → Within M k 0 B b → Within M (j + k + 1) 0 (A * b) (a * B)
  within_quotient j k A a B b z w l h g = (
    from_over (M ∷ j ∷ k ∷ A ∷ a ∷ B ∷ b ∷ []) M z
        (M * B ⋆ h.0 ⊹ M * A ⋆ g.1 ⊹ (j + k) * A ⋆ g.1 ⊹ k * (j + k) * A ⋆ twice ⊹ A * b ⋆ l) (search read depth 40 fits 20000) refl,
    from_over (M ∷ j ∷ k ∷ A ∷ a ∷ B ∷ b ∷ []) M z
        (M * b ⋆ h.1 ⊹ M * a ⋆ g.0 ⊹ k * B ⋆ h.0 ⊹ k * A ⋆ g.1 ⊹ k * (j + k) * A ⋆ twice ⊹ A * b ⋆ l) (search read depth 40 fits 20000) refl,
  )
    where
      twice : B ≤ 2 * b
      twice = from_over (M ∷ k ∷ B ∷ b ∷ []) M z (2 ⋆ g.1 ⊹ B ⋆ w) (search read depth 40 fits 20000) refl

-- one rounding is one part where nothing is lost at the low end of f64
rounds_within : (g n c : ℕ) → Rounds g n c → grain * c ≤ n → Within grain 1 0 n (g * c)
rounds_within g n c h l = (omega (arith, h.0), omega (arith, h.1))

-- ---- products of errors stay below one part where the errors together are at most 2 ^ 12
parts_product : (j k : ℕ) → j + k ≤ 4096 → j * k ≤ grain
parts_product j k l = let h : j ≤ 4096 = omega arith in let g : k ≤ 4096 = omega arith in le_trans (mul-le-mul h g) (lit≤ tt)

parts_quotient : (j k : ℕ) → j + k ≤ 4096 → 2 * (k * (j + k)) ≤ grain
parts_quotient j k l = let g : k ≤ 4096 = omega arith in le_trans (2 ⋆ mul-le-mul g l) (lit≤ tt)

-- ---- A PRODUCT adds 3. Over plain numbers w and v are the factors and g the product, in the smallest, u of which are 1
product_about : (j k a c b d w v g u : ℕ) → 0 < u → j + k ≤ 4096 → Within grain j 0 (a * u) (w * c) → Within grain k 0 (b * u) (v * d) → Within grain 1 0 (w * v) (g * u)
    → Within grain (j + k + 3) 0 (a * b * u) (g * (c * d))
product_about j k a c b d w v g u z l h i r =
    within_more grain (j + k + 1 + 1 + 1) (j + k + 3) _ _ (omega arith)
    (within_over grain (j + k + 1 + 1 + 1) u (a * b * u) (g * (c * d)) z
    (within_eq grain (j + k + 1 + 1 + 1) {a = c * d * (g * u)} (identity (a ∷ b ∷ u ∷ []) (search read depth 40 fits 20000) refl) (identity (g ∷ c ∷ d ∷ u ∷ []) (search read depth 40 fits 20000) refl)
    (within_trans grain (lit≤ tt) (j + k + 1) 1 (omega arith) (a * u * (b * u)) (c * d * (w * v)) (c * d * (g * u))
    (within_eq grain (j + k + 1) refl (identity (w ∷ c ∷ v ∷ d ∷ []) (search read depth 40 fits 20000) refl) (within_product grain (lit≤ tt) j k (parts_product j k l) (a * u) (w * c) (b * u) (v * d) h i))
    (within_by grain 1 (c * d) (w * v) (g * u) r))))

pub about_mul : (j k : ℕ) (X Y : Fraction) (x y : Float) → j + k ≤ 4096 → grain * unit ≤ units_of x * units_of y → units_of x * units_of y ≤ unit * unit * most → About j X x → About k Y y
    → About (j + k + 3) (product X Y) (mul binary64 x y)
about_mul j k X Y x y l lo hi h i =
    let r = mul_rounds x y _ _ h.is i.is hi in
    record {
      proper = mul-pos h.proper i.proper;
      is = r.is;
      close =
          product_about j k X.top X.under Y.top Y.under (units_of x) (units_of y) (units_of (mul binary64 x y)) unit unit_pos l h.close i.close
          (rounds_within _ _ unit r.law lo);
    }

-- ---- A QUOTIENT adds 3
quotient_about : (j k a c b d w v g u : ℕ) → 0 < v → j + k ≤ 4096 → Within grain j 0 (a * u) (w * c) → Within grain k 0 (b * u) (v * d) → Within grain 1 0 (w * u) (g * v)
    → Within grain (j + k + 3) 0 (a * d * u) (g * (c * b))
quotient_about j k a c b d w v g u z l h i r =
    within_more grain (j + k + 1 + 1 + 1) (j + k + 3) _ _ (omega arith)
    (within_over grain (j + k + 1 + 1 + 1) v (a * d * u) (g * (c * b)) z
    (within_eq grain (j + k + 1 + 1 + 1) {a = c * b * (g * v)} (identity (a ∷ d ∷ u ∷ v ∷ []) (search read depth 40 fits 20000) refl) (identity (g ∷ c ∷ b ∷ v ∷ []) (search read depth 40 fits 20000) refl)
    (within_trans grain (lit≤ tt) (j + k + 1) 1 (omega arith) (a * u * (v * d)) (c * b * (w * u)) (c * b * (g * v))
    (within_eq grain (j + k + 1) refl (identity (w ∷ c ∷ b ∷ u ∷ []) (search read depth 40 fits 20000) refl)
    (within_quotient grain j k (a * u) (w * c) (b * u) (v * d) (lit≤ tt) (omega arith) (parts_quotient j k l) h i))
    (within_by grain 1 (c * b) (w * u) (g * v) r))))

pub about_div : (j k : ℕ) (X Y : Fraction) (x y : Float) → j + k ≤ 4096 → 0 < Y.top → 0 < units_of y → grain * units_of y ≤ units_of x * unit → units_of x ≤ units_of y * most → About j X x → About k Y y
    → About (j + k + 3) (quotient X Y) (div binary64 x y)
about_div j k X Y x y l t z lo hi h i =
    let r = div_rounds x y _ _ h.is i.is z hi in
    record {
      proper = mul-pos h.proper t;
      is = r.is;
      close =
          quotient_about j k X.top X.under Y.top Y.under (units_of x) (units_of y) (units_of (div binary64 x y)) unit z l h.close i.close
          (rounds_within _ _ (units_of y) r.law lo);
    }

-- ---- |z|² FROM A POINT has 3. P and Q are the squares of the exact point and of the one in f64, brought to one denominator
size_within : (P Q : ℕ) → 4294967296 * 4294967296 * Q ≤ 4294967297 * 4294967297 * P → 4294967296 * 4294967296 * P ≤ 4294967297 * 4294967297 * Q → Within grain 1 0 P Q
size_within P Q h g = (
  from_over (P ∷ Q ∷ []) (4294967296 * 4294967296) (lit≤ tt) (grain ⋆ h) (search read depth 40 fits 20000) refl,
  from_over (P ∷ Q ∷ []) (4294967297 * 4294967297) (lit≤ tt) (grain ⋆ g) (search read depth 40 fits 20000) refl,
)

fine_parts : (k : ℕ) → k ≤ 1000000 → 2 * (k * k) * (4294967297 * 4294967297) ≤ parts * parts
fine_parts k l = from (k ∷ []) (2 * (4294967297 * 4294967297) ⋆ mul-le-mul l l) (search read depth 40 fits 20000) refl

coarse : (N n : ℕ) → Within parts 3 0 N n → Within grain 1 0 N n
coarse N n h = (omega (arith, h.0), omega (arith, h.1))

square_about : (A B D a b s u : ℕ) → 0 < u → Within grain 1 0 (norm (A * u) (B * u)) (norm (a * D) (b * D)) → Within grain 1 0 (norm a b) (s * u) → Within grain 3 0 (norm A B * u) (s * (D * D))
square_about A B D a b s u z h g =
    within_over grain 3 u (norm A B * u) (s * (D * D)) z
    (within_eq grain 3 {a = D * D * (s * u)} (identity (A ∷ B ∷ u ∷ []) (search read depth 40 fits 20000) refl) (identity (D ∷ s ∷ u ∷ []) (search read depth 40 fits 20000) refl)
    (within_trans grain (lit≤ tt) 1 1 (omega arith) (norm (A * u) (B * u)) (D * D * norm a b) (D * D * (s * u))
    (within_eq grain 1 refl (identity (a ∷ b ∷ D ∷ []) (search read depth 40 fits 20000) refl) h) (within_by grain 1 (D * D) (norm a b) (s * u) g)))

pub about_square : (k : ℕ) (x : Point) (z : Complex) → k ≤ 1000000 → Near parts k x (value z) → Fine z → unit ≤ size z * span → size z ≤ unit * span → About 3 (size_square x) (square z)
about_square k x z l h f lo hi =
    record {
      proper = mul-pos h.left h.left;
      is = (sq z f lo hi).is;
      close =
          square_about x.re x.im x.den (units_of z.re) (units_of z.im) (units_of (square z)) unit unit_pos
          (size_within _ _
          (size_low parts k 4294967296 _ _ _ _ (lit≤ tt) (le_trans (2 * (k * k) ⋆ lit≤ tt) (fine_parts k l)) h.close)
          (size_high parts k 4294967296 _ _ _ _ (lit≤ tt) (fine_parts k l) h.close))
          (coarse _ _ (near_square z f lo hi));
    }

-- ---- A PRODUCT WITH A FLOOR. The floor is 2 ^ -120, and `lowest` is that in the smallest
unfoldable pub lowest : ℕ
lowest = 2 ^ 954

lowest_unit : unit ≡ 2 ^ 120 * lowest
unfolding unit lowest
lowest_unit = refl

floor_is : Is faintest lowest
unfolding lowest unit of_bits
floor_is = (refl, refl)

-- what holds of a product of factors up to 1: it is near the exact one, or both are so faint that no figure shows them
pub record Reached (δ : ℕ) (X : Fraction) (v : Float) : Type 0 where
  pub proper : 0 < X.under
  pub most : X.top ≤ X.under
  pub is : Is v (units_of v)
  pub least : unit ≤ units_of v * 2 ^ 120
  pub near : Within grain δ 0 (X.top * unit) (units_of v * X.under) ⊎ ((X.top * 2 ^ 118 ≤ X.under) × (grain * (units_of v * 2 ^ 118) ≤ (grain + δ) * unit))

-- either way it is hardly above 1
about_most : (δ a c w u : ℕ) → 0 < c → a ≤ c → Within grain δ 0 (a * u) (w * c) → grain * w ≤ (grain + δ) * u
about_most δ a c w u z l h = from_over (δ ∷ a ∷ c ∷ w ∷ u ∷ []) c z (h.0 ⊹ (grain + δ) * u ⋆ l) (search read depth 40 fits 20000) refl

faint_most : (δ w u : ℕ) → grain * (w * 2 ^ 118) ≤ (grain + δ) * u → grain * w ≤ (grain + δ) * u
faint_most δ w u h = from (δ ∷ w ∷ u ∷ []) h (search read depth 40 fits 20000) refl

pub reached_most : (δ : ℕ) (X : Fraction) (v : Float) → Reached δ X v → grain * units_of v ≤ (grain + δ) * unit
reached_most δ X v h = ⊎_elim (λ n. about_most δ X.top X.under (units_of v) unit h.proper h.most n) (λ n. faint_most δ (units_of v) unit n.1) h.near

-- ---- one factor more, over plain numbers: a/c was reached, by w, and b/d is the factor, x in f64; g is their product, f the floor
product_most : (j k a c b d w x u : ℕ) → j + k ≤ 4096 → Within grain j 0 (a * u) (w * c) → Within grain k 0 (b * u) (x * d) → a * b * (u * u) ≤ 2 * (w * x * (c * d))
product_most j k a c b d w x u l h i =
    from_over (a ∷ b ∷ c ∷ d ∷ w ∷ x ∷ u ∷ j ∷ k ∷ []) grain (lit≤ tt)
    (2 ⋆ (within_product grain (lit≤ tt) j k (parts_product j k l) (a * u) (w * c) (b * u) (x * d) h i).1 ⊹ a * b * (u * u) ⋆ halved j k l) (search read depth 40 fits 20000) refl
  where
    halved : (j k : ℕ) → j + k ≤ 4096 → 2 * (j + k + 1) ≤ grain
    halved j k l = omega arith

-- at the floor the exact product is faint
clamp_near : (j k a c b d w x g u f : ℕ) → 0 < u → u ≡ 2 ^ 120 * f → Within grain 1 0 (w * x) (g * u) → j + k ≤ 4096 → g ≤ f → Within grain j 0 (a * u) (w * c) → Within grain k 0 (b * u) (x * d)
    → a * b * 2 ^ 118 ≤ c * d
clamp_near j k a c b d w x g u f z e r l le h i =
    from_over (a ∷ b ∷ c ∷ d ∷ w ∷ x ∷ u ∷ g ∷ f ∷ []) (u * u) (mul-pos z z)
    (2 ^ 118 ⋆ product_most j k a c b d w x u l h i ⊹ 2 ^ 119 * (c * d) ⋆ twice (w * x) (g * u) r.1 ⊹ 2 ^ 120 * (u * (c * d)) ⋆ le ⊹ u * (c * d) ⋆ le_of_eq (sym e))
    (search read depth 40 fits 20000) refl
  where
    twice : (n m : ℕ) → grain * n ≤ grain * m + 1 * n + 0 → n ≤ 2 * m
    twice n m h = omega arith

-- a factor up to 1 leaves faint what is faint
still_under : (a c b d : ℕ) → a * 2 ^ 118 ≤ c → b ≤ d → a * b * 2 ^ 118 ≤ c * d
still_under a c b d h k = from (a ∷ b ∷ c ∷ d ∷ []) (b ⋆ h ⊹ c ⋆ k) (search read depth 40 fits 20000) refl

still_faint : (j k w x g u : ℕ) → 0 < u → Within grain 1 0 (w * x) (g * u) → j + k ≤ 4096 → grain * (w * 2 ^ 118) ≤ (grain + j) * u → grain * x ≤ (grain + k) * u
    → grain * (g * 2 ^ 118) ≤ (grain + (j + k + 3)) * u
still_faint j k w x g u z r l h i =
    from_over (w ∷ x ∷ g ∷ u ∷ j ∷ k ∷ []) (grain * grain * u) (mul-pos (lit≤ tt) z)
    (grain * grain * 2 ^ 118 ⋆ r.0 ⊹ (grain + 1) ⋆ mul-le-mul h i ⊹ (grain + 1) * (u * u) ⋆ parts_product j k l ⊹ 2 * u * u * grain ⋆ l) (search read depth 40 fits 20000) refl

-- ---- room in f64
roomy : 2 ^ 149 ≤ unit
unfolding unit
roomy = lit≤ tt

lowest_large : 2 ^ 31 ≤ lowest
unfolding lowest
lowest_large = lit≤ tt

most_large : 4 ≤ most
unfolding most
most_large = lit≤ tt

step_high : (j k w x u m : ℕ) → 4 ≤ m → j + k ≤ 4096 → grain * w ≤ (grain + j) * u → grain * x ≤ (grain + k) * u → w * x ≤ u * u * m
step_high j k w x u m z l h i =
    from_over (j ∷ k ∷ w ∷ x ∷ u ∷ m ∷ []) (grain * grain) (lit≤ tt) (mul-le-mul h i ⊹ u * u ⋆ parts_product j k l ⊹ u * u * grain ⋆ l ⊹ grain * grain * (u * u) ⋆ z) (search read depth 40 fits 20000) refl

-- where f64 would lose digits, the product is below the floor
tiny_rounded : (g n u : ℕ) → 0 < u → Rounds g n u → n ≤ grain * u → g ≤ 2 ^ 31
tiny_rounded g n u z h l = from_over (g ∷ n ∷ u ∷ []) (18014398509481984 * u) (mul-pos (lit≤ tt) z) (h.0 ⊹ 18014398509481986 ⋆ l) (search read depth 40 fits 20000) refl

tiny_faint : (j k a c b d w x u : ℕ) → 0 < u → j + k ≤ 4096 → 2 ^ 149 ≤ u → w * x ≤ grain * u → Within grain j 0 (a * u) (w * c) → Within grain k 0 (b * u) (x * d) → a * b * 2 ^ 118 ≤ c * d
tiny_faint j k a c b d w x u z l r t h i =
    from_over (a ∷ b ∷ c ∷ d ∷ w ∷ x ∷ u ∷ []) (u * u) (mul-pos z z) (2 ^ 118 ⋆ product_most j k a c b d w x u l h i ⊹ 2 ^ 119 * (c * d) ⋆ t ⊹ u * (c * d) ⋆ r) (search read depth 40 fits 20000) refl

-- and the floor is faint itself
floor_faint : (k u f : ℕ) → u ≡ 2 ^ 120 * f → grain * (f * 2 ^ 118) ≤ (grain + k) * u
floor_faint k u f e = from (k ∷ u ∷ f ∷ []) (grain ⋆ le_of_eq (sym e)) (search read depth 40 fits 20000) refl

-- ONE FACTOR MORE adds 3 and its own parts; it may be as small as it likes
module _ (j k : ℕ) (X D : Fraction) (v d : Float) (l : j + k ≤ 4096) (h : Reached j X v) (i : About k D d) (m : D.top ≤ D.under) where
  high : grain * units_of d ≤ (grain + k) * unit
  high = about_most k D.top D.under (units_of d) unit i.proper m i.close

  multiplied : Rounded (mul binary64 v d) (units_of v * units_of d) unit
  multiplied = mul_rounds v d _ _ h.is i.is (step_high j k (units_of v) (units_of d) unit most most_large l (reached_most j X v h) high)

  kept_faint : X.top * 2 ^ 118 ≤ X.under → X.top * D.top * 2 ^ 118 ≤ X.under * D.under
  kept_faint q = still_under X.top X.under D.top D.under q m

  at_floor : X.top * D.top * 2 ^ 118 ≤ X.under * D.under → Reached (j + k + 3) (product X D) faintest
  at_floor q =
      let z = units_is faintest lowest floor_is in
      record {
        proper = mul-pos h.proper i.proper;
        most = mul-le-mul h.most m;
        is = rw z floor_is;
        least = rw z (omega (arith, lowest_unit));
        near = inr (q, rw z (floor_faint (j + k + 3) unit lowest lowest_unit));
      }

  -- where f64 loses no digits
  normal : grain * unit ≤ units_of v * units_of d → (s : Bool) → le (mul binary64 v d) faintest ≡ s → Reached (j + k + 3) (product X D) (cond s faintest (mul binary64 v d))
  normal low true e =
      at_floor
      (⊎_elim
      (λ q.
      clamp_near j k _ _ _ _ (units_of v) (units_of d) _ unit lowest unit_pos lowest_unit (rounds_within _ _ unit multiplied.law low) l (le_units _ _ _ _ multiplied.is floor_is e) q i.close)
      (λ q. kept_faint q.0)
      h.near)
  normal low false e = record {
    proper = mul-pos h.proper i.proper;
    most = mul-le-mul h.most m;
    is = multiplied.is;
    least = omega (arith, lowest_unit, nle_units _ _ _ _ multiplied.is floor_is e);
    near =
        ⊎_elim
        (λ q. inl (product_about j k _ _ _ _ (units_of v) (units_of d) _ unit unit_pos l q i.close (rounds_within _ _ unit multiplied.law low)))
        (λ q. inr (kept_faint q.0, still_faint j k (units_of v) (units_of d) _ unit unit_pos (rounds_within _ _ unit multiplied.law low) l q.1 high))
        h.near;
  }

  -- and where it would
  tiny : units_of v * units_of d ≤ grain * unit → (s : Bool) → le (mul binary64 v d) faintest ≡ s → Reached (j + k + 3) (product X D) (cond s faintest (mul binary64 v d))
  tiny low true e = at_floor (⊎_elim (λ q. tiny_faint j k _ _ _ _ (units_of v) (units_of d) unit unit_pos l roomy low q i.close) (λ q. kept_faint q.0) h.near)
  tiny low false e = absurd (omega (arith, lowest_large, nle_units _ _ _ _ multiplied.is floor_is e, tiny_rounded _ _ unit unit_pos multiplied.law low))

  pub reached_step : Reached (j + k + 3) (product X D) (floored faintest v d)
  unfolding floored
  reached_step =
      ⊎_elim (λ low. normal low (le (mul binary64 v d) faintest) refl) (λ low. tiny low (le (mul binary64 v d) faintest) refl) (le_or_le (grain * unit) (units_of v * units_of d))

-- 1, the product of no factors
unity_is : Is unity unit
unfolding unit of_bits
unity_is = (refl, refl)

pub reached_start : Reached 0 (whole 1) unity
reached_start =
    let z = units_is unity unit unity_is in
    record {
      proper = lit≤ tt;
      most = lit≤ tt;
      is = rw z unity_is;
      least = rw z (omega arith);
      near = inl (rw z (omega arith, omega arith));
    }

-- A RATIO OF WHOLE NUMBERS has 1
pub about_ratio : (p q : ℕ) → 0 < p → 0 < q → p ≤ 2 ^ 53 → q ≤ 2 ^ 53 → About 1 (record { top = p; under = q }) (ratio p q)
about_ratio p q p₀ q₀ lp lq =
    let r = ratio_rounds p q lp lq q₀ in
    record { proper = q₀; is = r.is; close = rounds_within _ _ q r.law (large p q unit p₀ lq roomy) }
  where
    large : (p q u : ℕ) → 0 < p → q ≤ 2 ^ 53 → 2 ^ 149 ≤ u → grain * q ≤ p * u
    large p q u z l h = from (p ∷ q ∷ u ∷ []) (grain ⋆ l ⊹ h ⊹ u ⋆ z) (search read depth 40 fits 20000) refl

pub about_unity : (k : ℕ) → About k (whole 1) unity
about_unity k =
    let z = units_is unity unit unity_is in
    record { proper = lit≤ tt; is = rw z unity_is; close = rw z (omega arith, omega arith) }

pub reached_more : (j k : ℕ) (X : Fraction) (v : Float) → j ≤ k → Reached j X v → Reached k X v
reached_more j k X v l h = record {
  proper = h.proper;
  most = h.most;
  is = h.is;
  least = h.least;
  near = ⊎_elim (λ q. inl (within_more grain j k _ _ l q)) (λ q. inr (q.0, le_trans q.1 (mul-le-mul wider (le_refl unit)))) h.near;
}
  where
    wider : grain + j ≤ grain + k
    wider = omega arith

-- ---- X lies between 1/E and E, from which the room in f64 follows
abbrev pub Span : ℕ → Fraction → Type 0
Span E X = (X.under ≤ E * X.top) × (X.top ≤ E * X.under)

pub span_product : (E F : ℕ) (X Y : Fraction) → Span E X → Span F Y → Span (E * F) (product X Y)
span_product E F X Y h g = (
  from (E ∷ F ∷ X.top ∷ X.under ∷ Y.top ∷ Y.under ∷ []) (mul-le-mul h.0 g.0) (search read depth 40 fits 20000) refl,
  from (E ∷ F ∷ X.top ∷ X.under ∷ Y.top ∷ Y.under ∷ []) (mul-le-mul h.1 g.1) (search read depth 40 fits 20000) refl,
)

units_span : (δ E a c w u : ℕ) → 0 < c → δ ≤ 4096 → Within grain δ 0 (a * u) (w * c) → c ≤ E * a → a ≤ E * c → (u ≤ w * (2 * E)) × (w ≤ 2 * E * u)
units_span δ E a c w u z l h lo hi = (
  from_over (δ ∷ E ∷ a ∷ c ∷ w ∷ u ∷ []) (grain * c) (mul-pos (lit≤ tt) z) (2 * E ⋆ h.1 ⊹ 2 * E * a * u ⋆ l ⊹ 2147475456 * u ⋆ lo) (search read depth 40 fits 20000) refl,
  from_over (δ ∷ E ∷ a ∷ c ∷ w ∷ u ∷ []) (grain * c) (mul-pos (lit≤ tt) z) (h.0 ⊹ a * u ⋆ l ⊹ (grain + 4096) * u ⋆ hi) (search read depth 40 fits 20000) refl,
)

pub about_span : (δ E : ℕ) (X : Fraction) (x : Float) → δ ≤ 4096 → Span E X → About δ X x → (unit ≤ units_of x * (2 * E)) × (units_of x ≤ 2 * E * unit)
about_span δ E X x l s h = units_span δ E X.top X.under (units_of x) unit h.proper l h.close s.0 s.1

vast : 2 ^ 932 ≤ unit
unfolding unit
vast = lit≤ tt

vaster : 2 ^ 902 ≤ most
unfolding most
vaster = lit≤ tt

-- A PRODUCT OF TWO such numbers
pub about_times : (j k E F : ℕ) (X Y : Fraction) (x y : Float) → j + k ≤ 4096 → 0 < E * F → E * F ≤ 2 ^ 900 → Span E X → Span F Y → About j X x → About k Y y → About (j + k + 3) (product X Y) (mul binary64 x y)
about_times j k E F X Y x y l z r s t h i =
    let p = about_span j E X x (omega arith) s h in
    let q = about_span k F Y y (omega arith) t i in
    about_mul j k X Y x y l (low (units_of x) (units_of y) E F unit z r vast p.0 q.0) (high (units_of x) (units_of y) E F unit most r vaster p.1 q.1) h i
  where
    low : (w v E F u : ℕ) → 0 < E * F → E * F ≤ 2 ^ 900 → 2 ^ 932 ≤ u → u ≤ w * (2 * E) → u ≤ v * (2 * F) → grain * u ≤ w * v
    low w v E F u z r b p q = from_over (w ∷ v ∷ E ∷ F ∷ u ∷ []) (4 * (E * F)) (mul-pos (omega arith) z) (mul-le-mul p q ⊹ u ⋆ b ⊹ 4 * grain * u ⋆ r) (search read depth 40 fits 20000) refl

    high : (w v E F u m : ℕ) → E * F ≤ 2 ^ 900 → 2 ^ 902 ≤ m → w ≤ 2 * E * u → v ≤ 2 * F * u → w * v ≤ u * u * m
    high w v E F u m r b p q = from (w ∷ v ∷ E ∷ F ∷ u ∷ m ∷ []) (mul-le-mul p q ⊹ 4 * (u * u) ⋆ r ⊹ u * u ⋆ b) (search read depth 40 fits 20000) refl

-- A floor of 0.0 does nothing to a product above 0
nought_is : Is nought 0
unfolding unit of_bits
nought_is = (refl, refl)

about_some : (δ a c w u : ℕ) → 0 < a → 0 < u → δ ≤ 4096 → Within grain δ 0 (a * u) (w * c) → 0 < w
about_some δ a c zero u p q l h = absurd (none a u δ p q l h.1)
  where
    none : (a u δ : ℕ) → 0 < a → 0 < u → δ ≤ 4096 → grain * (a * u) ≤ grain * (0 * c) + δ * (a * u) + 0 → ⊥
    none a u δ p q l h = absurd (le→leb 1 0 (from (a ∷ u ∷ δ ∷ c ∷ []) (h ⊹ a * u ⋆ l ⊹ (grain - 4096) ⋆ mul-pos p q) (search read depth 40 fits 20000) refl))
about_some δ a c (suc w) u p q l h = omega arith

pub floored_nought : (δ : ℕ) (X : Fraction) (x y : Float) → δ ≤ 4096 → 0 < X.top → About δ X (mul binary64 x y) → floored nought x y ≡ mul binary64 x y
unfolding floored
floored_nought δ X x y l z h = go (le (mul binary64 x y) nought) refl
  where
    go : (s : Bool) → le (mul binary64 x y) nought ≡ s → cond s nought (mul binary64 x y) ≡ mul binary64 x y
    go true e =
        let p = about_some δ X.top X.under (units_of (mul binary64 x y)) unit z unit_pos l h.close in
        absurd (omega (arith, le_units _ _ _ _ h.is nought_is e))
    go false e = refl

span_some : (E a c : ℕ) → 0 < c → c ≤ E * a → 0 < a
span_some E zero c z h = absurd (omega (arith, mul_comm E 0))
span_some E (suc a) c z h = omega arith

pub about_floored : (j k E F : ℕ) (X Y : Fraction) (x y : Float) → j + k + 3 ≤ 4096 → 0 < E * F → E * F ≤ 2 ^ 900 → Span E X → Span F Y → About j X x → About k Y y
    → About (j + k + 3) (product X Y) (floored nought x y)
about_floored j k E F X Y x y l z r s t h i =
    let p = about_times j k E F X Y x y (omega arith) z r s t h i in
    rw (floored_nought (j + k + 3) (product X Y) x y l (mul-pos (span_some E _ _ h.proper s.0) (span_some F _ _ i.proper t.0)) p) p

-- THE SQUARE OF A WHOLE NUMBER has 1
pub about_squared : (n : ℕ) → 0 < n → n ≤ 2 ^ 53 → About 1 (whole (n * n)) (squared n)
about_squared n n₀ l =
    let r = square_rounds n l in
    record { proper = omega arith; is = r.is; close = rounds_within _ _ 1 r.law (large n unit n₀ roomy) }
  where
    large : (n u : ℕ) → 0 < n → 2 ^ 149 ≤ u → grain * 1 ≤ n * n * u
    large n u z h = from (n ∷ u ∷ []) (h ⊹ u ⋆ mul-pos z z) (search read depth 40 fits 20000) refl

pub about_more : (j k : ℕ) (X : Fraction) (x : Float) → j ≤ k → About j X x → About k X x
about_more j k X x l h = record { proper = h.proper; is = h.is; close = within_more grain j k _ _ l h.close }
