-- Sizes of exact points, from above and from below, and the largest admittance that can be seen at a bus.
-- Assumes nothing.
use Rattle.std.specs.Prelude.{ℕ, zero, suc, ◌+◌, ◌*◌, ◌≤◌, ◌<◌, ◌≡◌, refl, Bool, true, false, cond, [], ◌∷◌, ◌⊎◌, ltb}
use Rattle.std.proofs.Common.{sym, inl, inr, arith, mul-suc, le_of_eq}
use Rattle.std.proofs.lemmas.Bool.{eqb-false}
use Rattle.algebra.specs.Polynomial.{two_sq}
use Rattle.algebra.specs.Reading.{from, from_over, read, ◌⊹◌, ◌⋆◌}
use Rattle.enclosure.specs.Exact.{Point, nothing, is_nothing, sum, turned, inverse, exact}
use Rattle.enclosure.specs.laws.Nearness.{Same}
use Rattle.tree.specs.Grid.{joined, neighbour, sum_over, Grid, parent_of, times_square, through, seen_by, seen}
use Rattle.tree.specs.laws.Walk.{neighbour_joined}
use Rattle.tree.specs.laws.Grid.{through_cases}

-- re + im is at most P/Q
abbrev pub AtMost : ℕ → ℕ → Point → Type 0
AtMost Q P x = (x.re + x.im) * Q ≤ P * x.den

-- re + im is at least 2·Q/P: then that of the inverse is at most P/Q
abbrev pub AtLeast : ℕ → ℕ → Point → Type 0
AtLeast Q P x = 2 * (Q * x.den) ≤ P * (x.re + x.im)

-- nothing, or re + im is at least 1/K
abbrev pub Low : ℕ → Point → Type 0
Low K x = (x.re + x.im ≡ 0) ⊎ (x.den ≤ K * (x.re + x.im))

-- ---- from above
-- equal fractions have the same bounds
pub most_same : (Q P : ℕ) (x y : Point) → 0 < x.den → Same x y → AtMost Q P x → AtMost Q P y
most_same Q P x y z s h =
    from_over (Q ∷ P ∷ x.re ∷ x.im ∷ x.den ∷ y.re ∷ y.im ∷ y.den ∷ []) x.den z
    (Q ⋆ le_of_eq (sym s.re) ⊹ Q ⋆ le_of_eq (sym s.im) ⊹ y.den ⋆ h) (search read depth 40 fits 20000) refl

pub least_same : (Q P : ℕ) (x y : Point) → 0 < x.den → Same x y → AtLeast Q P x → AtLeast Q P y
least_same Q P x y z s h =
    from_over (Q ∷ P ∷ x.re ∷ x.im ∷ x.den ∷ y.re ∷ y.im ∷ y.den ∷ []) x.den z
    (y.den ⋆ h ⊹ P ⋆ le_of_eq s.re ⊹ P ⋆ le_of_eq s.im) (search read depth 40 fits 20000) refl

pub most_more : (Q j k : ℕ) (x : Point) → j ≤ k → AtMost Q j x → AtMost Q k x
most_more Q j k x l h = from (Q ∷ j ∷ k ∷ x.re ∷ x.im ∷ x.den ∷ []) (h ⊹ x.den ⋆ l) (search read depth 40 fits 20000) refl

pub most_under : (Q j E : ℕ) (x : Point) → 0 < Q → j ≤ E → AtMost Q j x → x.re + x.im ≤ E * x.den
most_under Q j E x z l h = from (Q ∷ j ∷ E ∷ x.re ∷ x.im ∷ x.den ∷ []) ((x.re + x.im) ⋆ z ⊹ h ⊹ x.den ⋆ l) (search read depth 40 fits 20000) refl

pub most_sum : (Q j k : ℕ) (x y : Point) → AtMost Q j x → AtMost Q k y → AtMost Q (j + k) (sum x y)
most_sum Q j k x y h g = from (Q ∷ j ∷ k ∷ x.re ∷ x.im ∷ x.den ∷ y.re ∷ y.im ∷ y.den ∷ []) (y.den ⋆ h ⊹ x.den ⋆ g) (search read depth 40 fits 20000) refl

most_turned : (Q P : ℕ) (x : Point) → AtLeast Q P x → AtMost Q P (turned x)
most_turned Q P x h =
    halve (from (Q ∷ P ∷ x.re ∷ x.im ∷ x.den ∷ []) ((x.re + x.im) ⋆ h ⊹ P ⋆ two_sq x.re x.im) (search read depth 40 fits 20000) refl)
  where
    halve : 2 * (((turned x).re + (turned x).im) * Q) ≤ 2 * (P * (turned x).den) → AtMost Q P (turned x)
    halve g = omega arith

pub most_inverse : (Q P : ℕ) (x : Point) → AtLeast Q P x → AtMost Q P (inverse x)
unfolding inverse
most_inverse Q P x h = go (is_nothing x)
  where
    go : (s : Bool) → AtMost Q P (cond s nothing (turned x))
    go true = omega arith
    go false = most_turned Q P x h

-- a further impedance in the quadrant does not shorten one
least_sum : (Q P : ℕ) (x y : Point) → AtLeast Q P x → AtLeast Q P (sum x y)
least_sum Q P x y h = from (Q ∷ P ∷ x.re ∷ x.im ∷ x.den ∷ y.re ∷ y.im ∷ y.den ∷ []) (y.den ⋆ h) (search read depth 40 fits 20000) refl

least_square : (Q P p q : ℕ) (x y : Point) → AtLeast Q P (times_square exact p q x) → AtLeast Q P (times_square exact p q (sum x y))
least_square Q P p q x y h = from (Q ∷ P ∷ p ∷ q ∷ x.re ∷ x.im ∷ x.den ∷ y.re ∷ y.im ∷ y.den ∷ []) (y.den ⋆ h) (search read depth 40 fits 20000) refl

-- ---- from below
pub low_more : (K M : ℕ) (x : Point) → K ≤ M → Low K x → Low M x
low_more K M x l (inl e) = inl e
low_more K M x l (inr h) = inr (from (K ∷ M ∷ x.re ∷ x.im ∷ x.den ∷ []) (h ⊹ (x.re + x.im) ⋆ l) (search read depth 40 fits 20000) refl)

none_sum : (a b c d e f : ℕ) → a + b ≡ 0 → c + d ≡ 0 → a * e + c * f + (b * e + d * f) ≡ 0
none_sum zero zero zero zero e f p q = omega arith
none_sum (suc a) b c d e f p q = absurd (omega arith)
none_sum zero (suc b) c d e f p q = absurd (omega arith)
none_sum zero zero (suc c) d e f p q = absurd (omega arith)
none_sum zero zero zero (suc d) e f p q = absurd (omega arith)

pub low_sum : (K : ℕ) (x y : Point) → Low K x → Low K y → Low K (sum x y)
low_sum K x y (inl p) (inl q) = inl (none_sum x.re x.im y.re y.im y.den x.den p q)
low_sum K x y (inr h) q = inr (from (K ∷ x.re ∷ x.im ∷ x.den ∷ y.re ∷ y.im ∷ y.den ∷ []) (y.den ⋆ h) (search read depth 40 fits 20000) refl)
low_sum K x y (inl p) (inr h) = inr (from (K ∷ x.re ∷ x.im ∷ x.den ∷ y.re ∷ y.im ∷ y.den ∷ []) (x.den ⋆ h) (search read depth 40 fits 20000) refl)

pub low_inverse : (K : ℕ) (x : Point) → AtMost 1 K x → Low K (inverse x)
unfolding inverse
low_inverse K x h = go (is_nothing x)
  where
    go : (s : Bool) → Low K (cond s nothing (turned x))
    go true = inl refl
    go false = inr (from (K ∷ x.re ∷ x.im ∷ x.den ∷ []) ((x.re + x.im) ⋆ h) (search read depth 40 fits 20000) refl)

pub inverse_low : (K : ℕ) (x : Point) → is_nothing x ≡ false → Low K x → AtMost 1 (2 * K) (inverse x)
inverse_low K x e (inl p) = absurd (eqb-false (x.re + x.im) 0 e p)
inverse_low K x e (inr h) = most_inverse 1 (2 * K) x (from (K ∷ x.re ∷ x.im ∷ x.den ∷ []) (2 ⋆ h) (search read depth 40 fits 20000) refl)

-- ---- the branch between b and its neighbour i, referred to b
abbrev pub referred : Grid → ℕ → ℕ → Point
referred G b i = cond (ltb i b) (G.branch b).z (times_square exact (G.branch i).above (G.branch i).below (G.branch i).z)

-- |1/(Z + 1/Y)| ≤ 1/|Z|, whatever lies behind the branch
pub through_most : (Q P : ℕ) (G : Grid) (b i : ℕ) (y : Point) → AtLeast Q P (referred G b i) → AtMost Q P (through exact (λ j. (G.branch j).z) G b i y)
through_most Q P G b i y h =
    through_cases exact (λ j. (G.branch j).z) G b i y (AtMost Q P)
    (λ e. omega arith) (λ e d. most_inverse Q P _ (least_sum Q P _ _ (rw d at h))) (λ e d. most_inverse Q P _ (least_square Q P _ _ _ _ (rw d at h)))

over_most : (Q P : ℕ) (joins : ℕ → Bool) (f : ℕ → Point) (x : Point) (k m : ℕ) → AtMost Q k x → ((i : ℕ) → i < m → joins i ≡ true → AtMost Q P (f i))
    → AtMost Q (k + P * m) (sum_over sum joins f x m)
over_most Q P joins f x k zero r h = most_more Q k (k + P * 0) x (omega arith) r
over_most Q P joins f x k (suc m) r h =
    most_more Q (k + P + P * m) _ _ (omega (arith, mul-suc P m)) (over_most Q P joins f (cond (joins m) (sum x (f m)) x) (k + P) m (go (joins m) refl) (λ i l. h i (omega arith)))
  where
    go : (t : Bool) → joins m ≡ t → AtMost Q (k + P) (cond t (sum x (f m)) x)
    go true e = most_sum Q _ _ _ _ r (h m (omega arith) e)
    go false e = most_more Q k (k + P) _ (omega arith) r

-- THE SIZE OF WHAT IS SEEN at a bus: what stands there itself, and P/Q for each bus
pub seen_most_law : (G : Grid) (b Q S P : ℕ) → AtMost Q S (G.own b) → ((i : ℕ) → i < G.count → joined (parent_of G) b i ≡ true → AtLeast Q P (referred G b i))
    → (w : ℕ) → AtMost Q (S + P * G.count) (seen G b w)
unfolding seen
seen_most_law G b Q S P ho hz w = go (2 * G.count + 1)
  where
    go : (fuel : ℕ) → AtMost Q (S + P * G.count) (seen_by exact (λ i. (G.branch i).z) G.own G fuel b w)
    go zero = most_more Q S _ _ (omega arith) ho
    go (suc f) =
        over_most Q P (neighbour (parent_of G) b w) (λ i. through exact (λ j. (G.branch j).z) G b i (seen_by exact (λ j. (G.branch j).z) G.own G f i b)) (G.own b) S G.count ho
        (λ i m e. through_most Q P G b i _ (hz i m (neighbour_joined (parent_of G) b w i e).0))
