-- Polynomials over ℕ, compared by computing their normal forms: `ring` proves an identity, `poly_le` an order that holds
-- coefficient by coefficient. Both are theorems about every list of values; nothing is assumed.
use Prim.Native.Nat.{compare, Ordering}
use Rattle.std.specs.Prelude.{◌≡◌, refl, List, [], ◌∷◌, Bool, true, false, ◌⊎◌, T, leb, eqb, ℕ, zero, suc, ◌+◌, ◌*◌, ◌-◌, ◌≤◌}
use Rattle.std.proofs.Common.{sym, ◌∙◌, ap, ap₂, subst₂, inl, inr, ⊎_elim, arith, zero-add, add-zero, zero-mul, one-mul, mul-zero, mul-one, add_assoc, add_comm, mul-add, add-mul, mul_assoc, mul_left_comm, mul-le-mul_right, add-one, leb→le, eqb→eq, zero-le, suc-le-suc}
use Rattle.std.proofs.Math.Nat.{mul-mul-mul_comm, le_dest}
use Rattle.std.proofs.Math.Dec.{compare_is_eq}

-- ---- expressions: a variable by its place in the list of values, a number, a sum, a product, a successor
infixl 6 ◌⊞◌
infixl 7 ◌⊠◌
pub data E : Type 0 where
  var : ℕ → E
  lit : ℕ → E
  ◌⊞◌ : E → E → E
  ◌⊠◌ : E → E → E
  nxt : E → E

abbrev pub nth : List ℕ → ℕ → ℕ
nth [] i = 0
nth (x ∷ ρ) zero = x
nth (x ∷ ρ) (suc i) = nth ρ i

abbrev pub den : E → List ℕ → ℕ
den (var i) ρ = nth ρ i
den (lit k) ρ = k
den (a ⊞ b) ρ = den a ρ + den b ρ
den (a ⊠ b) ρ = den a ρ * den b ρ
den (nxt a) ρ = suc (den a ρ)

-- ---- monomials: the places of their factors, in order. One that has more of the first variable comes first, so that the order is kept by a product
abbrev pub mono : List ℕ → List ℕ → ℕ
mono [] ρ = 1
mono (i ∷ m) ρ = nth ρ i * mono m ρ

abbrev pub ins : ℕ → List ℕ → List ℕ
ins i [] = i ∷ []
ins i (j ∷ m) = elim (leb i j) [ true ↦ i ∷ j ∷ m | false ↦ j ∷ ins i m ]

abbrev pub join : List ℕ → List ℕ → List ℕ
join [] n = n
join (i ∷ m) n = ins i (join m n)

abbrev pub cmp : List ℕ → List ℕ → Ordering
cmp [] [] = Ordering.eq
cmp [] (j ∷ n) = Ordering.gt
cmp (i ∷ m) [] = Ordering.lt
cmp (i ∷ m) (j ∷ n) = elim (compare i j) [ Ordering.lt ↦ Ordering.lt | Ordering.eq ↦ cmp m n | Ordering.gt ↦ Ordering.gt ]

-- ---- sums of monomials, each so many times, in order
pub data Poly : Type 0 where
  nil : Poly
  term : ℕ → List ℕ → Poly → Poly

abbrev pub total : Poly → List ℕ → ℕ
total nil ρ = 0
total (term c m s) ρ = c * mono m ρ + total s ρ

-- `into c m f t` merges the sum whose first term is `c` times `m`, and whose rest is merged by `f`, with `t`
abbrev pub into : ℕ → List ℕ → (Poly → Poly) → Poly → Poly
into c m f nil = term c m (f nil)
into c m f (term d n t) = elim (cmp m n) [ Ordering.lt ↦ term c m (f (term d n t)) | Ordering.eq ↦ term (c + d) m (f t) | Ordering.gt ↦ term d n (into c m f t) ]

abbrev pub merge : Poly → Poly → Poly
merge nil t = t
merge (term c m s) t = into c m (merge s) t

abbrev pub scale : ℕ → List ℕ → Poly → Poly
scale c m nil = nil
scale c m (term d n s) = term (c * d) (join m n) (scale c m s)

abbrev pub times : Poly → Poly → Poly
times nil t = nil
times (term c m s) t = merge (scale c m t) (times s t)

abbrev pub const : ℕ → Poly
const zero = nil
const (suc k) = term (suc k) [] nil

abbrev pub nf : E → Poly
nf (var i) = term 1 (i ∷ []) nil
nf (lit k) = const k
nf (a ⊞ b) = merge (nf a) (nf b)
nf (a ⊠ b) = times (nf a) (nf b)
nf (nxt a) = merge (term 1 [] nil) (nf a)

-- ---- what the terms of one sum have over those of another: `nil`, if the first is below the second, coefficient by coefficient.
-- Where it is not, antt's refusal of `refl` shows the terms that are lacking on the right.
abbrev pub over : ℕ → List ℕ → (Poly → Poly) → Poly → Poly
over c m f nil = term c m (f nil)
over c m f (term d n t) = elim (cmp m n) [ Ordering.lt ↦ term c m (f (term d n t)) | Ordering.eq ↦ elim (leb c d) [ true ↦ f t | false ↦ term (c - d) m (f t) ] | Ordering.gt ↦ over c m f t ]

abbrev pub excess : Poly → Poly → Poly
excess nil t = nil
excess (term c m s) t = over c m (excess s) t

-- ---- the proofs
mono_ins : (i : ℕ) (m ρ : List ℕ) → mono (ins i m) ρ ≡ nth ρ i * mono m ρ
mono_ins i [] ρ = refl
mono_ins i (j ∷ m) ρ = go (mono_ins i m ρ) (leb i j)
  where
    go : mono (ins i m) ρ ≡ nth ρ i * mono m ρ → (b : Bool) → mono (elim b [ true ↦ i ∷ j ∷ m | false ↦ j ∷ ins i m ]) ρ ≡ nth ρ i * (nth ρ j * mono m ρ)
    go ih true = refl
    go ih false = ap (λ t. nth ρ j * t) ih ∙ mul_left_comm (nth ρ j) (nth ρ i) (mono m ρ)

mono_join : (m n ρ : List ℕ) → mono (join m n) ρ ≡ mono m ρ * mono n ρ
mono_join [] n ρ = sym (one-mul (mono n ρ))
mono_join (i ∷ m) n ρ = mono_ins i (join m n) ρ ∙ ap (λ t. nth ρ i * t) (mono_join m n ρ) ∙ sym (mul_assoc (nth ρ i) (mono m ρ) (mono n ρ))

cmp_eq : (m n : List ℕ) → T (compare_is_eq (cmp m n)) → m ≡ n
cmp_eq [] [] t = refl
cmp_eq [] (j ∷ n) t = absurd t
cmp_eq (i ∷ m) [] t = absurd t
cmp_eq (i ∷ m) (j ∷ n) t = go (cmp_eq m n) (compare i j) (eqb→eq i j) t
  where
    go : (T (compare_is_eq (cmp m n)) → m ≡ n) → (o : Ordering) → (T (compare_is_eq o) → i ≡ j)
        → T (compare_is_eq (elim o [ Ordering.lt ↦ Ordering.lt | Ordering.eq ↦ cmp m n | Ordering.gt ↦ Ordering.gt ])) → i ∷ m ≡ j ∷ n
    go ih Ordering.lt e t = absurd t
    go ih Ordering.eq e t = ap₂ ◌∷◌ (e tt) (ih t)
    go ih Ordering.gt e t = absurd t

total_into : (c : ℕ) (m : List ℕ) (s : Poly) (f : Poly → Poly) (ρ : List ℕ) → ((t : Poly) → total (f t) ρ ≡ total s ρ + total t ρ)
    → (t : Poly) → total (into c m f t) ρ ≡ c * mono m ρ + total s ρ + total t ρ
total_into c m s f ρ h nil = ap (λ u. c * mono m ρ + u) (h nil) ∙ sym (add_assoc (c * mono m ρ) (total s ρ) 0)
total_into c m s f ρ h (term d n t) = go (total_into c m s f ρ h t) (cmp m n) (cmp_eq m n)
  where
    go : total (into c m f t) ρ ≡ c * mono m ρ + total s ρ + total t ρ → (o : Ordering) → (T (compare_is_eq o) → m ≡ n)
        → total (elim o [ Ordering.lt ↦ term c m (f (term d n t)) | Ordering.eq ↦ term (c + d) m (f t) | Ordering.gt ↦ term d n (into c m f t) ]) ρ ≡ c * mono m ρ + total s ρ + (d * mono n ρ + total t ρ)
    go ih Ordering.lt e = ap (λ u. c * mono m ρ + u) (h (term d n t)) ∙ sym (add_assoc (c * mono m ρ) (total s ρ) (d * mono n ρ + total t ρ))
    go ih Ordering.eq e = rw (← (e tt)) (omega (arith, h t))
    go ih Ordering.gt e = omega (arith, ih)

total_merge : (s t : Poly) (ρ : List ℕ) → total (merge s t) ρ ≡ total s ρ + total t ρ
total_merge nil t ρ = sym (zero-add (total t ρ))
total_merge (term c m s) t ρ = total_into c m s (merge s) ρ (λ u. total_merge s u ρ) t

total_scale : (c : ℕ) (m : List ℕ) (t : Poly) (ρ : List ℕ) → total (scale c m t) ρ ≡ c * mono m ρ * total t ρ
total_scale c m nil ρ = sym (mul-zero (c * mono m ρ))
total_scale c m (term d n s) ρ = ap₂ ◌+◌ (ap (λ u. c * d * u) (mono_join m n ρ) ∙ mul-mul-mul_comm c d (mono m ρ) (mono n ρ)) (total_scale c m s ρ) ∙ sym (mul-add (c * mono m ρ) (d * mono n ρ) (total s ρ))

total_times : (s t : Poly) (ρ : List ℕ) → total (times s t) ρ ≡ total s ρ * total t ρ
total_times nil t ρ = sym (zero-mul (total t ρ))
total_times (term c m s) t ρ = total_merge (scale c m t) (times s t) ρ ∙ ap₂ ◌+◌ (total_scale c m t ρ) (total_times s t ρ) ∙ sym (add-mul (c * mono m ρ) (total s ρ) (total t ρ))

total_const : (k : ℕ) (ρ : List ℕ) → k ≡ total (const k) ρ
total_const zero ρ = refl
total_const (suc k) ρ = sym (add-zero (suc k * 1) ∙ mul-one (suc k))

nf_sound : (e : E) (ρ : List ℕ) → den e ρ ≡ total (nf e) ρ
nf_sound (var i) ρ = sym (add-zero (1 * (nth ρ i * 1)) ∙ one-mul (nth ρ i * 1) ∙ mul-one (nth ρ i))
nf_sound (lit k) ρ = total_const k ρ
nf_sound (a ⊞ b) ρ = ap₂ ◌+◌ (nf_sound a ρ) (nf_sound b ρ) ∙ sym (total_merge (nf a) (nf b) ρ)
nf_sound (nxt a) ρ = sym (add-one (den a ρ)) ∙ add_comm (den a ρ) 1 ∙ ap (λ u. 1 + u) (nf_sound a ρ) ∙ sym (total_merge (term 1 [] nil) (nf a) ρ)
nf_sound (a ⊠ b) ρ = ap₂ ◌*◌ (nf_sound a ρ) (nf_sound b ρ) ∙ sym (total_times (nf a) (nf b) ρ)

over_le : (c : ℕ) (m : List ℕ) (s : Poly) (f : Poly → Poly) (ρ : List ℕ) → ((t : Poly) → total s ρ ≤ total t ρ + total (f t) ρ)
    → (t : Poly) → c * mono m ρ + total s ρ ≤ total t ρ + total (over c m f t) ρ
over_le c m s f ρ h nil = omega (arith, h nil)
over_le c m s f ρ h (term d n t) = go (over_le c m s f ρ h t) (cmp m n) (cmp_eq m n)
  where
    split : c ≤ c - d + d
    split = omega arith

    on : (b : Bool) → (T b → c ≤ d) → c * mono m ρ + total s ρ ≤ d * mono m ρ + total t ρ + total (elim b [ true ↦ f t | false ↦ term (c - d) m (f t) ]) ρ
    on true e = omega (arith, mul-le-mul_right (mono m ρ) (e tt), h t)
    on false e = omega (arith, mul-le-mul_right (mono m ρ) split, add-mul (c - d) d (mono m ρ), h t)

    go : c * mono m ρ + total s ρ ≤ total t ρ + total (over c m f t) ρ → (o : Ordering) → (T (compare_is_eq o) → m ≡ n)
        → c * mono m ρ + total s ρ ≤ d * mono n ρ + total t ρ + total (elim o [ Ordering.lt ↦ term c m (f (term d n t)) | Ordering.eq ↦ elim (leb c d) [ true ↦ f t | false ↦ term (c - d) m (f t) ] | Ordering.gt ↦ over c m f t ]) ρ
    go ih Ordering.lt e = omega (arith, h (term d n t))
    go ih Ordering.eq e = rw (← (e tt)) (on (leb c d) (leb→le c d))
    go ih Ordering.gt e = omega (arith, ih)

excess_le : (s t : Poly) (ρ : List ℕ) → total s ρ ≤ total t ρ + total (excess s t) ρ
excess_le nil t ρ = zero-le
excess_le (term c m s) t ρ = over_le c m s (excess s) ρ (λ u. excess_le s u ρ) t

below_le : (s t : Poly) (ρ : List ℕ) → excess s t ≡ nil → total s ρ ≤ total t ρ
below_le s t ρ p = omega (arith, excess_le s t ρ, ap (λ u. total u ρ) p)

-- ---- an order between polynomials, coefficient by coefficient; and an identity
pub poly_le : (ρ : List ℕ) (L R : E) → excess (nf L) (nf R) ≡ nil → den L ρ ≤ den R ρ
poly_le ρ L R p = subst₂ ◌≤◌ (sym (nf_sound L ρ)) (sym (nf_sound R ρ)) (below_le (nf L) (nf R) ρ p)

-- (The test computes to `nil`. To ask for `nf L ≡ nf R` by `refl` would compare the two sums by conversion, which takes fifty times as long.)
abbrev pub apart : Poly → Poly → Poly
apart s t = merge (excess s t) (excess t s)

apart_nil : (s t : Poly) (ρ : List ℕ) → apart s t ≡ nil → total s ρ ≡ total t ρ
apart_nil s t ρ p = omega (arith, excess_le s t ρ, excess_le t s ρ, total_merge (excess s t) (excess t s) ρ, ap (λ u. total u ρ) p)

pub ring : (ρ : List ℕ) (L R : E) → apart (nf L) (nf R) ≡ nil → den L ρ ≡ den R ρ
ring ρ L R p = nf_sound L ρ ∙ apart_nil (nf L) (nf R) ρ p ∙ sym (nf_sound R ρ)

-- ---- 2xy ≤ x² + y²
pub le_or_le : (a b : ℕ) → (a ≤ b) ⊎ (b ≤ a)
le_or_le zero b = inl zero-le
le_or_le (suc a) zero = inr zero-le
le_or_le (suc a) (suc b) = ⊎_elim (λ p. inl (suc-le-suc p)) (λ q. inr (suc-le-suc q)) (le_or_le a b)

two_sq_up : (p k : ℕ) → 2 * (p * (p + k)) ≤ p * p + (p + k) * (p + k)
two_sq_up p k = omega arith

two_sq_of_le : (p q : ℕ) → p ≤ q → 2 * (p * q) ≤ p * p + q * q
two_sq_of_le p q h = rw (← (le_dest h).1) (two_sq_up p (le_dest h).0)

pub two_sq : (p q : ℕ) → 2 * (p * q) ≤ p * p + q * q
two_sq p q = ⊎_elim (λ h. two_sq_of_le p q h) (λ h. omega (arith, two_sq_of_le q p h)) (le_or_le p q)
