-- Laws of tests: from the answer of a test that is put together from others to the answers of its parts, and to facts.
use Rattle.std.specs.Prelude.{◌≡◌, refl, Bool, true, false, not, ◌&&◌, ◌||◌, List, [], ◌∷◌, ◌⊎◌, ℕ, ◌+◌, ◌≤◌, ◌<◌, leb, ltb, eqb}
use Rattle.std.proofs.Common.{inl, inr, ⊎_elim, arith, leb-true, ltb-true, eqb-true}
use Rattle.std.proofs.lemmas.Bool.{eqb-false, not-true}
use Rattle.network.specs.Records.{in_range, all_from, all}
use Rattle.network.specs.Grounds.{at_zero}

-- a fact from the two answers of a test
pub by_test : {P : Type 0} (b : Bool) → (b ≡ true → P) → (b ≡ false → P) → P
by_test true t f = t refl
by_test false t f = f refl

pub never : {P : Type 0} → false ≡ true → P
never e = absurd (let z : ◌≡◌ {A = ℕ} 0 1 = cc in omega arith)

pub both_true : (a b : Bool) → (a && b) ≡ true → (a ≡ true) × (b ≡ true)
both_true true b e = (refl, e)
both_true false b e = never e

pub one_true : (a b : Bool) → (a || b) ≡ true → (a ≡ true) ⊎ (b ≡ true)
one_true true b e = inl refl
one_true false b e = inr e

-- "where a, b"
pub where_true : (a b : Bool) → (not a || b) ≡ true → a ≡ true → b ≡ true
where_true true b e t = e
where_true false b e t = never t

pub in_range_law : (x low high : ℕ) → in_range x low high ≡ true → (low ≤ x) × (x ≤ high)
in_range_law x low high e =
    let h = both_true (leb low x) (leb x high) e in
    (leb-true low x h.0, leb-true x high h.1)

-- the test at place 0, and that at every other place
pub at_zero_law : (i : ℕ) (a b : Bool) → at_zero i a b ≡ true → i ≡ 0 → a ≡ true
at_zero_law i a b e z =
    ⊎_elim
    (λ t. (both_true (eqb i 0) a t).1)
    (λ t. absurd (omega (arith, ltb-true 0 i (both_true (ltb 0 i) b t).0)))
    (one_true (eqb i 0 && a) (ltb 0 i && b) e)

pub past_zero : (i : ℕ) (a b : Bool) → at_zero i a b ≡ true → 0 < i → b ≡ true
past_zero i a b e z =
    ⊎_elim
    (λ t. absurd (omega (arith, eqb-true i 0 (both_true (eqb i 0) a t).0)))
    (λ t. (both_true (ltb 0 i) b t).1)
    (one_true (eqb i 0 && a) (ltb 0 i && b) e)

-- every test of a list is passed
abbrev pub Every : List Bool → Type 0
Every [] = Unit
Every (b ∷ bs) = (b ≡ true) × Every bs

all_from_true : (a : Bool) (bs : List Bool) → all_from a bs ≡ true → (a ≡ true) × Every bs
all_from_true a [] e = (e, tt)
all_from_true a (b ∷ bs) e =
    let h = all_from_true (a && b) bs e in
    let f = both_true a b h.0 in
    (f.0, (f.1, h.1))

pub all_true : (bs : List Bool) → all bs ≡ true → Every bs
all_true [] e = tt
all_true (b ∷ bs) e = all_from_true b bs e

pub not_both_zero : (x y : ℕ) → not (eqb x 0 && eqb y 0) ≡ true → 0 < x + y
not_both_zero x y e =
    by_test (eqb x 0)
    (λ t. let f = eqb-false y 0 (not-true (eqb y 0) (rw t at e)) in by_test (eqb y 0) (λ u. absurd (f (eqb-true y 0 u))) (λ u. omega (arith, f)))
    (λ t. omega (arith, eqb-false x 0 t))
