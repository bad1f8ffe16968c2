-- Reading a number as a polynomial. `search read` finds the expression behind a goal, so that a polynomial fact is proved by
-- naming its variables and the facts it follows from. Assumes nothing.
use Prim.Native.Nat.{Ordering}
use Prim.Native.Nat.{compare}
use Rattle.std.specs.Prelude.{◌≡◌, refl, List, ◌∷◌, ℕ, suc, ◌+◌, ◌*◌, ◌≤◌, ◌<◌}
use Rattle.std.proofs.Common.{sym, ◌∙◌, ap, ap₂, subst₂, arith, add-le-add, mul-le-mul_left}
use Rattle.std.proofs.Math.Nat.{le_of_mul-le-mul_left}
use Rattle.algebra.specs.Polynomial.{E, var, lit, ◌⊞◌, ◌⊠◌, nxt, nth, den, nf, nil, excess, apart, ring, poly_le}

-- x stands at some place of the list
pub record Place (ρ : List ℕ) (x : ℕ) : Type 0 where
  pub place : ℕ
  pub is : nth ρ place ≡ x

abbrev pub here : {x : ℕ} {ρ : List ℕ} → Place (x ∷ ρ) x
here = record { place = 0; is = refl }

abbrev pub there : {x y : ℕ} {ρ : List ℕ} → Place ρ x → Place (y ∷ ρ) x
there p = record { place = suc p.place; is = p.is }

-- x is the value of an expression
pub record Read (ρ : List ℕ) (x : ℕ) : Type 0 where
  pub expr : E
  pub is : den expr ρ ≡ x

abbrev pub r_var : {ρ : List ℕ} {x : ℕ} → Place ρ x → Read ρ x
r_var p = record { expr = var p.place; is = p.is }

abbrev pub r_add : {ρ : List ℕ} {x y : ℕ} → Read ρ x → Read ρ y → Read ρ (x + y)
r_add s t = record { expr = s.expr ⊞ t.expr; is = ap₂ ◌+◌ s.is t.is }

abbrev pub r_mul : {ρ : List ℕ} {x y : ℕ} → Read ρ x → Read ρ y → Read ρ (x * y)
r_mul s t = record { expr = s.expr ⊠ t.expr; is = ap₂ ◌*◌ s.is t.is }

abbrev pub r_suc : {ρ : List ℕ} {x : ℕ} → Read ρ x → Read ρ (suc x)
r_suc s = record { expr = nxt s.expr; is = ap suc s.is }

-- a numeral: the premise computes at nothing else
abbrev pub r_lit : {ρ : List ℕ} (k : ℕ) → compare k k ≡ Ordering.eq → Read ρ k
r_lit k p = record { expr = lit k; is = refl }

-- ---- both sides of a goal, with the two sides of a fact and a factor besides
pub record Two (ρ : List ℕ) (l r : ℕ) : Type 0 where
  pub L : Read ρ l
  pub R : Read ρ r

pub record Four (ρ : List ℕ) (lo hi l r : ℕ) : Type 0 where
  pub Lo : Read ρ lo
  pub Hi : Read ρ hi
  pub L : Read ρ l
  pub R : Read ρ r

pub record Five (ρ : List ℕ) (c lo hi l r : ℕ) : Type 0 where
  pub C : Read ρ c
  pub Lo : Read ρ lo
  pub Hi : Read ρ hi
  pub L : Read ρ l
  pub R : Read ρ r

abbrev pub two : {ρ : List ℕ} {l r : ℕ} → Read ρ l → Read ρ r → Two ρ l r
two l r = record { L = l; R = r }

abbrev pub four : {ρ : List ℕ} {lo hi l r : ℕ} → Read ρ lo → Read ρ hi → Read ρ l → Read ρ r → Four ρ lo hi l r
four a b l r = record { Lo = a; Hi = b; L = l; R = r }

abbrev pub five : {ρ : List ℕ} {c lo hi l r : ℕ} → Read ρ c → Read ρ lo → Read ρ hi → Read ρ l → Read ρ r → Five ρ c lo hi l r
five c a b l r = record { C = c; Lo = a; Hi = b; L = l; R = r }

pub ruleset read = (two, four, five, r_add, r_mul, r_suc, r_var, here, there, r_lit)

-- ---- facts are put together as terms: `m ⋆ h` is h, m times, and `h ⊹ k` is both
infixl 5 ◌⊹◌
infixl 6 ◌⋆◌
pub ◌⊹◌ : {a b c d : ℕ} → a ≤ b → c ≤ d → a + c ≤ b + d
h ⊹ k = add-le-add h k

pub ◌⋆◌ : (m : ℕ) {a b : ℕ} → a ≤ b → m * a ≤ m * b
m ⋆ h = mul-le-mul_left m h

-- ---- l ≡ r, as polynomials
pub identity : {l r : ℕ} (ρ : List ℕ) (s : Two ρ l r) → apart (nf s.L.expr) (nf s.R.expr) ≡ nil → l ≡ r
identity ρ s p = sym s.L.is ∙ ring ρ s.L.expr s.R.expr p ∙ s.R.is

-- ---- l ≤ r, coefficient by coefficient
pub poly : {l r : ℕ} (ρ : List ℕ) (s : Two ρ l r) → excess (nf s.L.expr) (nf s.R.expr) ≡ nil → l ≤ r
poly ρ s p = subst₂ ◌≤◌ s.L.is s.R.is (poly_le ρ s.L.expr s.R.expr p)

cancel : {l r lo hi : ℕ} → l + hi ≤ r + lo → lo ≤ hi → l ≤ r
cancel {l} {r} {lo} {hi} p q = omega arith

-- ---- l ≤ r, from a fact lo ≤ hi for which l + hi is below r + lo, coefficient by coefficient
pub from : {lo hi l r : ℕ} (ρ : List ℕ) → lo ≤ hi → (s : Four ρ lo hi l r) → excess (nf (s.L.expr ⊞ s.Hi.expr)) (nf (s.R.expr ⊞ s.Lo.expr)) ≡ nil → l ≤ r
from ρ h s p = cancel (subst₂ ◌≤◌ (ap₂ ◌+◌ s.L.is s.Hi.is) (ap₂ ◌+◌ s.R.is s.Lo.is) (poly_le ρ (s.L.expr ⊞ s.Hi.expr) (s.R.expr ⊞ s.Lo.expr) p)) h

-- ---- the same by way of c·l ≤ c·r
pub from_over : {lo hi l r : ℕ} (ρ : List ℕ) (c : ℕ) → 0 < c → lo ≤ hi → (s : Five ρ c lo hi l r)
    → excess (nf (s.C.expr ⊠ s.L.expr ⊞ s.Hi.expr)) (nf (s.C.expr ⊠ s.R.expr ⊞ s.Lo.expr)) ≡ nil → l ≤ r
from_over {l = l} {r = r} ρ c z h s p = le_of_mul-le-mul_left {k = c} (cancel (subst₂ ◌≤◌ (ap₂ ◌+◌ (ap₂ ◌*◌ s.C.is s.L.is) s.Hi.is) (ap₂ ◌+◌ (ap₂ ◌*◌ s.C.is s.R.is) s.Lo.is) (poly_le ρ (s.C.expr ⊠ s.L.expr ⊞ s.Hi.expr) (s.C.expr ⊠ s.R.expr ⊞ s.Lo.expr) p)) h) z
