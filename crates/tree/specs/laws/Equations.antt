-- Equations from equations, by polynomials: what `from` of Reading is for orders.
-- Assumes nothing.
use Rattle.std.specs.Prelude.{ℕ, ◌+◌, ◌*◌, ◌<◌, ◌≡◌, List}
use Rattle.std.proofs.Common.{sym, ◌∙◌, ap, ap₂, arith}
use Rattle.std.proofs.Math.Nat.{eq_of_mul-eq-mul_left}
use Rattle.algebra.specs.Polynomial.{◌⊞◌, ◌⊠◌, nf, nil, apart, ring}
use Rattle.algebra.specs.Reading.{Four, Five}

infixl 5 ◌⊕◌
infixl 6 ◌⊛◌
pub ◌⊕◌ : {a b c d : ℕ} → a ≡ b → c ≡ d → a + c ≡ b + d
h ⊕ k = ap₂ ◌+◌ h k

pub ◌⊛◌ : (m : ℕ) {a b : ℕ} → a ≡ b → m * a ≡ m * b
m ⊛ h = ap (λ (x : ℕ). m * x) h

cancel : {l r lo hi : ℕ} → l + hi ≡ r + lo → lo ≡ hi → l ≡ r
cancel {l} {r} {lo} {hi} p q = omega arith

-- l ≡ r, from a fact lo ≡ hi for which l + hi is r + lo
pub equal : {lo hi l r : ℕ} (ρ : List ℕ) → lo ≡ hi → (s : Four ρ lo hi l r) → apart (nf (s.L.expr ⊞ s.Hi.expr)) (nf (s.R.expr ⊞ s.Lo.expr)) ≡ nil → l ≡ r
equal ρ h s p =
    cancel (sym (ap₂ ◌+◌ s.L.is s.Hi.is) ∙ ring ρ (s.L.expr ⊞ s.Hi.expr) (s.R.expr ⊞ s.Lo.expr) p ∙ ap₂ ◌+◌ s.R.is s.Lo.is) h

-- the same for c·l ≡ c·r
pub equal_over : {lo hi l r : ℕ} (ρ : List ℕ) (c : ℕ) → 0 < c → lo ≡ hi → (s : Five ρ c lo hi l r)
    → apart (nf (s.C.expr ⊠ s.L.expr ⊞ s.Hi.expr)) (nf (s.C.expr ⊠ s.R.expr ⊞ s.Lo.expr)) ≡ nil → l ≡ r
equal_over {l = l} {r = r} ρ c z h s p =
    eq_of_mul-eq-mul_left c z l r
    (cancel
    (sym (ap₂ ◌+◌ (ap₂ ◌*◌ s.C.is s.L.is) s.Hi.is) ∙ ring ρ (s.C.expr ⊠ s.L.expr ⊞ s.Hi.expr) (s.C.expr ⊠ s.R.expr ⊞ s.Lo.expr) p
    ∙ ap₂ ◌+◌ (ap₂ ◌*◌ s.C.is s.R.is) s.Lo.is)
    h)
