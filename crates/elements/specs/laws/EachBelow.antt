-- A rule for each number below a bound, by one test that is computed: what a constant table's rule is proved with.
-- Assumes nothing.
use Rattle.std.specs.Prelude.{ℕ, zero, suc, ◌<◌, ◌≡◌, Bool, true, false, List, T, eqb, get_or}
use Rattle.std.proofs.Common.{subst, sym, ⊎_elim, le_of_suc-le-suc, eq-or-lt_of_le, not-suc-le-zero, eqb→eq}

-- f is true at each number below n
abbrev pub all : (ℕ → Bool) → ℕ → Bool
all f zero = true
all f (suc n) = elim (f n) [ true ↦ all f n | false ↦ false ]

-- the last number and those before it
split : (a b : Bool) → T (elim a [ true ↦ b | false ↦ false ]) → T a × T b
split true b t = (tt, t)
split false b t = absurd t

pub below : (f : ℕ → Bool) (n : ℕ) → T (all f n) → (k : ℕ) → k < n → T (f k)
below f zero t k h = absurd (not-suc-le-zero h)
below f (suc n) t k h =
    let s : T (f n) × T (all f n) = split (f n) (all f n) t in
    ⊎_elim (λ (e : k ≡ n). subst (λ (m : ℕ). T (f m)) (sym e) s.0) (λ (l : k < n). below f n s.1 k l) (eq-or-lt_of_le (le_of_suc-le-suc h))

-- a table t holds f at each of its n places: the test is computed where f can be unfolded
pub table_rule : (t : List ℕ) (f : ℕ → ℕ) (n : ℕ) → T (all (λ (i : ℕ). eqb (get_or t i 0) (f i)) n) → (i : ℕ) → i < n → get_or t i 0 ≡ f i
table_rule t f n c i h = eqb→eq (get_or t i 0) (f i) (below (λ (k : ℕ). eqb (get_or t k 0) (f k)) n c i h)
