-- The errors of a sum, an inverse and a scaling of f64, in whole numbers: one part is 2 ^ -53.
-- Assumes nothing.
use Rattle.std.specs.Prelude.{ℕ, ◌+◌, ◌*◌, ◌^◌, ◌≤◌, [], ◌∷◌, refl}
use Rattle.std.proofs.Common.{arith, le_trans}
use Rattle.algebra.specs.Reading.{from, from_over, read, ◌⊹◌, ◌⋆◌}
use Rattle.enclosure.specs.laws.Close.{Within}
use Rattle.enclosure.specs.Exact.{norm}
use Rattle.enclosure.specs.laws.Rounding.{Rounds}

abbrev pub parts : ℕ
parts = 9007199254740992

-- ---- a sum
pub sum_step : (n g : ℕ) → Rounds g n 1 → Within parts 1 parts n g
sum_step n g h = (omega (arith, h.0), omega (arith, h.1))

-- ---- the square of the size: x is n·L, y is (p + q)·L
square_over_law : (x y N L : ℕ) → 2 ^ 60 * L ≤ N → 18014398509481984 * x ≤ 18014398509481986 * y + 9007199254740992 * L → 18014398509481984 * y ≤ 18014398509481986 * N + 18014398509481984 * L → parts * x ≤ parts * N + 3 * N
square_over_law x y N L l h k = from_over (x ∷ y ∷ N ∷ L ∷ []) 36028797018963968 (omega arith) (18014398509481984 ⋆ h ⊹ 18014398509481986 ⋆ k ⊹ 9007199254740992 ⋆ l) (search read depth 40 fits 20000) refl

square_under_law : (x y N L : ℕ) → 2 ^ 60 * L ≤ N → 18014398509481984 * y ≤ 18014398509481984 * x + 2 * y + 9007199254740992 * L → 18014398509481984 * N ≤ 18014398509481984 * y + 2 * N + 18014398509481984 * L → parts * N ≤ parts * x + 3 * N
square_under_law x y N L l h k = from_over (x ∷ y ∷ N ∷ L ∷ []) 36028797018963968 (omega arith) (18014398509481984 ⋆ h ⊹ 18014398509481982 ⋆ k ⊹ 9007199254740992 ⋆ l) (search read depth 40 fits 20000) refl

module _ (A B L p q n : ℕ) (l : 2 ^ 60 * L ≤ norm A B) (hp : Rounds p (A * A) L) (hq : Rounds q (B * B) L) (hn : Rounds n (p + q) 1) where
  pub square_step : Within parts 3 0 (norm A B) (n * L)
  square_step = (
    le_trans
        (square_over_law (n * L) ((p + q) * L) (norm A B) L l
        (from (A ∷ B ∷ L ∷ p ∷ q ∷ n ∷ []) (L ⋆ hn.0) (search read depth 40 fits 20000) refl)
        (from (A ∷ B ∷ L ∷ p ∷ q ∷ n ∷ []) (hp.0 ⊹ hq.0) (search read depth 40 fits 20000) refl))
        (omega arith),
    le_trans
        (square_under_law (n * L) ((p + q) * L) (norm A B) L l
        (from (A ∷ B ∷ L ∷ p ∷ q ∷ n ∷ []) (L ⋆ hn.1) (search read depth 40 fits 20000) refl)
        (from (A ∷ B ∷ L ∷ p ∷ q ∷ n ∷ []) (hp.1 ⊹ hq.1) (search read depth 40 fits 20000) refl))
        (omega arith),
  )

-- ---- a part of the inverse: y is r·N, w is r·n·L, a is A·L·L, x is n·L
part_over : (y w a x N : ℕ) → 18014398509481984 * w ≤ 18014398509481986 * a + 9007199254740992 * x → parts * y ≤ parts * w + 3 * y → parts * x ≤ parts * N + 3 * N + 0 → parts * y ≤ parts * a + 5 * a + parts * N
part_over y w a x N h k l = from_over (y ∷ w ∷ a ∷ x ∷ N ∷ []) 18014398509481978 (omega arith) (9007199254740992 ⋆ h ⊹ 18014398509481984 ⋆ k ⊹ 9007199254740992 ⋆ l) (search read depth 40 fits 20000) refl

part_under : (y w a x N : ℕ) → 18014398509481984 * a ≤ 18014398509481984 * w + 2 * a + 9007199254740992 * x → parts * w ≤ parts * y + 3 * y → parts * x ≤ parts * N + 3 * N + 0 → parts * a ≤ parts * y + 5 * a + parts * N
part_under y w a x N h k l = from_over (y ∷ w ∷ a ∷ x ∷ N ∷ []) 18014398509481990 (omega arith) (9007199254740992 ⋆ h ⊹ 18014398509481984 ⋆ k ⊹ 9007199254740992 ⋆ l) (search read depth 40 fits 20000) refl

pub inverse_step : (A L n N r : ℕ) → Within parts 3 0 N (n * L) → Rounds r (A * L) n → Within parts 5 (parts * N) (A * L * L) (r * N)
inverse_step A L n N r h g = (
  part_over (r * N) (r * (n * L)) (A * L * L) (n * L) N
      (from (A ∷ L ∷ n ∷ r ∷ []) (L ⋆ g.0) (search read depth 40 fits 20000) refl) (from (L ∷ n ∷ N ∷ r ∷ []) (r ⋆ h.1) (search read depth 40 fits 20000) refl) h.0,
  part_under (r * N) (r * (n * L)) (A * L * L) (n * L) N
      (from (A ∷ L ∷ n ∷ r ∷ []) (L ⋆ g.1) (search read depth 40 fits 20000) refl) (from (L ∷ n ∷ N ∷ r ∷ []) (r ⋆ h.0) (search read depth 40 fits 20000) refl) h.0,
)

-- ---- a part of a scaling: y is r·L·q, w is A·T·q, a is A·p·L, s is A·q, c is L·q
scale_over : (y w a s c : ℕ) → 18014398509481984 * y ≤ 18014398509481986 * w + 9007199254740992 * c → 18014398509481984 * w ≤ 18014398509481986 * a + 9007199254740992 * s → parts * s ≤ a → parts * y ≤ parts * a + 3 * a + parts * c
scale_over y w a s c h k l = from_over (y ∷ w ∷ a ∷ s ∷ c ∷ []) 36028797018963968 (omega arith) (18014398509481984 ⋆ h ⊹ 18014398509481986 ⋆ k ⊹ 18014398509481986 ⋆ l) (search read depth 40 fits 20000) refl

scale_under : (y w a s c : ℕ) → 18014398509481984 * w ≤ 18014398509481984 * y + 2 * w + 9007199254740992 * c → 18014398509481984 * a ≤ 18014398509481984 * w + 2 * a + 9007199254740992 * s → parts * s ≤ a → parts * a ≤ parts * y + 3 * a + parts * c
scale_under y w a s c h k l = from_over (y ∷ w ∷ a ∷ s ∷ c ∷ []) 36028797018963968 (omega arith) (18014398509481984 ⋆ h ⊹ 18014398509481982 ⋆ k ⊹ 18014398509481982 ⋆ l) (search read depth 40 fits 20000) refl

pub scale_step : (A L p q T r : ℕ) → parts * q ≤ p * L → Rounds T (p * L) q → Rounds r (A * T) L → Within parts 3 (parts * (L * q)) (A * p * L) (r * (L * q))
scale_step A L p q T r l h g = (
  scale_over (r * (L * q)) (A * T * q) (A * p * L) (A * q) (L * q)
      (from (A ∷ L ∷ q ∷ T ∷ r ∷ []) (q ⋆ g.0) (search read depth 40 fits 20000) refl) (from (A ∷ L ∷ p ∷ q ∷ T ∷ []) (A ⋆ h.0) (search read depth 40 fits 20000) refl) (from (A ∷ L ∷ p ∷ q ∷ []) (A ⋆ l) (search read depth 40 fits 20000) refl),
  scale_under (r * (L * q)) (A * T * q) (A * p * L) (A * q) (L * q)
      (from (A ∷ L ∷ q ∷ T ∷ r ∷ []) (q ⋆ g.1) (search read depth 40 fits 20000) refl) (from (A ∷ L ∷ p ∷ q ∷ T ∷ []) (A ⋆ h.1) (search read depth 40 fits 20000) refl) (from (A ∷ L ∷ p ∷ q ∷ []) (A ⋆ l) (search read depth 40 fits 20000) refl),
)
