-- One root r, of a square in f64, gives whole bounds of the exact magnitude: r + 1 and `under_root r`.
-- Assumes nothing.
use Rattle.std.specs.Prelude.{◌≡◌, ℕ, ◌+◌, ◌*◌, ◌^◌, ◌<◌, ◌≤◌, Bool, true, false, [], ◌∷◌, ◌≢◌, Float}
use Rattle.std.proofs.Math.Path.{refl}
use Rattle.std.proofs.Common.{⊎_elim, arith, le_refl, le_trans, le_of_lt, mul-le-mul, mul-pos, eq-zero-or-pos, lit≤, le→leb}
use Rattle.std.specs.Float.Ieee.{binary64, mul, le}
use Rattle.algebra.specs.Reading.{from, from_over, read, ◌⊹◌, ◌⋆◌}
use Rattle.enclosure.specs.laws.Close.{Within}
use Rattle.enclosure.specs.Fraction.{Fraction, Most, product}
use Rattle.enclosure.specs.laws.Rounding.{Rounds}
use Rattle.enclosure.specs.laws.Units.{unit, most, unit_pos, Is, units_of, Rounded, mul_rounds, square_rounds}
use Rattle.enclosure.specs.Doubles.{ratio, squared, root_below, root_fine, under_root}
use Rattle.enclosure.specs.laws.Climb.{Top, climb_top}
use Rattle.enclosure.specs.laws.WholeBounds.{le_units, nle_units}
use Rattle.enclosure.specs.laws.Scalar.{grain, About, about_mul, about_ratio, Reached, reached_most}

-- the margin of `root_fine`
abbrev margin : Float
margin = ratio 65537 65536

-- r bounds the root of a/c
pub record RootHolds (a c r : ℕ) : Type 0 where
  pub above : a ≤ (r + 1) * (r + 1) * c
  pub under : under_root r * under_root r * c ≤ a

-- as bounds of a magnitude with the square S, in steps of 1/s
pub steps_above : (s : ℕ) (S : Fraction) (r : ℕ) → RootHolds (s * s * S.top) S.under r → Most S (product (record { top = r + 1; under = s }) (record { top = r + 1; under = s }))
steps_above s S r h = from (s ∷ S.top ∷ S.under ∷ r ∷ []) h.above (search read depth 40 fits 20000) refl

pub steps_under_law : (s : ℕ) (S : Fraction) (r : ℕ) → RootHolds (s * s * S.top) S.under r → Most (product (record { top = under_root r; under = s }) (record { top = under_root r; under = s })) S
steps_under_law s S r h = from (s ∷ S.top ∷ S.under ∷ under_root r ∷ []) h.under (search read depth 40 fits 20000) refl

-- of a share, in steps of 1/4,096
pub bounds_above : (S : Fraction) (r : ℕ) → RootHolds (16777216 * S.top) S.under r → Most S (product (record { top = r + 1; under = 4096 }) (record { top = r + 1; under = 4096 }))
bounds_above S r h = steps_above 4096 S r h

pub bounds_under : (S : Fraction) (r : ℕ) → RootHolds (16777216 * S.top) S.under r → Most (product (record { top = under_root r; under = 4096 }) (record { top = under_root r; under = 4096 })) S
bounds_under S r h = steps_under_law 4096 S r h

-- how far apart the two bounds are
pub bounds_close : (r : ℕ) → 16383 * (r + 1) ≤ 16384 * (under_root r + 3)
bounds_close r = omega arith

-- ---- over plain numbers: a/c is the square, m what the root is taken of, the margin included; n is tried, g its square in f64; u of the smallest
-- are 1
below_less : (r : ℕ) → 16384 * under_root r ≤ 16383 * r
below_less r = omega arith

-- the square of a whole number above 0 is large enough for its rounding
large : (n u : ℕ) → 0 < n → 2 ^ 60 ≤ u → 2 ^ 53 ≤ n * n * u
large n u z h = from (n ∷ u ∷ []) (h ⊹ u ⋆ mul-pos z z) (search read depth 40 fits 20000) refl

module _ (a c m g n δ u : ℕ) (u₀ : 0 < u) (l : δ ≤ 4096) (h : Within grain δ 0 (a * 65537 * u) (m * (c * 65536))) (r : Rounds g (n * n * u) 1) (n₀ : 0 < n) (big : 2 ^ 60 ≤ u) where
  square_up : m ≤ g → a ≤ n * n * c
  square_up e =
      from_over (a ∷ c ∷ m ∷ g ∷ n ∷ δ ∷ u ∷ []) (18014398509481984 * (1073737728 * 65537) * u) (mul-pos (lit≤ tt) u₀)
      (18014398509481984 ⋆ h.1
      ⊹ 18014398509481984 * (1073741824 * 65536) * c ⋆ e
      ⊹ 1073741824 * 65536 * c ⋆ r.0
      ⊹ 18014398509481984 * 65537 * a * u ⋆ l
      ⊹ 1073741824 * 65536 * c ⋆ large n u n₀ big) (search read depth 40 fits 20000) refl

  square_under_law : g ≤ m → (b : ℕ) → 16384 * b ≤ 16383 * n → b * b * c ≤ a
  square_under_law e b k =
      from_over (a ∷ c ∷ m ∷ g ∷ n ∷ δ ∷ u ∷ b ∷ []) (16384 * 16384 * (1073741824 * 18014398509481981) * 65536 * u) (mul-pos (lit≤ tt) u₀)
      (16383 * 16383 * 18014398509481984 ⋆ h.0
      ⊹ 16383 * 16383 * 18014398509481984 * (1073741824 * 65536) * c ⋆ e
      ⊹ 16383 * 16383 * (1073741824 * 65536) * c ⋆ r.1
      ⊹ 16383 * 16383 * 18014398509481984 * 65537 * a * u ⋆ l
      ⊹ 16383 * 16383 * (1073741824 * 65536) * c ⋆ large n u n₀ big
      ⊹ 1073741824 * 18014398509481981 * 65536 * u * c ⋆ mul-le-mul k k) (search read depth 40 fits 20000) refl

unit_large : 2 ^ 60 ≤ unit
unfolding unit
unit_large = lit≤ tt

most_large : 2 ^ 106 ≤ most
unfolding most
most_large = lit≤ tt

about_margin : About 1 (record { top = 65537; under = 65536 }) margin
about_margin = about_ratio 65537 65536 (omega arith) (omega arith) (lit≤ tt) (lit≤ tt)

margin_least : (w u : ℕ) → Within grain 1 0 (65537 * u) (w * 65536) → (u ≤ w) × (w ≤ 2 * u)
margin_least w u h = (omega (arith, h.1), omega (arith, h.0))

root_zero : (a c r : ℕ) → r ≡ 0 → under_root r * under_root r * c ≤ a
root_zero a c r e = rw e (omega arith)

-- ---- where the square in f64 is near the exact one
module _ (δ : ℕ) (X : Fraction) (x : Float) (l : δ ≤ 4000) (h : About δ X x) (least : grain ≤ units_of x) (small : X.top ≤ 2 ^ 104 * X.under) where
  small_units : (a c w u : ℕ) → 0 < c → Within grain δ 0 (a * u) (w * c) → a ≤ 2 ^ 104 * c → w ≤ 2 ^ 105 * u
  small_units a c w u z h s = from_over (a ∷ c ∷ w ∷ u ∷ δ ∷ []) (grain * c) (mul-pos (lit≤ tt) z) (h.0 ⊹ a * u ⋆ l ⊹ (grain + 4000) * u ⋆ s) (search read depth 40 fits 20000) refl

  about_root : About (δ + 1 + 3) (product X (record { top = 65537; under = 65536 })) (mul binary64 x margin)
  about_root =
      let g = margin_least (units_of margin) unit about_margin.close in
      about_mul δ 1 X _ x margin (omega arith) (mul-le-mul least g.0)
      (fits (units_of x) (units_of margin) unit most (small_units X.top X.under (units_of x) unit h.proper h.close small) g.1 most_large) h about_margin
    where
      fits : (w v u m : ℕ) → w ≤ 2 ^ 105 * u → v ≤ 2 * u → 2 ^ 106 ≤ m → w * v ≤ u * u * m
      fits w v u m h k l = from (w ∷ v ∷ u ∷ m ∷ []) (mul-le-mul h k ⊹ u * u ⋆ l) (search read depth 40 fits 20000) refl

  abbrev m : Float
  m = mul binary64 x margin

  passed : (n : ℕ) → 0 < n → n ≤ 2 ^ 53 → le (squared n) m ≡ true → (b : ℕ) → 16384 * b ≤ 16383 * n → b * b * X.under ≤ X.top
  passed n n₀ k e =
      let g = square_rounds n k in
      square_under_law X.top X.under (units_of m) (units_of (squared n)) n (δ + 1 + 3) unit unit_pos (omega arith) about_root.close g.law n₀ unit_large
      (le_units _ _ _ _ g.is about_root.is e)

  failed : (n : ℕ) → 0 < n → n ≤ 2 ^ 53 → le (squared n) m ≡ false → X.top ≤ n * n * X.under
  failed n n₀ k e =
      let g = square_rounds n k in
      square_up X.top X.under (units_of m) (units_of (squared n)) n (δ + 1 + 3) unit unit_pos (omega arith) about_root.close g.law n₀ unit_large
      (le_of_lt (nle_units _ _ _ _ g.is about_root.is e))

  top : Top (λ r. le (squared r) m) 0 (0 + 2 ^ 53) (root_fine x)
  unfolding root_fine root_below
  top = climb_top (λ r. le (squared r) m) 53 0 (go (le (squared (2 ^ 53)) m) refl)
    where
      never : (a c : ℕ) → 0 < c → 16383 * 2 ^ 39 * (16383 * 2 ^ 39) * c ≤ a → a ≤ 2 ^ 104 * c → ⊥
      never a c z p q = absurd (le→leb 1 0 (from (a ∷ c ∷ []) (p ⊹ q ⊹ z) (search read depth 40 fits 20000) refl))

      go : (t : Bool) → le (squared (2 ^ 53)) m ≡ t → t ≡ false
      go true e = absurd (never X.top X.under h.proper (passed (2 ^ 53) (lit≤ tt) (le_refl _) e (16383 * 2 ^ 39) (lit≤ tt)) small)
      go false e = refl

  pub root_bounds : RootHolds X.top X.under (root_fine x)
  root_bounds = record {
    above = failed (root_fine x + 1) (omega arith) (omega (arith, top.most)) top.fails;
    under =
        ⊎_elim (λ e. root_zero X.top X.under (root_fine x) e)
        (λ z. ⊎_elim (λ e. root_zero X.top X.under (root_fine x) e) (λ e. passed (root_fine x) z (omega (arith, top.most)) e (under_root (root_fine x)) (below_less (root_fine x))) top.passes)
        (eq-zero-or-pos (root_fine x));
  }

-- ---- where the square is next to nothing, and the root 0
no_root : (n g m w v u : ℕ) → 0 < n → 0 < u → 2 ^ 60 ≤ u → Rounds g (n * n * u) 1 → Rounds m (w * v) u → 1024 * w ≤ u → v ≤ 2 * u → g ≤ m → ⊥
no_root n g m w v u n₀ u₀ big r q h k e =
    absurd (le→leb 1 0
    (from (n ∷ g ∷ m ∷ w ∷ v ∷ u ∷ [])
    (512 * u ⋆ r.1 ⊹ 512 * u * 18014398509481984 ⋆ e ⊹ 512 ⋆ q.0 ⊹ 9007199254740993 ⋆ mul-le-mul h k ⊹ 512 * 18014398509481982 * (u * u) ⋆ mul-pos n₀ n₀ ⊹ 16 * u ⋆ big ⊹ u₀) (search read depth 40 fits 20000) refl))

module _ (X : Fraction) (x : Float) (is : Is x (units_of x)) (tiny : 1024 * units_of x ≤ unit) (few : X.top ≤ X.under) where
  product_small : Rounded (mul binary64 x margin) (units_of x * units_of margin) unit
  product_small =
      let g = margin_least (units_of margin) unit about_margin.close in
      mul_rounds x margin _ _ is about_margin.is (fits (units_of x) (units_of margin) unit most tiny g.1 most_large)
    where
      fits : (w v u m : ℕ) → 1024 * w ≤ u → v ≤ 2 * u → 2 ^ 106 ≤ m → w * v ≤ u * u * m
      fits w v u m h k l = from_over (w ∷ v ∷ u ∷ m ∷ []) 1024 (omega arith) (mul-le-mul h k ⊹ 1024 * (u * u) ⋆ l) (search read depth 40 fits 20000) refl

  none : (n : ℕ) → 0 < n → n ≤ 2 ^ 53 → le (squared n) (mul binary64 x margin) ≢ true
  none n n₀ k e =
      let g = square_rounds n k in
      no_root n _ _ _ _ unit n₀ unit_pos unit_large g.law product_small.law tiny (margin_least (units_of margin) unit about_margin.close).1 (le_units _ _ _ _ g.is product_small.is e)

  bottom : Top (λ r. le (squared r) (mul binary64 x margin)) 0 (0 + 2 ^ 53) (root_fine x)
  unfolding root_fine root_below
  bottom = climb_top (λ r. le (squared r) (mul binary64 x margin)) 53 0 (go (le (squared (2 ^ 53)) (mul binary64 x margin)) refl)
    where
      go : (t : Bool) → le (squared (2 ^ 53)) (mul binary64 x margin) ≡ t → t ≡ false
      go true e = absurd (none (2 ^ 53) (lit≤ tt) (le_refl _) e)
      go false e = refl

  pub root_faint : RootHolds X.top X.under (root_fine x)
  root_faint = record {
    above = more X.top X.under (root_fine x) few;
    under =
        ⊎_elim (λ e. root_zero X.top X.under (root_fine x) e)
        (λ z. ⊎_elim (λ e. root_zero X.top X.under (root_fine x) e) (λ e. absurd (none (root_fine x) z (omega (arith, bottom.most)) e)) bottom.passes)
        (eq-zero-or-pos (root_fine x));
  }
    where
      more : (a c r : ℕ) → a ≤ c → a ≤ (r + 1) * (r + 1) * c
      more a c r h = from (a ∷ c ∷ r ∷ []) h (search read depth 40 fits 20000) refl

-- ---- both: X is a product with a floor, K is near the exact number with which it is multiplied
room : 2 ^ 1060 ≤ unit
unfolding unit
room = lit≤ tt

module _ (δ κ : ℕ) (K X : Fraction) (k v : Float) (l : κ + δ ≤ 3997) (i : About κ K k) (h : Reached δ X v) (least : unit ≤ units_of k * 2 ^ 900) (small : K.top ≤ 2 ^ 100 * K.under) where
  low : (w x u : ℕ) → 2 ^ 1060 ≤ u → u ≤ w * 2 ^ 900 → u ≤ x * 2 ^ 120 → 2 ^ 40 * u ≤ w * x
  low w x u r p q = from_over (w ∷ x ∷ u ∷ []) (2 ^ 1020) (lit≤ tt) (mul-le-mul p q ⊹ u ⋆ r) (search read depth 40 fits 20000) refl

  high_k : (a c w u : ℕ) → 0 < c → Within grain κ 0 (a * u) (w * c) → a ≤ 2 ^ 100 * c → w ≤ 2 ^ 101 * u
  high_k a c w u z h s = from_over (a ∷ c ∷ w ∷ u ∷ κ ∷ []) (grain * c) (mul-pos (lit≤ tt) z) (h.0 ⊹ a * u ⋆ κ_small ⊹ (grain + 3997) * u ⋆ s) (search read depth 40 fits 20000) refl
    where
      κ_small : κ ≤ 3997
      κ_small = omega arith

  high_v : (w u : ℕ) → grain * w ≤ (grain + δ) * u → w ≤ 2 * u
  high_v w u h = from_over (w ∷ u ∷ δ ∷ []) grain (lit≤ tt) (h ⊹ u ⋆ δ_small) (search read depth 40 fits 20000) refl
    where
      δ_small : δ ≤ 3997
      δ_small = omega arith

  fits : (w x u m : ℕ) → w ≤ 2 ^ 101 * u → x ≤ 2 * u → 2 ^ 106 ≤ m → w * x ≤ u * u * m
  fits w x u m p q r = from (w ∷ x ∷ u ∷ m ∷ []) (mul-le-mul p q ⊹ u * u ⋆ r) (search read depth 40 fits 20000) refl

  top_k : units_of k ≤ 2 ^ 101 * unit
  top_k = high_k K.top K.under (units_of k) unit i.proper i.close small

  wide : units_of k * units_of v ≤ unit * unit * most
  wide = fits (units_of k) (units_of v) unit most top_k (high_v (units_of v) unit (reached_most δ X v h)) most_large

  result : Rounded (mul binary64 k v) (units_of k * units_of v) unit
  result = mul_rounds k v _ _ i.is h.is wide

  near : Within grain δ 0 (X.top * unit) (units_of v * X.under) → RootHolds (K.top * X.top) (K.under * X.under) (root_fine (mul binary64 k v))
  near q =
      let lo = low (units_of k) (units_of v) unit room least h.least in
      root_bounds (κ + δ + 3) (product K X) (mul binary64 k v) (omega arith)
      (about_mul κ δ K X k v (omega arith) (le_trans (mul-le-mul (lit≤ tt) (le_refl unit)) lo) wide i (record { proper = h.proper; is = h.is; close = q }))
      (grown _ _ unit unit_pos result.law lo) (below_one K.top K.under X.top X.under small h.most)
    where
      grown : (g n u : ℕ) → 0 < u → Rounds g n u → 2 ^ 40 * u ≤ n → grain ≤ g
      grown g n u z r e = from_over (g ∷ n ∷ u ∷ []) (18014398509481984 * u) (mul-pos (lit≤ tt) z) (r.1 ⊹ 18014398509481982 ⋆ e) (search read depth 40 fits 20000) refl

      below_one : (a c b d : ℕ) → a ≤ 2 ^ 100 * c → b ≤ d → a * b ≤ 2 ^ 104 * (c * d)
      below_one a c b d p q = from (a ∷ c ∷ b ∷ d ∷ []) (mul-le-mul p q) (search read depth 40 fits 20000) refl

  faint : X.top * 2 ^ 118 ≤ X.under → grain * (units_of v * 2 ^ 118) ≤ (grain + δ) * unit → RootHolds (K.top * X.top) (K.under * X.under) (root_fine (mul binary64 k v))
  faint p q =
      root_faint (product K X) (mul binary64 k v) result.is
      (shrunk _ (units_of k) (units_of v) unit unit_pos unit_large result.law top_k (high_v _ unit q)) (less K.top K.under X.top X.under small p)
    where
      shrunk : (g w x u : ℕ) → 0 < u → 2 ^ 60 ≤ u → Rounds g (w * x) u → w ≤ 2 ^ 101 * u → x * 2 ^ 118 ≤ 2 * u → 1024 * g ≤ u
      shrunk g w x u z big r p q =
          from_over (g ∷ w ∷ x ∷ u ∷ []) (18014398509481984 * 2 ^ 118 * u) (mul-pos (lit≤ tt) z)
          (1024 * 2 ^ 118 ⋆ r.0 ⊹ 1024 * 18014398509481986 ⋆ mul-le-mul p q ⊹ 2 ^ 121 * u ⋆ big) (search read depth 40 fits 20000) refl

      less : (a c b d : ℕ) → a ≤ 2 ^ 100 * c → b * 2 ^ 118 ≤ d → a * b ≤ c * d
      less a c b d p q = from_over (a ∷ b ∷ c ∷ d ∷ []) (2 ^ 118) (lit≤ tt) (mul-le-mul p q) (search read depth 40 fits 20000) refl

  -- THE ROOT BOUNDS √(K·X)
  pub reached_bounds : RootHolds (K.top * X.top) (K.under * X.under) (root_fine (mul binary64 k v))
  reached_bounds = ⊎_elim near (λ q. faint q.0 q.1) h.near
