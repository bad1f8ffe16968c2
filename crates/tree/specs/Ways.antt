-- Shares as they are calculated in f64: products over the branches of a way, and whole steps of a magnitude from its square. How near they
-- are to those of Shares is proved in laws/Dividers and laws/ShareBounds.
use Rattle.std.specs.Prelude.{ℕ, zero, suc, ◌+◌, ◌*◌, cond, ltb, eqb, Float}
use Rattle.std.specs.Float.{binary64}
use Rattle.std.specs.Float.Ieee.{mul, div}
use Rattle.enclosure.specs.declared.Complex.{Complex}
use Rattle.enclosure.specs.Doubles.{empty, added, inverted, square, squared, ratio, doubles, unity, faintest, floored, root_fine, nought}
use Rattle.tree.specs.Grid.{Grid, parent_of, times_square}

-- a step for each branch between b and j, of two bus numbers the greater going to its parent; a bus whose parent has no smaller number
-- ends it. A fuel of b + j is enough
abbrev pub between_by : {A : Type 0} → (ℕ → ℕ) → (ℕ → ℕ → A → A) → A → ℕ → ℕ → ℕ → A
between_by p step z zero b j = z
between_by p step z (suc f) b j =
    cond (eqb b j) z
    (cond (ltb b j)
    (cond (ltb (p j) j) (step (p j) j (between_by p step z f b (p j))) z)
    (cond (ltb (p b) b) (step b (p b) (between_by p step z f (p b) j)) z))

unfoldable pub between : {A : Type 0} → (ℕ → ℕ) → (ℕ → ℕ → A → A) → A → ℕ → ℕ → A
between p step z b j = between_by p step z (b + j) b j

-- a product over the way, no factor taking it below `least`: the branch of bus i has the factor up i towards bus 0 and down i away from it
unfoldable pub over_way : (ℕ → ℕ) → (ℕ → Float) → (ℕ → Float) → Float → ℕ → ℕ → Float
over_way p up down least = between p (λ b c v. floored least v (cond (ltb c b) (up b) (down c))) unity

-- the square of |x|/|z + x|: of the voltage before a branch z, the part that is left behind it, where x is; 1 where nothing is behind
unfoldable pub divider_by : Complex → Complex → Float
divider_by z x = cond (empty x) unity (div binary64 (square x) (square (added z x)))

module _ (G : Grid) where
  -- the divider of the branch of bus i on a way towards bus 0, s being what is seen at its parent without it, and on a way away from bus 0,
  -- s being what is seen at i without its parent
  abbrev pub divider_up : (ℕ → Complex) → (ℕ → Complex) → ℕ → Float
  divider_up z s i = divider_by (z i) (times_square doubles (G.branch i).below (G.branch i).above (inverted (s i)))

  abbrev pub divider_down : (ℕ → Complex) → (ℕ → Complex) → ℕ → Float
  divider_down z s i = divider_by (z i) (inverted (s i))

  -- the rated ratio by which a current is carried back against such a way: from the parent to bus i, and from bus i to its parent
  abbrev pub ratio_up : ℕ → Float
  ratio_up i = ratio (G.branch i).above (G.branch i).below

  abbrev pub ratio_down : ℕ → Float
  ratio_down i = ratio (G.branch i).below (G.branch i).above

  -- over the way from b to j: the dividers, z the branches, s and t what is seen, and the rated ratios by which a current is carried from
  -- j to b
  abbrev pub dividers_by : (ℕ → Complex) → (ℕ → Complex) → (ℕ → Complex) → ℕ → ℕ → Float
  dividers_by z s t = over_way (parent_of G) (divider_up z s) (divider_down z t) faintest

  abbrev pub ratios_by : ℕ → ℕ → Float
  ratios_by = over_way (parent_of G) ratio_up ratio_down nought

-- 2 ^ 24·(c·Un)²/3, v being c·Un in hundredths of a volt, so that a root counts in steps of 1/4,096 A; and that times |y|²
unfoldable pub drive_by : ℕ → Float
drive_by v = mul binary64 (squared v) (ratio 16777216 30000)

unfoldable pub strength_by : Float → Complex → Float
strength_by drive y = mul binary64 drive (square y)

-- a share in steps of 1/4,096 A: by the machine's strength, the ratio by which a current is carried back from it, and the dividers of the way
unfoldable pub share_steps : Float → Float → Float → ℕ
share_steps strength back divider =
    root_fine (mul binary64 (mul binary64 strength (mul binary64 (mul binary64 back back) (mul binary64 back back))) divider)

-- a generator's share at its terminals, in steps of 1/40,960 of its rated current
unfoldable pub rated_steps : Float → Float → Float → ℕ → ℕ → ℕ
rated_steps strength back divider volts kva =
    let t = mul binary64 back (ratio volts (100 * kva)) in
    root_fine (mul binary64 (mul binary64 (mul binary64 strength (mul binary64 t t)) (ratio 3 1)) divider)
