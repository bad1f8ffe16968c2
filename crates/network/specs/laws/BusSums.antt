-- What stands at each bus of an accepted network: the sum of its machines' admittances and of its converters' currents, exact and in f64.
-- Assumes nothing.
use Rattle.std.specs.Prelude.{ℕ, zero, suc, ◌+◌, ◌*◌, ◌^◌, ◌≤◌, ◌<◌, ◌≡◌, Bool, true, false, cond, ◌&&◌, List, [], ◌∷◌, eqb, length, get_or}
use Rattle.std.proofs.Common.{zero-le, sym, subst, arith, le_refl, le_trans, mul-le-mul, mul-pos, mul-add, lit<, lit≤, eqb-true, eq-eqb}
use Rattle.std.proofs.Math.Path.{refl}
use Rattle.algebra.specs.Reading.{from, read, ◌⊹◌, ◌⋆◌}
use Rattle.enclosure.specs.Exact.{Point, nothing, sum}
use Rattle.elements.specs.Impedance.{converter}
use Rattle.enclosure.specs.laws.Nearness.{inverse_proper}
use Rattle.tree.specs.Limits.{machine_parts, own_parts, current_parts, covered_sources, own_most, current_most}
use Rattle.tree.specs.laws.AdmittanceSizes.{AtMost, most_more, most_sum}
use Rattle.tree.specs.Grid.{sum_of}
use Rattle.tree.specs.laws.Sums.{sums}
use Rattle.tree.specs.laws.Accuracy.{Accurate, accurate_more}
use Rattle.tree.specs.laws.TreeBounds.{Admittance, Plain, CurrentBounds}
use Rattle.tree.specs.laws.BusSums.{Bounded, sum_accurate}
use Rattle.network.specs.declared.study.Source.{Source}
use Rattle.network.specs.Network.{Network, source_at, blank_source}
use Rattle.network.specs.laws.Rebuilt.{Rebuilt}
use Rattle.network.specs.laws.Tests.{both_true}
use Rattle.network.specs.laws.AcceptedRecords.{few_sources, first_feeder, bus_volts}
use Rattle.network.specs.SourceKinds.{current_of, is_machine, is_converter}
use Rattle.network.specs.RoundedSourceKinds.{supplied_by}
use Rattle.network.specs.Grid.{admittance_of, machine_at, converter_at, grid_of}
use Rattle.network.specs.Doubles.{machine_by, own_by, converters_by}
use Rattle.network.specs.laws.ElementSizes.{machine_most}
use Rattle.network.specs.laws.AcceptedTree.{volts_of, branch_impedance, machine_near, machine_bounded, machine_volt_bounded, machine_reactive, supply_near, supply_bounded}

-- ---- sums over a list, by induction
-- how many elements pass a test
abbrev pub count_of : {S : Type 0} → (S → Bool) → List S → ℕ
count_of t [] = 0
count_of t (s ∷ l) = cond (t s) 1 0 + count_of t l

module _ {S : Type 0} (t : S → Bool) (y : S → Point) (d : S) where
  -- at most c/Q for each element that is counted
  counted : (Q c : ℕ) (l : List S) → ((j : ℕ) → j < length l → t (get_or l j d) ≡ true → AtMost Q c (y (get_or l j d)))
      → (k : ℕ) (x : Point) → AtMost Q k x → AtMost Q (k + c * count_of t l) (sum_of sum t y x l)
  counted Q c [] h k x g = most_more Q k (k + c * 0) x (omega arith) g
  counted Q c (s ∷ l) h k x g = go (t s) refl (counted Q c l (λ j m. h (suc j) (omega arith)))
    where
      go : (b : Bool) → t s ≡ b → ((k : ℕ) (x : Point) → AtMost Q k x → AtMost Q (k + c * count_of t l) (sum_of sum t y x l))
          → AtMost Q (k + c * (cond b 1 0 + count_of t l)) (sum_of sum t y (cond b (sum x (y s)) x) l)
      go true e f = most_more Q (k + c + c * count_of t l) _ _ (omega (arith, mul-add c 1 (count_of t l))) (f (k + c) (sum x (y s)) (most_sum Q k c x (y s) g (h 0 (omega arith) e)))
      go false e f = most_more Q (k + c * count_of t l) _ _ (omega (arith, mul-add c 0 (count_of t l))) (f k x g)

  -- a reactive part stays, where denominators are above 0
  reactive : (l : List S) → ((j : ℕ) → j < length l → t (get_or l j d) ≡ true → 0 < (y (get_or l j d)).den) → (x : Point) → 0 < x.im → 0 < (sum_of sum t y x l).im
  reactive [] h x g = g
  reactive (s ∷ l) h x g = go (t s) refl (reactive l (λ j m. h (suc j) (omega arith)))
    where
      go : (b : Bool) → t s ≡ b → ((x : Point) → 0 < x.im → 0 < (sum_of sum t y x l).im) → 0 < (sum_of sum t y (cond b (sum x (y s)) x) l).im
      go true e f = f (sum x (y s)) (le_trans (mul-pos g (h 0 (omega arith) e)) (omega arith))
      go false e f = f x g

  -- and one element with a reactive part is enough
  reactive_by : (l : List S) → ((j : ℕ) → j < length l → t (get_or l j d) ≡ true → 0 < (y (get_or l j d)).den) → (j : ℕ) → j < length l → t (get_or l j d) ≡ true → 0 < (y (get_or l j d)).im
      → (x : Point) → 0 < x.den → 0 < (sum_of sum t y x l).im
  reactive_by [] h j m e i x g = absurd (omega arith)
  reactive_by (s ∷ l) h zero m e i x g =
      subst (λ (b : Bool). 0 < (sum_of sum t y (cond b (sum x (y s)) x) l).im) (sym e)
      (reactive l (λ k n. h (suc k) (omega arith)) (sum x (y s)) (le_trans (mul-pos i g) (omega arith)))
  reactive_by (s ∷ l) h (suc j) m e i x g = go (t s) refl (reactive_by l (λ k n. h (suc k) (omega arith)) j (omega arith) e i)
    where
      go : (b : Bool) → t s ≡ b → ((x : Point) → 0 < x.den → 0 < (sum_of sum t y x l).im) → 0 < (sum_of sum t y (cond b (sum x (y s)) x) l).im
      go true q f = f (sum x (y s)) (mul-pos g (h 0 (omega arith) q))
      go false q f = f x g

  -- no imaginary part, where none has one
  real : (l : List S) → ((s : S) → (y s).im ≡ 0) → (x : Point) → x.im ≡ 0 → (sum_of sum t y x l).im ≡ 0
  real [] h x g = g
  real (s ∷ l) h x g = go (t s) (real l h)
    where
      go : (b : Bool) → ((x : Point) → x.im ≡ 0 → (sum_of sum t y x l).im ≡ 0) → (sum_of sum t y (cond b (sum x (y s)) x) l).im ≡ 0
      go true f = f (sum x (y s)) (rw (g, h s) (omega arith))
      go false f = f x g

-- each element stands at one bus, so that it is counted once at the most
sums_more : (f g : ℕ → ℕ) (n : ℕ) → sums (λ i. f i + g i) n ≡ sums f n + sums g n
sums_more f g zero = refl
sums_more f g (suc n) = omega (arith, sums_more f g n)

sums_one : (c : Bool) (a n : ℕ) → (n ≤ a → sums (λ i. cond (c && eqb a i) 1 0) n ≤ 0) × (sums (λ i. cond (c && eqb a i) 1 0) n ≤ 1)
sums_one c a zero = (λ h. le_refl 0, zero-le)
sums_one c a (suc n) = go c (eqb a n) refl (sums_one c a n)
  where
    go : (d e : Bool) → eqb a n ≡ e → (n ≤ a → sums (λ i. cond (c && eqb a i) 1 0) n ≤ 0) × (sums (λ i. cond (c && eqb a i) 1 0) n ≤ 1)
        → (suc n ≤ a → sums (λ i. cond (c && eqb a i) 1 0) n + cond (d && e) 1 0 ≤ 0) × (sums (λ i. cond (c && eqb a i) 1 0) n + cond (d && e) 1 0 ≤ 1)
    go true true q h = let k = eqb-true a n q in (λ l. absurd (omega arith), omega (arith, h.0 (omega arith)))
    go true false q h = (λ l. omega (arith, h.0 (omega arith)), omega (arith, h.1))
    go false e q h = (λ l. omega (arith, h.0 (omega arith)), omega (arith, h.1))

pub counted_once : (c : Source → Bool) (l : List Source) (n : ℕ) → sums (λ i. count_of (λ p. c p && eqb p.bus i) l) n ≤ length l
counted_once c [] n = none n
  where
    none : (n : ℕ) → sums (λ i. 0) n ≤ 0
    none zero = le_refl 0
    none (suc n) = omega (arith, none n)
counted_once c (p ∷ l) n = omega (arith, sums_more (λ i. cond (c p && eqb p.bus i) 1 0) (λ i. count_of (λ q. c q && eqb q.bus i) l) n, (sums_one (c p) p.bus n).1, counted_once c l n)

counted_at : (c : Source → Bool) (b : ℕ) (p : Source) → c p && eqb p.bus b ≡ true → (c p ≡ true) × (p.bus ≡ b)
counted_at c b p e = let t = both_true (c p) (eqb p.bus b) e in (t.0, eqb-true p.bus b t.1)

module _ {n : Network} (r : Rebuilt n) where
  pub covered_sources_law : length n.sources ≤ covered_sources
  covered_sources_law = le_trans (few_sources r) (lit≤ tt)

  -- ---- the machines at bus b
  module _ (b : ℕ) where
    own_accurate : Bounded (2 ^ 60) 1 (2 ^ 100 * length n.sources) ((grid_of n).own b) × Accurate (machine_parts + 4 * length n.sources) ((grid_of n).own b) (own_by n b)
    own_accurate =
        let m = covered_sources_law in
        sum_accurate (machine_at b) (admittance_of n) (machine_by n) blank_source n.sources (2 ^ 60) 1 (2 ^ 100) machine_parts (lit< tt) (lit≤ tt) (le_trans (mul-le-mul (le_refl (2 ^ 100)) m) (lit≤ tt)) (omega arith)
        (λ j l e. let t = counted_at is_machine b (source_at n.sources j) e in (machine_bounded r j l t.0, machine_near r j l t.0))

    pub own_near : Accurate own_parts ((grid_of n).own b) (own_by n b)
    own_near = let m = covered_sources_law in accurate_more (machine_parts + 4 * length n.sources) own_parts _ _ (omega arith) own_accurate.1

    pub own_admittance : Admittance ((grid_of n).own b)
    own_admittance = record {
      proper = own_accurate.0.proper;
      least = own_accurate.0.least;
      most = wide (((grid_of n).own b).re + ((grid_of n).own b).im) ((grid_of n).own b).den (length n.sources) covered_sources_law own_accurate.0.most;
    }
      where
        wide : (s d k : ℕ) → k ≤ covered_sources → s * 1 ≤ 2 ^ 100 * k * d → s ≤ own_most * d
        wide s d k l h = from (s ∷ d ∷ k ∷ []) (h ⊹ 2 ^ 100 * d ⋆ l) (search read depth 40 fits 20000) refl

    pub own_volts : AtMost (volts_of n b) (machine_most * covered_sources) ((grid_of n).own b)
    own_volts =
        most_more (volts_of n b) (0 + machine_most * count_of (machine_at b) n.sources) (machine_most * covered_sources) _ (few (count_of (machine_at b) n.sources) (le_trans (count_few (machine_at b) n.sources) covered_sources_law))
        (counted (machine_at b) (admittance_of n) blank_source (volts_of n b) machine_most n.sources
        (λ j l e. let t = counted_at is_machine b (source_at n.sources j) e in subst (λ (c : ℕ). AtMost (volts_of n c) machine_most (admittance_of n (source_at n.sources j))) t.1 (machine_volt_bounded r j l t.0).most)
        0 nothing (omega arith))
      where
        few : (k : ℕ) → k ≤ covered_sources → 0 + machine_most * k ≤ machine_most * covered_sources
        few k h = omega arith

        count_few : (t : Source → Bool) (l : List Source) → count_of t l ≤ length l
        count_few t [] = zero-le
        count_few t (p ∷ l) = go (t p) (count_few t l)
          where
            go : (b : Bool) → count_of t l ≤ length l → cond b 1 0 + count_of t l ≤ suc (length l)
            go true h = omega arith
            go false h = omega arith

  pub plain : Plain (grid_of n)
  plain = record { branch = λ i z l. branch_impedance r i z l; own = λ b l. own_admittance b }

  -- where a machine stands there is a reactive part, by the feeder at bus 0 for one
  pub own_reactive : (j : ℕ) → j < length n.sources → is_machine (source_at n.sources j) ≡ true → 0 < ((grid_of n).own (source_at n.sources j).bus).im
  own_reactive j l m =
      reactive_by (machine_at (source_at n.sources j).bus) (admittance_of n) blank_source n.sources (λ k i t. inverse_proper _) j l (rw (m, eq-eqb (source_at n.sources j).bus _ refl)) (machine_reactive r j l m)
      nothing (lit< tt)

  pub fed : 0 < length n.sources → 0 < ((grid_of n).own 0).im
  fed h = let f = first_feeder r 0 h refl in subst (λ (b : ℕ). 0 < ((grid_of n).own b).im) f.1 (own_reactive 0 h (rw f.0))

  -- ---- the converters at bus b
  module _ (b : ℕ) where
    bounded_at : (j : ℕ) → j < length n.sources → converter_at b (source_at n.sources j) ≡ true → Bounded (2 ^ 20) (volts_of n b) (2 ^ 34) (current_of (source_at n.sources j))
    bounded_at j l e = let t = counted_at is_converter b (source_at n.sources j) e in subst (λ (c : ℕ). Bounded (2 ^ 20) (volts_of n c) (2 ^ 34) (current_of (source_at n.sources j))) t.1 (supply_bounded r j l t.0)

    supply_accurate : 0 < volts_of n b → Bounded (2 ^ 20) (volts_of n b) (2 ^ 34 * length n.sources) ((grid_of n).current b) × Accurate (8 + 4 * length n.sources) ((grid_of n).current b) (converters_by n b)
    supply_accurate z =
        let m = covered_sources_law in
        sum_accurate (converter_at b) current_of supplied_by blank_source n.sources (2 ^ 20) (volts_of n b) (2 ^ 34) 8 z (lit≤ tt) (le_trans (mul-le-mul (le_refl (2 ^ 34)) m) (lit≤ tt)) (omega arith)
        (λ j l e. (bounded_at j l e, supply_near r j l (counted_at is_converter b (source_at n.sources j) e).0))

    pub current_near : 0 < volts_of n b → Accurate current_parts ((grid_of n).current b) (converters_by n b)
    current_near z = let m = covered_sources_law in accurate_more (8 + 4 * length n.sources) current_parts _ _ (omega arith) (supply_accurate z).1

    pub current_counted : AtMost (volts_of n b) (2 ^ 34 * count_of (converter_at b) n.sources) ((grid_of n).current b)
    current_counted =
        most_more (volts_of n b) (0 + 2 ^ 34 * count_of (converter_at b) n.sources) _ _ (omega arith)
        (counted (converter_at b) current_of blank_source (volts_of n b) (2 ^ 34) n.sources (λ j l e. (bounded_at j l e).most) 0 nothing (omega arith))

    pub current_real : ((grid_of n).current b).im ≡ 0
    unfolding converter
    current_real = real (converter_at b) current_of blank_source n.sources (λ p. refl) nothing refl

  pub amperes : CurrentBounds (grid_of n) (volts_of n)
  amperes = record {
    proper = λ i l. (supply_accurate i (some i l)).0.proper;
    least = λ i l. (supply_accurate i (some i l)).0.least;
    most = λ i l. wide (((grid_of n).current i).re + ((grid_of n).current i).im) (volts_of n i) ((grid_of n).current i).den (length n.sources) covered_sources_law (supply_accurate i (some i l)).0.most;
  }
    where
      some : (i : ℕ) → i < length n.buses → 0 < volts_of n i
      some i l = le_trans (lit≤ tt) (bus_volts r i l).0

      wide : (s u d k : ℕ) → k ≤ covered_sources → s * u ≤ 2 ^ 34 * k * d → s * u ≤ current_most * d
      wide s u d k l h = from (s ∷ u ∷ d ∷ k ∷ []) (h ⊹ 2 ^ 34 * d ⋆ l) (search read depth 40 fits 20000) refl
