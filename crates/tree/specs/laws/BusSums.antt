-- The sum over the sources at a bus, in f64 and exact: from each source to what the bus has itself.
-- Assumes nothing.
use Rattle.std.specs.Prelude.{ℕ, ◌+◌, ◌*◌, ◌^◌, ◌≤◌, ◌<◌, ◌≡◌, refl, Bool, true, List, length, get_or}
use Rattle.std.proofs.Common.{inl, arith, le_refl, mul-pos}
use Rattle.enclosure.specs.Exact.{Point, nothing, sum}
use Rattle.enclosure.specs.laws.Nearness.{NearTo}
use Rattle.enclosure.specs.laws.StepErrors.{parts}
use Rattle.enclosure.specs.Doubles.{doubles}
use Rattle.enclosure.specs.laws.F64Errors.{value}
use Rattle.enclosure.specs.laws.F64Range.{Good, f64_rules}
use Rattle.enclosure.specs.declared.Complex.{Complex}
use Rattle.tree.specs.Grid.{sum_of}
use Rattle.tree.specs.laws.AdmittanceSizes.{AtMost, Low, most_more, most_sum, low_more, low_sum, most_under}
use Rattle.tree.specs.laws.WalkErrors.{sum_inside}
use Rattle.tree.specs.laws.Accuracy.{Accurate, accurate_more, accurate_good}

-- nothing or at least 1/K, and at most c/Q: an admittance with Q = 1, a current with Q its bus's nominal volts
pub record Bounded (K Q c : ℕ) (x : Point) : Type 0 where
  pub proper : 0 < x.den
  pub least : Low K x
  pub most : AtMost Q c x

-- THE SUM OVER A LIST is as near as its elements and 4 parts in 2 ^ 53 for each
pub sum_accurate : {S : Type 0} (t : S → Bool) (y : S → Point) (y' : S → Complex) (d : S) (l : List S) (K Q c kₑ : ℕ)
    → 0 < Q → K ≤ 2 ^ 199 → c * length l ≤ 2 ^ 199 → kₑ + 4 * length l ≤ 1000000
    → ((j : ℕ) → j < length l → t (get_or l j d) ≡ true → Bounded K Q c (y (get_or l j d)) × Accurate kₑ (y (get_or l j d)) (y' (get_or l j d)))
    → Bounded K Q (c * length l) (sum_of sum t y nothing l) × Accurate (kₑ + 4 * length l) (sum_of sum t y nothing l) (sum_of doubles.add t y' doubles.none l)
sum_accurate {S} t y y' d l K Q c kₑ z wide tall room h =
    let r = sum_inside sum doubles.add (Bounded K Q) Accurate (c * length l) 1000000 4 c more add accurate_more near_add t y y' d kₑ l h nothing doubles.none 0 kₑ (le_refl kₑ) room (omega arith) start in
    (more (0 + c * length l) (c * length l) _ (omega arith) r.0, r.1)
  where
    more : (i j : ℕ) (x : Point) → i ≤ j → Bounded K Q i x → Bounded K Q j x
    more i j x m g = record { proper = g.proper; least = g.least; most = most_more Q i j x m g.most }

    add : (i j : ℕ) (x x' : Point) → Bounded K Q i x → Bounded K Q j x' → Bounded K Q (i + j) (sum x x')
    add i j x x' g g' = record { proper = mul-pos g.proper g'.proper; least = low_sum K x x' g.least g'.least; most = most_sum Q i j x x' g.most g'.most }

    good : (k : ℕ) (x : Point) (v : Complex) → k ≤ 1000000 → Bounded K Q (c * length l) x → Accurate k x v → NearTo value (Good 200 k) parts k x v
    good k x v m g n = accurate_good k x v (omega arith) n (low_more K (2 ^ 199) x wide g.least) (most_under Q (c * length l) (2 ^ 199) x z tall g.most)

    near_add : (k : ℕ) (x x' : Point) (v v' : Complex) → k ≤ 1000000 → Bounded K Q (c * length l) x → Bounded K Q (c * length l) x' → Accurate k x v → Accurate k x' v' → Accurate (k + 4) (sum x x') (doubles.add v v')
    near_add k x x' v v' m g g' n n' = let r = (f64_rules k m).near_add k x x' v v' (omega arith) (good k x v m g n) (good k x' v' m g' n') in (r.0, r.1.fine)

    start : Bounded K Q 0 nothing × Accurate kₑ nothing doubles.none
    start =
        let r = (f64_rules 0 (omega arith)).near_none in
        (record { proper = omega arith; least = inl refl; most = omega arith }, accurate_more 0 kₑ nothing doubles.none (omega arith) (r.0, r.1.fine))
