-- The part of one source, by its kind: the steps that it adds and its two numbers of the table hold against its exact share and weight.
-- Assumes nothing.
use Rattle.std.specs.Prelude.{ℕ, ◌+◌, ◌*◌, ◌/◌, ◌^◌, ◌≤◌, ◌<◌, ◌≡◌, Bool, not, cond, [], ◌∷◌, Float, length}
use Rattle.std.proofs.Math.Path.{refl}
use Rattle.std.proofs.Common.{sym, ◌∙◌, ap, subst, ⊎_elim, arith, lit≤, lit<}
use Rattle.std.proofs.Math.Bool.{true, false}
use Rattle.std.specs.Float.Ieee.{of_bits, of_int, round}
use Rattle.algebra.specs.Reading.{identity, read}
use Rattle.enclosure.specs.Exact.{of_nat}
use Rattle.enclosure.specs.Fraction.{Fraction, whole, product, quotient}
use Rattle.enclosure.specs.Doubles.{nought, under_root}
use Rattle.enclosure.specs.laws.RootBounds.{RootHolds}
use Rattle.breaking.specs.laws.FigureSums as sums
use Rattle.elements.specs.BreakingFactor.{mu_at}
use Rattle.elements.specs.Doubles.{mu_by}
use Rattle.elements.specs.laws.BreakingFactor.{mu_bounds}
use Rattle.tree.specs.Shares.{share_square, terminal_square}
use Rattle.tree.specs.laws.ShareBounds.{rated_square}
use Rattle.tree.specs.Ways.{drive_by, strength_by, share_steps, rated_steps}
use Rattle.sweep.specs.Crossings.{factor_at}
use Rattle.network.specs.declared.study.Source.{Source}
use Rattle.network.specs.SourceKinds.{is_machine, has_generator, is_converter}
use Rattle.network.specs.RoundedSourceKinds.{volts_seen, kva_seen}
use Rattle.network.specs.laws.SourceKinds.{generator_cases}
use Rattle.network.specs.Network.{Network, source_at}
use Rattle.network.specs.Grid.{admittance_of, grid_of}
use Rattle.network.specs.Demand.{driving}
use Rattle.network.specs.Doubles.{machine_by, ways_from}
use Rattle.network.specs.laws.Tests.{never}
use Rattle.network.specs.laws.Rebuilt.{Rebuilt}
use Rattle.network.specs.laws.ShareFacts.{seen_generator, seen_unit}
use Rattle.network.specs.laws.Shares.{ways_volts, machine_share, machine_share_proper, share_small, generator_machine, generator_rated_share, generator_rated_proper}
use Rattle.breaking.specs.declared.parts.Part.{Part}
use Rattle.breaking.specs.Breaking.{share_square_at, q_square_at}
use Rattle.breaking.specs.Doubles.{weighed, amperes_up, generator_part, part_by, part_of, part_at}
use Rattle.breaking.specs.Promise.{ShareHolds}
use Rattle.breaking.specs.laws.Amperes.{share_holds, amperes_few}

-- ---- by two answers, whether a source is a generator and whether it is a converter, and by the root r of its share: its two numbers, its
-- weight in thousandths, m of a generator, and the steps between which its share lies
abbrev pub lower_by : Bool → ℕ → ℕ
lower_by g r = cond g (under_root r / 4096) 0

abbrev pub upper_by : Bool → ℕ → ℕ
upper_by g r = cond g (amperes_up (r + 1)) 0

abbrev pub weight_by : Bool → ℕ → ℕ
weight_by g m = cond g m 1000

abbrev pub high_by : Bool → Bool → ℕ → ℕ
high_by g c r = cond g (r + 1) (cond c 0 (r + 1))

abbrev pub low_by : Bool → Bool → ℕ → ℕ
low_by g c r = cond g (under_root r) (cond c 0 (under_root r))

-- ---- these are what `part_by` gives
nought_whole : nought ≡ of_nat 0
unfolding of_bits of_int round
nought_whole = refl

unweighed : (n : ℕ) → n ≡ weighed 1000 n
unweighed n = omega arith

module _ (delay : ℕ) (k ρ D : Float) (p : Source) where
  abbrev by : Bool → Bool → Part
  by g c =
      cond g (generator_part delay k ρ D p)
      (cond c (record { lower = nought; upper = nought; steps = 0 })
      (record { lower = nought; upper = nought; steps = share_steps k ρ D + 1 }))

  part_lower : (part_by delay k ρ D p).lower ≡ of_nat (lower_by (has_generator p) (share_steps k ρ D))
  unfolding part_by generator_part
  part_lower = go (has_generator p) (is_converter p)
    where
      go : (g c : Bool) → (by g c).lower ≡ of_nat (lower_by g (share_steps k ρ D))
      go true c = refl
      go false true = nought_whole
      go false false = nought_whole

  part_upper : (part_by delay k ρ D p).upper ≡ of_nat (upper_by (has_generator p) (share_steps k ρ D))
  unfolding part_by generator_part
  part_upper = go (has_generator p) (is_converter p)
    where
      go : (g c : Bool) → (by g c).upper ≡ of_nat (upper_by g (share_steps k ρ D))
      go true c = refl
      go false true = nought_whole
      go false false = nought_whole

  part_steps : (part_by delay k ρ D p).steps ≡ weighed (weight_by (has_generator p) (mu_by delay (rated_steps k ρ D (volts_seen p) (kva_seen p)))) (high_by (has_generator p) (is_converter p) (share_steps k ρ D))
  unfolding part_by generator_part
  part_steps = go (has_generator p) (is_converter p)
    where
      go : (g c : Bool) → (by g c).steps ≡ weighed (weight_by g (mu_by delay (rated_steps k ρ D (volts_seen p) (kva_seen p)))) (high_by g c (share_steps k ρ D))
      go true c = refl
      go false true = refl
      go false false = unweighed (share_steps k ρ D + 1)

-- ---- these hold: S is the square of a machine's share, w the weight of a generator. A converter has no share
no_part : sums.PartHolds 1000 1000 0 0 (whole 0)
no_part = record { proper = lit< tt; above = lit≤ tt; below = lit≤ tt; close = lit≤ tt; weight = lit≤ tt; weight_close = lit≤ tt; weight_most = lit≤ tt }

abbrev Weighs : ℕ → ℕ → Type 0
Weighs w m = (w ≤ m) × (1000 * m ≤ 1017 * w) × (m ≤ 1000)

abbrev Rooted : Fraction → ℕ → Type 0
Rooted S r = (0 < S.under) × RootHolds (16777216 * S.top) S.under r

holds_by : (w m r : ℕ) (S : Fraction) (g c : Bool) → (g ≡ true → c ≡ false) → (g ≡ true → Weighs w m) → (c ≡ false → Rooted S r)
    → sums.PartHolds (weight_by g w) (weight_by g m) (high_by g c r) (low_by g c r) (cond (not c) S (whole 0))
holds_by w m r S true true k u h = never (sym (k refl))
holds_by w m r S true false k u h = let x = u refl in let y = h refl in sums.part_of_root w m S r y.0 y.1 x.0 x.1 x.2
holds_by w m r S false true k u h = no_part
holds_by w m r S false false k u h = let y = h refl in sums.part_of_root 1000 1000 S r y.0 y.1 (lit≤ tt) (lit≤ tt) (lit≤ tt)

share_by : (r : ℕ) (S : Fraction) (g c : Bool) → (g ≡ true → c ≡ false) → (c ≡ false → Rooted S r) → g ≡ true → ShareHolds (cond (not c) S (whole 0)) (lower_by g r) (upper_by g r)
share_by r S true true k h e = never (sym (k refl))
share_by r S true false k h e = share_holds S r (h refl).1
share_by r S false c k h e = never e

few_by : (r : ℕ) (g c : Bool) → (g ≡ true → c ≡ false) → (c ≡ false → r + 1 ≤ 2 ^ 51) → (lower_by g r < 2 ^ 53) × (upper_by g r < 2 ^ 53) × (high_by g c r ≤ 2 ^ 51)
few_by r true c k h = let x = h (k refl) in ((amperes_few r x).0, (amperes_few r x).1, x)
few_by r false true k h = (lit< tt, lit< tt, lit≤ tt)
few_by r false false k h = (lit< tt, lit< tt, h refl)

-- 0 and 0 of any other kind
pub other_by : (g : Bool) (r : ℕ) → g ≡ false → (lower_by g r ≡ 0) × (upper_by g r ≡ 0)
other_by true r e = never (sym e)
other_by false r e = (refl, refl)

generator_no_converter : (p : Source) → has_generator p ≡ true → is_converter p ≡ false
generator_no_converter p g = ⊎_elim (λ (k : p.kind ≡ 2). rw k) (λ (k : p.kind ≡ 5). rw k) (generator_cases p g)

machine_of : (p : Source) → is_converter p ≡ false → is_machine p ≡ true
machine_of p c = rw c

-- ---- q at the terminals, S being the square of the share at the bus of the source: of a generator there, of a unit carried to its low side
fraction_same : (a b c d : ℕ) → a ≡ c → b ≡ d → ◌≡◌ {A = Fraction} (record { top = a; under = b }) (record { top = c; under = d })
fraction_same a b c d p q = rw (p, q)

abbrev rated_square_of : ℕ → ℕ → Fraction
rated_square_of volts kva = record { top = 1000000 * (kva * kva); under = 3 * (volts * volts) }

q_there : (S : Fraction) (volts kva : ℕ) → quotient (product S (whole 1)) (rated_square_of volts kva) ≡ quotient S (rated_square_of volts kva)
q_there S volts kva =
    fraction_same _ _ _ _
    (identity (S.top ∷ volts ∷ []) (search read depth 40 fits 20000) refl)
    (identity (S.under ∷ kva ∷ []) (search read depth 40 fits 20000) refl)

q_carried : (S : Fraction) (volts kva low high : ℕ)
    → quotient (product S (record { top = high * high; under = low * low })) (rated_square_of volts kva) ≡ quotient S (rated_square_of (volts * high) (kva * low))
q_carried S volts kva low high =
    fraction_same _ _ _ _
    (identity (S.top ∷ volts ∷ high ∷ []) (search read depth 40 fits 20000) refl)
    (identity (S.under ∷ kva ∷ low ∷ []) (search read depth 40 fits 20000) refl)

-- ---- of the source at place j, seen from bus b
module _ (n : Network) (b : ℕ) where
  abbrev strength_of : Source → Float
  strength_of p = strength_by (drive_by (driving n b)) (machine_by n p)

  abbrev ratio_of : Source → Float
  ratio_of p = factor_at (ways_from n b).reach.ratios p.bus

  abbrev divider_of : Source → Float
  divider_of p = factor_at (ways_from n b).reach.dividers p.bus

  abbrev root_at : ℕ → ℕ
  root_at j = let p = source_at n.sources j in share_steps (strength_of p) (ratio_of p) (divider_of p)

  abbrev pub lower_at : ℕ → ℕ
  lower_at j = lower_by (has_generator (source_at n.sources j)) (root_at j)

  abbrev pub upper_at : ℕ → ℕ
  upper_at j = upper_by (has_generator (source_at n.sources j)) (root_at j)

  abbrev pub steps_over : ℕ → ℕ
  steps_over j = let p = source_at n.sources j in high_by (has_generator p) (is_converter p) (root_at j)

  abbrev pub steps_under : ℕ → ℕ
  steps_under j = let p = source_at n.sources j in low_by (has_generator p) (is_converter p) (root_at j)

  module _ (delay : ℕ) where
    -- the weight, exact and as it is calculated
    abbrev pub weight_of : ℕ → ℕ
    weight_of j = weight_by (has_generator (source_at n.sources j)) (mu_at delay (q_square_at n b j))

    abbrev mu_over : ℕ → ℕ
    mu_over j = let p = source_at n.sources j in mu_by delay (rated_steps (strength_of p) (ratio_of p) (divider_of p) (volts_seen p) (kva_seen p))

    abbrev pub weight_over : ℕ → ℕ
    weight_over j = weight_by (has_generator (source_at n.sources j)) (mu_over j)

module _ {n : Network} (r : Rebuilt n) (b : ℕ) where
  module _ (delay : ℕ) where
    -- the calculation has the nominal volts from their column
    part_same : (p : Source) → part_at n b delay p ≡ part_by delay (strength_of n b p) (ratio_of n b p) (divider_of n b p) p
    unfolding part_of
    part_same p = rw (ways_volts r b b, ways_volts r b p.bus)

    pub lower_is : (j : ℕ) → (part_at n b delay (source_at n.sources j)).lower ≡ of_nat (lower_at n b j)
    lower_is j = ap (λ (x : Part). x.lower) (part_same (source_at n.sources j)) ∙ part_lower delay _ _ _ (source_at n.sources j)

    pub upper_is : (j : ℕ) → (part_at n b delay (source_at n.sources j)).upper ≡ of_nat (upper_at n b j)
    upper_is j = ap (λ (x : Part). x.upper) (part_same (source_at n.sources j)) ∙ part_upper delay _ _ _ (source_at n.sources j)

    pub steps_are : (j : ℕ) → (part_at n b delay (source_at n.sources j)).steps ≡ weighed (weight_over n b delay j) (steps_over n b j)
    steps_are j = ap (λ (x : Part). x.steps) (part_same (source_at n.sources j)) ∙ part_steps delay _ _ _ (source_at n.sources j)

  module _ (lb : b < length n.buses) (j : ℕ) (l : j < length n.sources) where
    abbrev square : Fraction
    square = let p = source_at n.sources j in share_square (grid_of n) (driving n b) (admittance_of n p) b p.bus

    single : has_generator (source_at n.sources j) ≡ true → is_converter (source_at n.sources j) ≡ false
    single = generator_no_converter (source_at n.sources j)

    rooted : is_converter (source_at n.sources j) ≡ false → Rooted square (root_at n b j)
    rooted c = let m = machine_of (source_at n.sources j) c in (machine_share_proper r b lb j l m, machine_share r b lb j l m)

    abbrev rated_at : Fraction
    rated_at = let p = source_at n.sources j in rated_square (grid_of n) (driving n b) (admittance_of n p) b p.bus (volts_seen p) (kva_seen p)

    q_seen : has_generator (source_at n.sources j) ≡ true → q_square_at n b j ≡ rated_at
    q_seen g =
        let p = source_at n.sources j in
        let m = generator_machine p g in
        let S = terminal_square (grid_of n) (driving n b) (admittance_of n p) b p.bus in
        ⊎_elim
        (λ (k : (source_at n.sources j).kind ≡ 2). let s = seen_generator r j l m k in rw (k, s.0, s.1) (q_there S p.f1 p.f2))
        (λ (k : (source_at n.sources j).kind ≡ 5). let s = seen_unit r j l m k in rw (k, s.0, s.1) (q_carried S p.f1 p.f2 p.low p.high))
        (generator_cases p g)

    weighs : (delay : ℕ) → has_generator (source_at n.sources j) ≡ true → Weighs (mu_at delay (q_square_at n b j)) (mu_over n b delay j)
    weighs delay g =
        let h = generator_rated_share r b lb j l g in
        subst (λ (q : Fraction). Weighs (mu_at delay q) (mu_over n b delay j)) (sym (q_seen g)) (mu_bounds delay rated_at (generator_rated_proper r b lb j l g) _ h.above h.under)

    -- THE PART HOLDS, AND A GENERATOR'S TWO NUMBERS HOLD
    pub part_holds : (delay : ℕ) → sums.PartHolds (weight_of n b delay j) (weight_over n b delay j) (steps_over n b j) (steps_under n b j) (share_square_at n b j)
    part_holds delay = holds_by _ _ (root_at n b j) square (has_generator (source_at n.sources j)) (is_converter (source_at n.sources j)) single (weighs delay) rooted

    pub numbers_hold : has_generator (source_at n.sources j) ≡ true → ShareHolds (share_square_at n b j) (lower_at n b j) (upper_at n b j)
    numbers_hold g = share_by (root_at n b j) square (has_generator (source_at n.sources j)) (is_converter (source_at n.sources j)) single rooted g

    pub few_at : (lower_at n b j < 2 ^ 53) × (upper_at n b j < 2 ^ 53) × (steps_over n b j ≤ 2 ^ 51)
    few_at = few_by (root_at n b j) (has_generator (source_at n.sources j)) (is_converter (source_at n.sources j)) single (λ c. share_small r b lb j l (machine_of (source_at n.sources j) c))

    pub proper_q_at : has_generator (source_at n.sources j) ≡ true → 0 < (q_square_at n b j).under
    proper_q_at g = subst (λ (q : Fraction). 0 < q.under) (sym (q_seen g)) (generator_rated_proper r b lb j l g)
