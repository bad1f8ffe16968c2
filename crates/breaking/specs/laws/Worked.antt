-- Order 3 of document 02 at bus 0 of document 01's worked network of two buses, for a breaker that opens after 100 ms and a lent table of
-- seven numbers. Every bound here follows from the promise alone, and the promise gives no narrower one: whoever loosens it breaks this file.
-- Assumes nothing.
use Rattle.std.specs.Prelude.{ℕ, zero, suc, ◌*◌, ◌-◌, ◌^◌, ◌≤◌, ◌<◌, ◌≡◌, refl, List, [], ◌∷◌, Float, length, get_or}
use Rattle.std.proofs.Common.{sym, ◌∙◌, ap, arith, le_refl, lt_of_not-le, le_of_eq, not-suc-le-zero, le_of_suc-le-suc, eqb→eq, le→leb, lit<}
use Rattle.std.specs.Float.{nan}
use Rattle.algebra.specs.Reading.{from, read, ◌⊹◌, ◌⋆◌}
use Rattle.enclosure.specs.Exact.{of_nat, inverse, root_of, root_up}
use Rattle.enclosure.specs.Fraction.{Fraction, Most, whole, product, total}
use Rattle.enclosure.specs.laws.Root.{below_of_squares}
use Rattle.elements.specs.Factors.{t_over, t_under, numerator, denominator, ceiling, factor_c, sine_of, split_of}
use Rattle.elements.specs.Impedance.{line, split, feeder, generator, converter}
use Rattle.elements.specs.BreakingFactor.{formula_of, mu_of, tenths_of, mu_at}
use Rattle.tree.specs.Grid.{joined, neighbour, through, seen, across, carried_without}
use Rattle.tree.specs.Shares.{onward, share_square, terminal_square}
use Rattle.network.specs.SourceKinds.{impedance_of}
use Rattle.network.specs.Grid.{branch_of, above_of, below_of}
use Rattle.network.specs.Tables.{table_after}
use Rattle.network.specs.laws.Tables.{number_beyond}
use Rattle.network.specs.laws.Worked.{two, two_calls, two_made}
use Rattle.breaking.specs.Breaking.{breaking_number, figure_after, share_square_at, q_square_at, converters_part}
use Rattle.breaking.specs.Doubles.{part_at, table_of, figure_at}
use Rattle.breaking.specs.Promise.{BreakingHolds, BreakingPromise}
use Rattle.breaking.specs.laws.Promise.{breaking_kept}

accepted : (room : ℕ) → room ≡ 7 → breaking_number two 0 100 room ≡ 0
unfolding breaking_number
accepted room e = rw e refl

-- ---- exact values, by computing the definitions
feeder_share : 3 * (share_square_at two 0 0).top ≡ 100000000 * (share_square_at two 0 0).under
unfolding share_square onward seen through joined neighbour inverse branch_of above_of below_of impedance_of line feeder split generator split_of root_of sine_of root_up factor_c
feeder_share = eqb→eq (3 * (share_square_at two 0 0).top) (100000000 * (share_square_at two 0 0).under) tt

generator_share : 27 * (share_square_at two 0 1).top ≡ 100000000 * (share_square_at two 0 1).under
unfolding share_square onward seen through joined neighbour inverse branch_of above_of below_of impedance_of line feeder split generator split_of root_of sine_of root_up factor_c
generator_share = eqb→eq (27 * (share_square_at two 0 1).top) (100000000 * (share_square_at two 0 1).under) tt

generator_q : 9 * (q_square_at two 0 1).top ≡ 100 * (q_square_at two 0 1).under
unfolding terminal_square share_square onward seen through joined neighbour inverse branch_of above_of below_of impedance_of line feeder split generator split_of root_of sine_of root_up factor_c
generator_q = eqb→eq (9 * (q_square_at two 0 1).top) (100 * (q_square_at two 0 1).under) tt

generator_mu : mu_at 100 (q_square_at two 0 1) ≡ 871
unfolding mu_at mu_of tenths_of formula_of t_over t_under numerator denominator ceiling terminal_square share_square onward seen through joined neighbour inverse branch_of above_of below_of impedance_of line feeder split generator split_of root_of sine_of root_up factor_c
generator_mu = eqb→eq (mu_at 100 (q_square_at two 0 1)) 871 tt

converters : (converters_part two 0).top ≡ 200 * (converters_part two 0).under
unfolding carried_without across joined neighbour above_of below_of converter
converters = eqb→eq (converters_part two 0).top (200 * (converters_part two 0).under) tt

-- ---- over plain numbers: what a fraction t/u of that value says of a bound
contrary : {P : Type 0} → 1 ≤ 0 → P
contrary h = absurd (le→leb 1 0 h)

-- by `below`, if u is above 0
share_most : (t u l : ℕ) → 27 * t ≡ 100000000 * u → 0 < u → l * l * u ≤ t * 1 → l < 1925
share_most t u l e z h =
    below_of_squares l 1925
    (lt_of_not-le (λ (q : 1925 * 1925 ≤ l * l). contrary (from (t ∷ u ∷ l ∷ []) (27 ⋆ h ⊹ le_of_eq e ⊹ 27 * u ⋆ q ⊹ z) (search read depth 40 fits 20000) refl)))

-- by `above`, if t is above 0
share_least : (t u k : ℕ) → 27 * t ≡ 100000000 * u → 0 < t → t * 1 ≤ k * k * u → 1924 < k
share_least t u k e z h =
    below_of_squares 1924 k
    (lt_of_not-le
    (λ (q : k * k ≤ 1924 * 1924).
    contrary
    (from (t ∷ u ∷ k ∷ []) (100000000 ⋆ h ⊹ 1924 * 1924 ⋆ le_of_eq (sym e) ⊹ 100000000 * u ⋆ q ⊹ z) (search read depth 40 fits 20000) refl)))

-- "q in tenths rounded down"
tenths_of_q : (t u : ℕ) → 9 * t ≡ 100 * u → 0 < u → (33 * 33 * u ≤ 100 * t) × (100 * t < 34 * 34 * u)
tenths_of_q t u e z = (omega arith, omega arith)

-- ---- over plain numbers: the sum of the feeder's magnitude, m thousandths of the generator's, both in tenths of an ampere, and C
abbrev tenths : List ℕ → ℕ → Fraction
tenths l j = record { top = get_or l j 0; under = 10 }

abbrev weights : ℕ → ℕ → Fraction
weights m j = record { top = get_or (1000 ∷ m ∷ 1000 ∷ []) j 0; under = 1000 }

abbrev low : ℕ → Fraction
low = tenths (57735 ∷ 19245 ∷ 0 ∷ [])

abbrev high : ℕ → Fraction
high = tenths (57736 ∷ 19246 ∷ 0 ∷ [])

figure_least : (m a : ℕ) (C : Fraction) → m ≡ 871 → C.top ≡ 200 * C.under → 0 < C.under → Most (total 3 (weights m) low C) (whole a) → 7649 < a
figure_least m a C e c z h =
    let t = C.top in
    let u = C.under in
    lt_of_not-le
    (λ (q : a ≤ 7649).
    contrary
    (from (m ∷ a ∷ t ∷ u ∷ []) (h ⊹ 1000000000000 * u ⋆ q ⊹ 1000000000000 ⋆ le_of_eq (sym c) ⊹ 1924500000000 * u ⋆ le_of_eq (sym e) ⊹ z) (search read depth 40 fits 20000) refl))

figure_most : (m d : ℕ) (C : Fraction) → m ≡ 871 → C.top ≡ 200 * C.under → 0 < C.under → Most (record { top = 100 * d; under = 103 }) (total 3 (weights m) high C) → d < 7880
figure_most m d C e c z h =
    let t = C.top in
    let u = C.under in
    lt_of_not-le
    (λ (q : 7880 ≤ d).
    contrary
    (from (m ∷ d ∷ t ∷ u ∷ []) (h ⊹ 100000000000000 * u ⋆ q ⊹ 103000000000000 ⋆ le_of_eq c ⊹ 198233800000000 * u ⋆ le_of_eq e ⊹ z) (search read depth 40 fits 20000) refl))

-- the shares in tenths of an ampere: these are below and above them
feeder_near : (t u : ℕ) → 3 * t ≡ 100000000 * u → (57735 * 57735 * u ≤ t * 100) × (t * 100 ≤ 57736 * 57736 * u)
feeder_near t u e = (omega arith, omega arith)

generator_near : (t u : ℕ) → 27 * t ≡ 100000000 * u → (19245 * 19245 * u ≤ t * 100) × (t * 100 ≤ 19246 * 19246 * u)
generator_near t u e = (omega arith, omega arith)

low_fits : (j : ℕ) → j < 3 → (0 < (low j).under) × Most (product (low j) (low j)) (share_square_at two 0 j)
low_fits zero l = (lit< tt, (feeder_near _ _ feeder_share).0)
low_fits (suc zero) l = (lit< tt, (generator_near _ _ generator_share).0)
low_fits (suc (suc zero)) l = (lit< tt, le_refl 0)
low_fits (suc (suc (suc k))) l = absurd (not-suc-le-zero (le_of_suc-le-suc (le_of_suc-le-suc (le_of_suc-le-suc l))))

high_fits : (j : ℕ) → j < 3 → (0 < (high j).under) × Most (share_square_at two 0 j) (product (high j) (high j))
high_fits zero l = (lit< tt, (feeder_near _ _ feeder_share).1)
high_fits (suc zero) l = (lit< tt, (generator_near _ _ generator_share).1)
high_fits (suc (suc zero)) l = (lit< tt, le_refl 0)
high_fits (suc (suc (suc k))) l = absurd (not-suc-le-zero (le_of_suc-le-suc (le_of_suc-le-suc (le_of_suc-le-suc l))))

-- ORDER 3 AT BUS 0 OF TWO BUSES, as one table: a lent table of seven numbers, the table given back, and the figure
pub record Worked (lent table : List Float) (figure : Float) : Type 0 where
  pub lower : ℕ
  pub upper : ℕ
  pub amperes : ℕ
  -- "two numbers a source in source order": the generator is the second source
  pub numbers : (get_or table 2 nan ≡ of_nat lower) × (get_or table 3 nan ≡ of_nat upper) × (lower < 2 ^ 53) × (upper < 2 ^ 53)
  -- "the magnitude of its own part of the fault current": 10,000/√27 A, or 1,924.5 A
  pub share : 27 * (share_square_at two 0 1).top ≡ 100000000 * (share_square_at two 0 1).under
  -- "For each generator give whole bounds on its share": the lower is not above it, nor the upper below it
  pub bounds : (lower ≤ 1924) × (1925 ≤ upper)
  -- "at most 2 A plus a thousandth of the upper apart"
  pub widest : (1922 ≤ lower) × (upper ≤ 1927)
  -- "0, 0 for other kinds": the feeder is the first source, the converter the third
  pub others : (get_or table 0 nan ≡ of_nat 0) × (get_or table 1 nan ≡ of_nat 0) × (get_or table 4 nan ≡ of_nat 0) × (get_or table 5 nan ≡ of_nat 0)
  -- "numbers beyond the last source's are kept"
  pub beyond : (length table ≡ 7) × (get_or table 6 nan ≡ get_or lent 6 nan)
  -- "with exact shares": they are fractions, the feeder's is above 0, and no comparison holds because there is nothing to compare
  pub fractions : (0 < (share_square_at two 0 0).under) × (0 < (share_square_at two 0 0).top) × (0 < (share_square_at two 0 2).under) × (0 < (converters_part two 0).under)
  -- "q the share over the generator's rated current": 10/3, which is above 2, and "q in tenths rounded down" 33
  pub q : (33 * 33 * (q_square_at two 0 1).under ≤ 100 * (q_square_at two 0 1).top) × (100 * (q_square_at two 0 1).top < 34 * 34 * (q_square_at two 0 1).under)
  -- "in thousandths rounded up": 0.62 + 0.72·e^(−0.32·3.3)
  pub mu : mu_at 100 (q_square_at two 0 1) ≡ 871
  -- the sum is 10,000/√3 + 0.871·10,000/√27 + 200 A, or 7,649.743 A: "The breaking figure is never below that sum with exact shares and the
  -- stated table"
  pub figure_whole : (figure ≡ of_nat amperes) × (amperes < 2 ^ 53)
  pub enough : 7650 ≤ amperes
  -- "nor above it by more than 3 % plus 4 A": 7,883.235 A
  pub near : amperes ≤ 7883

-- ---- by the promise
module _ {lent table : List Float} {figure : Float} (h : BreakingHolds two 0 100 lent table figure) (room : length lent ≡ 7) where
  lower_most : h.lower 1 < 1925
  lower_most = share_most _ _ (h.lower 1) generator_share (h.proper 1 (lit< tt)) (h.shares 1 (lit< tt) refl).below

  upper_least : 1924 < h.upper 1
  upper_least = share_least _ _ (h.upper 1) generator_share (h.some 1 (lit< tt) refl) (h.shares 1 (lit< tt) refl).above

  -- both numbers of a source that has none
  nought : (j : ℕ) (x y : Float) → (x ≡ of_nat (h.lower j)) × (y ≡ of_nat (h.upper j)) × (h.lower j < 2 ^ 53) × (h.upper j < 2 ^ 53) → (h.lower j ≡ 0) × (h.upper j ≡ 0) → (x ≡ of_nat 0) × (y ≡ of_nat 0)
  nought j x y k o = (k.0 ∙ ap of_nat o.0, k.1 ∙ ap of_nat o.1)

  figure_above : 7649 < h.amperes
  figure_above = figure_least _ h.amperes _ generator_mu converters h.proper_converters (h.enough low low_fits)

  figure_below : h.amperes - 4 < 7880
  figure_below = figure_most _ (h.amperes - 4) _ generator_mu converters h.proper_converters (h.near high high_fits)

  held : Worked lent table figure
  held =
      let narrow = (h.shares 1 (lit< tt) refl).narrow in
      let first = nought 0 _ _ (h.numbers 0 (lit< tt)) (h.others 0 (lit< tt) refl) in
      let third = nought 2 _ _ (h.numbers 2 (lit< tt)) (h.others 2 (lit< tt) refl) in
      record {
        lower = h.lower 1;
        upper = h.upper 1;
        amperes = h.amperes;
        numbers = h.numbers 1 (lit< tt);
        share = generator_share;
        bounds = (omega (arith, lower_most), omega (arith, upper_least));
        widest = (omega (arith, upper_least, narrow), omega (arith, lower_most, narrow));
        others = (first.0, first.1, third.0, third.1);
        beyond = (h.beyond.0 ∙ room, number_beyond 6 table lent h.beyond.1);
        fractions = (h.proper 0 (lit< tt), h.some 0 (lit< tt) refl, h.proper 2 (lit< tt), h.proper_converters);
        q = tenths_of_q _ _ generator_q (h.proper_q 1 (lit< tt) refl);
        mu = generator_mu;
        figure_whole = h.figure_whole;
        enough = omega (arith, figure_above);
        near = omega (arith, figure_below);
      }

-- whatever keeps the promise
pub promised : (lent table : List Float) (figure : Float) → length lent ≡ 7 → BreakingPromise two 0 100 lent table figure → Worked lent table figure
promised lent table figure room p = held (p two_calls (sym two_made) (accepted (length lent) room)) room

-- and so what the call gives
pub worked : (lent : List Float) → length lent ≡ 7
    → Worked lent (table_after (breaking_number two 0 100 (length lent)) (table_of (part_at two 0 100) two.sources) lent)
    (figure_after (breaking_number two 0 100 (length lent)) (figure_at two 0 100))
worked lent room = promised lent _ _ room (breaking_kept two 0 100 lent)
