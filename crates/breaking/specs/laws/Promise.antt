-- THE PROMISE OF `breaking` IS KEPT by the calculation as Doubles defines it, for whatever calls made the network. Assumes nothing.
use Rattle.std.specs.Prelude.{ℕ, ◌+◌, ◌*◌, ◌^◌, ◌≤◌, ◌<◌, ◌≡◌, refl, true, List, [], ◌∷◌, Float, length}
use Rattle.std.proofs.Common.{sym, ◌∙◌, arith, le_refl, le_trans, mul-le-mul, mul-pos, leb-true, ltb-true, eq-eqb}
use Rattle.algebra.specs.Reading.{from_over, read, ◌⊹◌, ◌⋆◌}
use Rattle.enclosure.specs.Exact.{of_nat}
use Rattle.enclosure.specs.laws.Root.{root_le}
use Rattle.enclosure.specs.laws.WholeF64.{whole_few, plus_whole}
use Rattle.breaking.specs.laws.FigureSums.{Rest, sum_of, figure_of, figure_at_most, figure_at_least, steps_most}
use Rattle.network.specs.SourceKinds.{has_generator}
use Rattle.network.specs.Network.{Network, source_at}
use Rattle.network.specs.Demand.{Demand}
use Rattle.network.specs.Query.{amperes_given}
use Rattle.network.specs.laws.Acceptance.{test_of, ground}
use Rattle.network.specs.laws.Rebuilt.{Rebuilt, run_rebuilt}
use Rattle.network.specs.laws.AcceptedRecords.{few_sources, closed_source}
use Rattle.network.specs.laws.Claim.{demand}
use Rattle.network.specs.laws.Promise.{amperes_given_law}
use Rattle.network.specs.laws.Shares.{machine_share_some}
use Rattle.network.specs.laws.Tables.{laid_length, laid_beyond}
use Rattle.network.specs.Tables.{table_after, laid_over}
use Rattle.breaking.specs.Breaking.{breaking_grounds, breaking_number, figure_after, share_square_at, converters_part}
use Rattle.breaking.specs.Doubles.{weighed, amperes_up, part_at, table_of, steps_from, figure_at}
use Rattle.breaking.specs.Promise.{BreakingHolds, BreakingPromise}
use Rattle.breaking.specs.laws.Laid.{laid_lower, laid_upper, sum_same, steps_sum}
use Rattle.breaking.specs.laws.Tables.{table_length}
use Rattle.breaking.specs.laws.Sources.{lower_at, upper_at, weight_of, weight_over, steps_over, steps_under, lower_is, upper_is, steps_are, few_at, part_holds, numbers_hold, other_by, proper_q_at}

-- ---- over plain numbers: √2 times the converters' part A/D is at most a peak c below 2 ^ 53, so that its bounds are well below that
rest_less : (L A D c : ℕ) → 0 < D → L * D ≤ A → 2 * (A * A) ≤ c * c * (D * D) → c ≤ 2 ^ 53 → 4 * L ≤ 3 * 2 ^ 53
rest_less L A D c z h k l =
    root_le (4 * L) (3 * 2 ^ 53)
    (from_over (L ∷ A ∷ D ∷ c ∷ []) (D * D) (mul-pos z z) (16 ⋆ mul-le-mul h h ⊹ 8 ⋆ k ⊹ 8 * (D * D) ⋆ mul-le-mul l l) (search read depth 40 fits 20000) refl)

figure_less : (S L U : ℕ) → S ≤ 2 ^ 60 → 4 * L ≤ 3 * 2 ^ 53 → 1000 * U ≤ 1000 * (L + 2) + U → figure_of S U < 2 ^ 53
figure_less S L U h k n = omega arith

steps_less : (S : ℕ) → S ≤ 2 ^ 60 → amperes_up S ≤ 2 ^ 53
steps_less S h = omega arith

-- ---- a bus of a closed network
module _ {n : Network} (r : Rebuilt n) (c : n.closed ≡ true) (b : ℕ) (lb : b < length n.buses) (delay : ℕ) where
  abbrev places : ℕ
  places = length n.sources

  -- document 01's demand on what a query of the bus gives
  asked : Demand n b (amperes_given n b)
  asked = rw (amperes_given_law n b c lb) (demand r (closed_source r c) b lb)

  abbrev rest_lower : ℕ
  rest_lower = asked.figures.converters_lower

  abbrev rest_upper : ℕ
  rest_upper = asked.figures.converters_upper

  rest_holds : Rest rest_lower rest_upper (converters_part n b)
  rest_holds = record { proper = asked.converters.proper; low = asked.converters.below; high = asked.converters.above; narrow = asked.converters.narrow }

  -- the steps of all sources
  abbrev steps : ℕ
  steps = sum_of places (λ j. weighed (weight_over n b delay j) (steps_over n b j))

  steps_few : steps ≤ 2 ^ 60
  steps_few =
      le_trans (steps_most places (weight_over n b delay) (steps_over n b) (2 ^ 51) (λ j l. ((part_holds r b lb j l delay).weight_most, (few_at r b lb j l).2)))
      (mul-le-mul (few_sources r) (le_refl (2 ^ 51)))

  steps_same : steps_from (part_at n b delay) 0 n.sources ≡ steps
  steps_same = steps_sum (part_at n b delay) n.sources ∙ sum_same places _ _ (λ j l. steps_are r b delay j)

  figure_few : figure_of steps rest_upper < 2 ^ 53
  figure_few =
      figure_less steps rest_lower rest_upper steps_few
      (rest_less rest_lower _ _ asked.figures.converters_peak asked.converters.proper asked.converters.below asked.converters.crest.no_lower (omega (arith, asked.whole.peaks_small)))
      asked.converters.narrow

  figure_is : figure_at n b delay ≡ of_nat (figure_of steps rest_upper)
  unfolding figure_at
  figure_is =
      rw (steps_same, asked.whole.converters_upper, whole_few (amperes_up steps) (steps_less steps steps_few))
      (plus_whole (amperes_up steps) rest_upper (steps_less steps steps_few) (omega (arith, figure_few)))

  abbrev laid : List Float
  laid = table_of (part_at n b delay) n.sources

  -- WHAT THE CALCULATION GIVES HOLDS, laid over a table with room
  pub breaking_holds : (lent : List Float) → 2 * places ≤ length lent → BreakingHolds n b delay lent (laid_over laid lent) (figure_at n b delay)
  breaking_holds lent room = record {
    lower = lower_at n b;
    upper = upper_at n b;
    amperes = figure_of steps rest_upper;
    numbers = λ j l. (
      laid_lower (part_at n b delay) n.sources lent j l ∙ lower_is r b delay j,
      laid_upper (part_at n b delay) n.sources lent j l ∙ upper_is r b delay j,
      (few_at r b lb j l).0,
      (few_at r b lb j l).1,
    );
    figure_whole = (figure_is, figure_few);
    shares = λ j l g. numbers_hold r b lb j l g;
    others = λ j l g. other_by (has_generator (source_at n.sources j)) _ g;
    beyond = (laid_length laid lent (omega (arith, table_length (part_at n b delay) n.sources)), laid_beyond laid lent (2 * places) (sym (table_length (part_at n b delay) n.sources)));
    proper = λ j l. (part_holds r b lb j l delay).proper;
    some = λ j l m. rw m (machine_share_some r b lb j l m);
    proper_q = λ j l g. proper_q_at r b lb j l g;
    proper_converters = asked.converters.proper;
    enough =
        figure_at_most places (few_sources r) (weight_of n b delay) (weight_over n b delay) (steps_over n b) (steps_under n b) (share_square_at n b)
        (λ j l. part_holds r b lb j l delay) rest_lower rest_upper (converters_part n b) rest_holds;
    near =
        figure_at_least places (few_sources r) (weight_of n b delay) (weight_over n b delay) (steps_over n b) (steps_under n b) (share_square_at n b)
        (λ j l. part_holds r b lb j l delay) rest_lower rest_upper (converters_part n b) rest_holds;
  }

-- ---- what an accepted call has passed
passed : (n : Network) (b delay room k : ℕ) → breaking_number n b delay room ≡ 0 → test_of (breaking_grounds n b delay room) k ≡ true
unfolding breaking_number
passed n b delay room k e = ground (breaking_grounds n b delay room) k refl e

-- THE PROMISE IS KEPT
pub breaking_kept : (n : Network) (b delay : ℕ) (lent : List Float)
    → BreakingPromise n b delay lent (table_after (breaking_number n b delay (length lent)) (table_of (part_at n b delay) n.sources) lent)
    (figure_after (breaking_number n b delay (length lent)) (figure_at n b delay))
unfolding table_after figure_after
breaking_kept n b delay lent cs q e =
    rw (eq-eqb (breaking_number n b delay (length lent)) 0 e)
    (breaking_holds (rw q (run_rebuilt cs)) (passed n b delay (length lent) 22 e) b (ltb-true _ _ (passed n b delay (length lent) 15 e)) delay lent
    (leb-true _ _ (passed n b delay (length lent) 30 e)))
