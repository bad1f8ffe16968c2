-- The verdict on whole amperes is document 01's, on the whole numbers. Assumes nothing.
use Rattle.std.specs.Prelude.{ℕ, ◌+◌, ◌-◌, ◌^◌, ◌≤◌, ◌<◌, ◌≡◌, Bool, true, cond, ltb, leb, length}
use Rattle.std.proofs.Common.{◌∙◌, ap, arith, le_of_lt, ltb-true, leb-true, lt-ltb, eq-eqb}
use Rattle.std.specs.Float.{binary64}
use Rattle.std.specs.Float.Ieee.{sub, lt, le}
use Rattle.enclosure.specs.Exact.{of_nat}
use Rattle.enclosure.specs.laws.WholeF64.{plus_whole, minus_whole, less_whole, most_whole}
use Rattle.network.specs.declared.query.Amperes.{Amperes}
use Rattle.network.specs.declared.query.Verdict.{Verdict}
use Rattle.network.specs.declared.query.Verdict.TheVariants.{Within, Over, Close}
use Rattle.network.specs.Network.{Network, bus_at}
use Rattle.network.specs.laws.Tests.{by_test}
use Rattle.network.specs.Demand.{Figures, WholeAmperes, verdict_on}
use Rattle.network.specs.Doubles.{amperes_at, verdict_of, rated_verdict}
use Rattle.network.specs.Query.{query_number, verdict_given}

-- P against its rating, then the rest
over_or : (p q : ℕ) (v w : Verdict) → p ≤ 2 ^ 53 → q ≤ 2 ^ 53 → v ≡ w
    → cond (lt (of_nat q) (of_nat p)) (Over (sub binary64 (of_nat p) (of_nat q))) v ≡ cond (ltb q p) (Over (of_nat (p - q))) w
over_or p q v w hp hq e =
    rw (less_whole q p hq hp)
    (by_test (ltb q p)
    (λ t. rw t (ap Over (minus_whole p q hp (le_of_lt (ltb-true q p t)))))
    (λ t. rw t e))

within_or : (u r : ℕ) → u ≤ 2 ^ 53 → r ≤ 2 ^ 53
    → cond (le (of_nat u) (of_nat r)) (Within (sub binary64 (of_nat r) (of_nat u))) Close ≡ cond (leb u r) (Within (of_nat (r - u))) Close
within_or u r hu hr =
    rw (most_whole u r hu hr)
    (by_test (leb u r)
    (λ t. rw t (ap Within (minus_whole r u hr (leb-true u r t))))
    (λ t. rw t))

-- THE VERDICT on whole amperes
pub verdict_whole : (a : Amperes) (f : Figures) → WholeAmperes a f → (rating peakRating : ℕ) → rating ≤ 2 ^ 53 → peakRating ≤ 2 ^ 53
    → verdict_of a (of_nat rating) (of_nat peakRating) ≡ verdict_on f rating peakRating
unfolding verdict_of
verdict_whole a f w rating peakRating hr hp =
    rw (
      w.lower,
      w.converters_lower,
      w.upper,
      w.converters_upper,
      w.peak,
      w.converters_peak,
      plus_whole f.lower f.converters_lower (omega (arith, w.lowers_small)) (omega (arith, w.lowers_small)),
      plus_whole f.upper f.converters_upper (omega (arith, w.uppers_small)) (omega (arith, w.uppers_small)),
      plus_whole f.peak f.converters_peak (omega (arith, w.peaks_small)) (omega (arith, w.peaks_small)),
    )
    (over_or (f.peak + f.converters_peak) peakRating _ _ (le_of_lt w.peaks_small) hp
    (over_or (f.lower + f.converters_lower) rating _ _ (le_of_lt w.lowers_small) hr
    (within_or (f.upper + f.converters_upper) rating (le_of_lt w.uppers_small) hr)))

-- a query of a bus of a closed network is accepted
pub query_accepted : (n : Network) (b : ℕ) → n.closed ≡ true → b < length n.buses → query_number n b ≡ 0
unfolding query_number
query_accepted n b c l = ap (λ (t : Bool). cond t (cond (ltb b (length n.buses)) 0 15) 22) c ∙ ap (λ (t : Bool). cond t 0 15) (lt-ltb b (length n.buses) l)

pub verdict_given_law : (n : Network) (b : ℕ) → query_number n b ≡ 0 → verdict_given n b ≡ rated_verdict (bus_at n.buses b) (amperes_at n b)
unfolding verdict_given
verdict_given_law n b e = rw (eq-eqb (query_number n b) 0 e)
