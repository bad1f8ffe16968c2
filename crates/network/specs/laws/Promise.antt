-- Whatever gives what Query defines keeps the promise of a query. Assumes nothing.
use Rattle.std.specs.Prelude.{ℕ, ◌<◌, ◌≡◌, true, length}
use Rattle.std.proofs.Common.{sym, ◌∙◌, ap, arith, eq-eqb}
use Rattle.network.specs.declared.query.Amperes.{Amperes}
use Rattle.network.specs.declared.query.Found.{Found}
use Rattle.network.specs.Network.{Network, bus_at}
use Rattle.network.specs.Grounds.{run}
use Rattle.network.specs.laws.Rebuilt.{Rebuilt, run_rebuilt}
use Rattle.network.specs.laws.AcceptedRecords.{bus_rating, bus_peak_rating, closed_source}
use Rattle.network.specs.Demand.{Figures, WholeAmperes, verdict_at}
use Rattle.network.specs.Doubles.{amperes_at, rated_verdict}
use Rattle.network.specs.Query.{query_number, amperes_given, found_given}
use Rattle.network.specs.laws.Claim.{demand}
use Rattle.network.specs.Promise.{machines_of, Kept, Promise}
use Rattle.network.specs.laws.Alike.{machines_alike}
use Rattle.network.specs.laws.Verdict.{query_accepted, verdict_given_law, verdict_whole}

pub amperes_given_law : (n : Network) (b : ℕ) → n.closed ≡ true → b < length n.buses → amperes_given n b ≡ amperes_at n b
unfolding amperes_given
amperes_given_law n b c l = rw (eq-eqb (query_number n b) 0 (query_accepted n b c l))

-- the verdict on whole amperes, by the ratings of an accepted bus
pub verdict_rated : {n : Network} → Rebuilt n → (b : ℕ) → b < length n.buses → (a : Amperes) (g : Figures) → WholeAmperes a g
    → rated_verdict (bus_at n.buses b) a ≡ verdict_at n b g
verdict_rated r b l a g w = verdict_whole a g w _ _ (omega (arith, (bus_rating r b l).1)) (omega (arith, (bus_peak_rating r b l).1))

-- WHAT QUERY DEFINES KEEPS IT, for every closed network with the invariant
pub kept : {n : Network} → Rebuilt n → n.closed ≡ true → (b : ℕ) → b < length n.buses → Kept n b (found_given n b)
unfolding found_given
kept {n} r c b l = record {
  accepted = query_accepted n b c l;
  demand = rw amperes_same (demand r (closed_source r c) b l);
  verdict = λ g w.
      verdict_given_law n b (query_accepted n b c l)
      ∙ verdict_rated r b l (amperes_at n b) g (rw amperes_same at w);
  same = λ ds d a.
      ap machines_of amperes_same ∙ machines_alike n (run ds) a b
      ∙ ap machines_of (sym (amperes_given_law (run ds) b d (rw a.buses at l)));
}
  where
    amperes_same : amperes_given n b ≡ amperes_at n b
    amperes_same = amperes_given_law n b c l

-- and so whatever gives it keeps the promise
pub promised : (n : Network) (b : ℕ) (f : Found) → f ≡ found_given n b → Promise n b f
promised n b f e cs q c l = rw e (kept (rw q (run_rebuilt cs)) c b l)
