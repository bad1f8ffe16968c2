-- What a query gives in each of its cases. Assumes nothing.
use Rattle.std.specs.Prelude.{ℕ, ◌≤◌, ◌<◌, ◌≡◌, true, false, length}
use Rattle.std.proofs.Common.{◌∙◌, ap, ap₂, lt-ltb, le-ltb}
use Rattle.elements.specs.Factors.{factor_c}
use Rattle.network.specs.declared.study.Bus.{Bus}
use Rattle.network.specs.declared.query.Amperes.{Amperes}
use Rattle.network.specs.declared.query.Found.{Found}
use Rattle.network.specs.declared.query.Verdict.{Verdict}
use Rattle.network.specs.declared.query.Verdict.TheVariants.{Close}
use Rattle.network.specs.Network.{Network, bus_at}
use Rattle.network.specs.Demand.{amperes_of}
use Rattle.network.specs.Doubles.{seen_at, carried_at, figures_by, rated_verdict}
use Rattle.network.specs.Query.{query_number, no_amperes, amperes_given, verdict_given, found_given}

-- a refused query
abbrev pub refused_by : ℕ → Found
refused_by number = record { number = number; amperes = no_amperes; verdict = Close }

pub refused_whole : (f : Found) (number : ℕ) → f.number ≡ number → f.amperes ≡ no_amperes → f.verdict ≡ Close → f ≡ refused_by number
refused_whole f number p q v =
    ap (λ (k : ℕ). record { number = k; amperes = f.amperes; verdict = f.verdict }) p
    ∙ ap₂ (λ (a : Amperes) (w : Verdict). record { number = number; amperes = a; verdict = w }) q v

-- what bus b gets by a record, and an accepted query by it
abbrev pub row_by : Network → ℕ → Bus → Amperes
row_by n b x = amperes_of (figures_by (factor_c n.tolerance x.volts) x.volts (seen_at n b) (carried_at n b))

abbrev pub answer_by : Network → ℕ → Bus → Found
answer_by n b x = record { number = 0; amperes = row_by n b x; verdict = rated_verdict x (row_by n b x) }

module _ (n : Network) where
  -- "22 not closed", whatever the bus
  pub found_open : n.closed ≡ false → (b : ℕ) → found_given n b ≡ refused_by 22
  unfolding found_given query_number amperes_given verdict_given
  found_open e b = rw e

  -- "15 queried bus absent"
  pub found_absent : n.closed ≡ true → (b : ℕ) → length n.buses ≤ b → found_given n b ≡ refused_by 15
  unfolding found_given query_number amperes_given verdict_given
  found_absent e b h = rw (e, le-ltb b (length n.buses) h)

  pub found_there : n.closed ≡ true → (b : ℕ) → b < length n.buses → found_given n b ≡ answer_by n b (bus_at n.buses b)
  unfolding found_given query_number amperes_given verdict_given
  found_there e b h = rw (e, lt-ltb b (length n.buses) h)
