-- Querying a bus: the grounds of refusal, and what is given.
use Rattle.std.specs.Prelude.{cond, List, [], ◌∷◌, ℕ, ltb, eqb, length}
use Rattle.network.specs.declared.query.Amperes.{Amperes}
use Rattle.network.specs.declared.query.Verdict.{Verdict}
use Rattle.network.specs.declared.query.Verdict.TheVariants.{Close}
use Rattle.network.specs.Network.{Network, bus_at}
use Rattle.network.specs.Grounds.{Ground, on, first}
use Rattle.network.specs.Demand.{amperes_of}
use Rattle.network.specs.Doubles.{amperes_at, rated_verdict}
use Rattle.network.specs.declared.query.Found.{Found}

-- "22 not closed (querying)."; "15 queried bus absent."
abbrev pub query_grounds : Network → ℕ → List Ground
query_grounds n b = on n.closed 22 ∷ on (ltb b (length n.buses)) 15 ∷ []

unfoldable pub query_number : Network → ℕ → ℕ
query_number n b = first (query_grounds n b)

-- "a refused query has six amperes 0 and verdict close"
abbrev pub no_amperes : Amperes
no_amperes = amperes_of (record { lower = 0; upper = 0; converters_lower = 0; converters_upper = 0; peak = 0; converters_peak = 0 })

unfoldable pub amperes_given : Network → ℕ → Amperes
amperes_given n b = cond (eqb (query_number n b) 0) (amperes_at n b) no_amperes

unfoldable pub verdict_given : Network → ℕ → Verdict
verdict_given n b = cond (eqb (query_number n b) 0) (rated_verdict (bus_at n.buses b) (amperes_at n b)) Close

-- what a query of bus b gives
unfoldable pub found_given : Network → ℕ → Found
found_given n b = record { number = query_number n b; amperes = amperes_given n b; verdict = verdict_given n b }
