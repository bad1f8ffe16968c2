-- THE PROMISE of a query, whole: for whatever calls made the study, refused ones among them, if it is closed and the bus is there, then
-- the amperes given meet demand 3 for the network read off those calls, the verdict follows from them as document 01 says, and a network
-- alike in all but its converters gets the same machines' figures. That every query keeps it is proved in laws/Promise.
use Rattle.std.specs.Prelude.{◌≡◌, Float, ℕ, ◌<◌, true, List, length}
use Rattle.tree.specs.Grid.{filtered}
use Rattle.network.specs.declared.query.Amperes.{Amperes}
use Rattle.network.specs.Network.{Network}
use Rattle.network.specs.SourceKinds.{is_machine}
use Rattle.network.specs.declared.query.Found.{Found}
use Rattle.network.specs.Grounds.{Call, run}
use Rattle.network.specs.Demand.{Figures, WholeAmperes, Demand, verdict_at}
use Rattle.network.specs.Query.{amperes_given}

-- "Networks are alike in all but their converters when tolerance, buses and the other sources, in order, agree." The other sources are the
-- machines: whatever is no converter
pub record Alike (n m : Network) : Type 0 where
  pub tolerance : n.tolerance ≡ m.tolerance
  pub buses : n.buses ≡ m.buses
  pub others : filtered is_machine n.sources ≡ filtered is_machine m.sources

-- the machines' two bounds and their peak
abbrev pub machines_of : Amperes → (Float × Float × Float)
machines_of a = (a.lower.0, a.upper.0, a.peak.0)

-- of a network, a bus of it and what a query gives there
pub record Kept (n : Network) (b : ℕ) (f : Found) : Type 0 where
  -- "An accepted call carries number 0"
  pub accepted : f.number ≡ 0
  -- demand 3
  pub demand : Demand n b f.amperes
  -- "Verdict": on the six whole numbers that the amperes are
  pub verdict : (g : Figures) → WholeAmperes f.amperes g → f.verdict ≡ verdict_at n b g
  -- demand 3: any two accepted networks alike in all but their converters get, at every bus, the same bounds and peak for the machines' part
  pub same : (ds : List Call) → (run ds).closed ≡ true → Alike n (run ds) → machines_of f.amperes ≡ machines_of (amperes_given (run ds) b)

abbrev pub Promise : Network → ℕ → Found → Type 0
Promise n b f = (cs : List Call) → n ≡ run cs → n.closed ≡ true → b < length n.buses → Kept n b f
