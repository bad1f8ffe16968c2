-- The network of a study: its tolerance, whether it is closed, and the lists of its records, each kind in order. Since order 8 of document
-- 02 its sources are those of the plain list (PlainList).
use Rattle.std.specs.Prelude.{Bool, false, cond, List, [], ◌∷◌, ◌++◌, ℕ, zero, suc, ◌+◌, eqb, take, get_or, set}
pub use Rattle.tree.specs.Limits.{Limits, here, max_buses, max_sources, max_branches, max_transformers}
use Rattle.tree.specs.Grid.{toward}
use Rattle.network.specs.declared.study.Bus.{Bus}
use Rattle.network.specs.declared.study.Source.{Source}
use Rattle.network.specs.declared.study.Study.{Study}

-- "the tolerance of its start, the bus records and the source records of its accepted additions, each kind in order", and
-- "whether its study is closed"
pub record Network : Type 0 where
  pub tolerance : ℕ
  pub closed : Bool
  pub buses : List Bus
  pub sources : List Source

-- the network that the values of a study stand for: of each array the records that are counted, at most all of them
abbrev pub network : Study → Network
network s = record {
  tolerance = s.tolerance;
  closed = s.closed;
  buses = take s.bus_count s.buses;
  sources = take s.source_count s.sources;
}

-- ---- how networks come about. No other definition and no law spells out a network, so that what a change leaves as it was stands here alone.
-- an open network of these records
abbrev pub open_of : ℕ → List Bus → List Source → Network
open_of t bs ps = record { tolerance = t; closed = false; buses = bs; sources = ps }

-- the same network with one bus more, the next number
abbrev pub with_bus : Network → Bus → Network
with_bus n b = record { tolerance = n.tolerance; closed = n.closed; buses = n.buses ++ (b ∷ []); sources = n.sources }

-- with these sources for its own
abbrev pub with_sources : Network → List Source → Network
with_sources n ps = record { tolerance = n.tolerance; closed = n.closed; buses = n.buses; sources = ps }

-- with one source more, at the next place
abbrev pub with_source : Network → Source → Network
with_source n p = with_sources n (n.sources ++ (p ∷ []))

-- a list without the element at place j, those behind it one place up; and with another element there
abbrev pub removed : {X : Type 0} → ℕ → List X → List X
removed j [] = []
removed zero (x ∷ l) = l
removed (suc j) (x ∷ l) = x ∷ removed j l

abbrev pub rewritten : {X : Type 0} → ℕ → X → List X → List X
rewritten j x l = set l j x

-- without the source at place j, and with another record there
abbrev pub without_source : Network → ℕ → Network
without_source n j = with_sources n (removed j n.sources)

abbrev pub with_source_at : Network → ℕ → Source → Network
with_source_at n j p = with_sources n (rewritten j p n.sources)

-- closed or open
abbrev pub closed_as : Bool → Network → Network
closed_as c n = record { tolerance = n.tolerance; closed = c; buses = n.buses; sources = n.sources }

-- the record that is read past the end of a list
abbrev pub blank : Bus
blank = record { parent = 0; volts = 0; kind = 0; f1 = 0; f2 = 0; f3 = 0; f4 = 0; f5 = 0; rating = 0; peak_rating = 0 }

abbrev pub blank_source : Source
blank_source = record { kind = 0; bus = 0; f1 = 0; f2 = 0; f3 = 0; f4 = 0; f5 = 0; low = 0; high = 0; transformer_kva = 0; uk = 0; ur = 0 }

-- "Buses are numbered from 0 as accepted": the record of bus i, and that of its parent
abbrev pub bus_at : List Bus → ℕ → Bus
bus_at l i = get_or l i blank

abbrev pub parent_record : List Bus → ℕ → Bus
parent_record l i = bus_at l (bus_at l i).parent

abbrev pub source_at : List Source → ℕ → Source
source_at l j = get_or l j blank_source

-- The branches on the way from bus i to bus 0, each counted as `weight` says of the record that holds it, that of the bus farther
-- from bus 0. "Any other bus names a parent with a smaller number": the way goes on while numbers fall (`toward`), so that i steps
-- are enough.
unfoldable pub along : (Bus → ℕ) → List Bus → ℕ → ℕ → ℕ
along weight l = toward (λ i. (bus_at l i).parent) (λ i count. count + weight (bus_at l i)) 0

abbrev pub way : (Bus → ℕ) → List Bus → ℕ → ℕ
way weight l i = along weight l i i

-- the branches, and the transformers among them, that lead from bus 0 to bus i
abbrev pub any_branch : Bus → ℕ
any_branch b = 1

abbrev pub if_transformer : Bus → ℕ
if_transformer b = cond (eqb b.kind 2) 1 0

abbrev pub depth_of : List Bus → ℕ → ℕ
depth_of l i = way any_branch l i

abbrev pub transformers_of : List Bus → ℕ → ℕ
transformers_of l i = way if_transformer l i
