-- Document 02, order 7, "The whole board in two sweeps": the grounds on which a report is refused, the rows of its table, and THE PROMISE of
-- a report, whole. That every report keeps it is proved in laws/Report.
use Rattle.std.specs.Prelude.{ℕ, zero, suc, ◌+◌, ◌*◌, ◌<◌, ◌≡◌, true, List, [], ◌∷◌, ◌++◌, leb, Float, length, get_or, drop}
use Rattle.std.specs.Float.{nan}
use Rattle.network.specs.declared.query.Amperes.{Amperes}
use Rattle.network.specs.Network.{Network}
use Rattle.network.specs.Grounds.{Ground, on, first, Call, run}
use Rattle.network.specs.Demand.{Demand}
use Rattle.network.specs.Doubles.{amperes_at}
use Rattle.network.specs.Promise.{Alike, machines_of}

-- "33 when the table is shorter than six times the buses, tried after 22"; by the length of the table
abbrev pub report_grounds : Network → ℕ → List Ground
report_grounds n room = on n.closed 22 ∷ on (leb (6 * length n.buses) room) 33 ∷ []

unfoldable pub report_number : Network → ℕ → ℕ
report_number n room = first (report_grounds n room)

-- "six amperes a bus", in the order of a query: the row of bus b in a table
abbrev pub row_in : List Float → ℕ → Amperes
row_in table b = record {
  lower = record { 0 = get_or table (6 * b) nan };
  upper = record { 0 = get_or table (6 * b + 1) nan };
  converters_lower = record { 0 = get_or table (6 * b + 2) nan };
  converters_upper = record { 0 = get_or table (6 * b + 3) nan };
  peak = record { 0 = get_or table (6 * b + 4) nan };
  converters_peak = record { 0 = get_or table (6 * b + 5) nan };
}

-- what a report gives at bus b, read off the one board of the network
abbrev pub reported_at : Network → ℕ → Amperes
reported_at = amperes_at

-- the six numbers of a row, and "from bus 0 up" those of the first k buses
abbrev pub row_numbers : Amperes → List Float
row_numbers a = a.lower.0 ∷ a.upper.0 ∷ a.converters_lower.0 ∷ a.converters_upper.0 ∷ a.peak.0 ∷ a.converters_peak.0 ∷ []

unfoldable pub rows_numbers : (ℕ → Amperes) → ℕ → List Float
rows_numbers row zero = []
rows_numbers row (suc k) = rows_numbers row k ++ row_numbers (row k)

-- all that a report lays
abbrev pub reported : Network → List Float
reported n = rows_numbers (reported_at n) (length n.buses)

-- of a network, the table as it was lent and as it is given back
pub record ReportHolds (n : Network) (lent table : List Float) : Type 0 where
  -- "Every row meets demand 3 as a single query does, the peaks .."
  pub rows : (b : ℕ) → b < length n.buses → Demand n b (row_in table b)
  -- ".. and the sameness for networks alike in all but their converters included": against the report of any such network
  pub same : (b : ℕ) → b < length n.buses → (ds : List Call) → (run ds).closed ≡ true → Alike n (run ds) → machines_of (row_in table b) ≡ machines_of (reported_at (run ds) b)
  -- "Numbers beyond the last bus's row are kept."
  pub beyond : (length table ≡ length lent) × (drop (6 * length n.buses) table ≡ drop (6 * length n.buses) lent)

-- whatever calls made the network, where the report is not refused
abbrev pub ReportPromise : Network → List Float → List Float → Type 0
ReportPromise n lent table = (cs : List Call) → n ≡ run cs → report_number n (length lent) ≡ 0 → ReportHolds n lent table
