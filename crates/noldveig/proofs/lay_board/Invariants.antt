-- `noldveig::lay_board` meets its contract. The invariant: the rows of the buses that were passed are laid, each at most a line long, for any
-- network whose report and whose records the table and the array hold. The measure is the number of buses that are left. Assumes nothing.
use Rattle.std.specs.Prelude.{◌≡◌, List, ℕ, ◌*◌, ◌-◌, ◌≤◌, ◌<◌, Float, length, take}
use Rattle.network.specs.declared.study.Bus.{Bus}
use Rattle.network.specs.Network.{Network, bus_at, max_buses}
use Rattle.network.specs.Report.{row_in, reported_at}
use Rattle.printing.specs.Line.{room}
use Rattle.noldveig.specs.Rows.{rows_text}
use Rattle.noldveig.proofs.lay_board.Given as goal

-- a table has a network's rows, and an array its records
abbrev pub Holds : Network → List Float → List Bus → ℕ → Type 0
Holds n table buses total = (b : ℕ) → b < total → (row_in table b ≡ reported_at n b) × (bus_at buses b ≡ bus_at n.buses b)

abbrev pub invariant-loop-b : goal.invariant-loop-b
invariant-loop-b l =
    ((l.total ≤ max_buses) × (length l.table ≡ 6 * max_buses) × (length l.buses ≡ max_buses))
    × (l.b ≤ l.total)
    × (l.at ≤ l.b * room)
    × (length l.out ≡ length l.initial.out)
    × ((n : Network) → Holds n l.table l.buses l.total → take l.at l.out ≡ rows_text n l.b)

abbrev pub decreases-loop-b : goal.decreases-loop-b
decreases-loop-b l = l.total - l.b
