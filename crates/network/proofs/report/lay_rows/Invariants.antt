-- `lay_rows` lays the rows of all buses. The invariant: those of the buses so far are laid.
use Rattle.std.specs.Prelude.{◌*◌, ◌-◌, ◌≤◌, ◌≡◌, length}
use Rattle.std.proofs.Math.Seq.{sets}
use Rattle.network.specs.Network.{network}
use Rattle.network.specs.Report.{reported_at, rows_numbers}
use Rattle.network.proofs.report.lay_rows.Given as goal

abbrev pub invariant-loop-b : goal.invariant-loop-b
invariant-loop-b l =
    (l.b ≤ l.total)
    × ((l.total ≡ length (network l.s).buses) × (6 * l.total ≤ length l.initial.table) × (length l.table ≡ length l.initial.table))
    × (l.table ≡ sets l.initial.table 0 (rows_numbers (reported_at (network l.s)) l.b))

abbrev pub decreases-loop-b : goal.decreases-loop-b
decreases-loop-b l = l.total - l.b
