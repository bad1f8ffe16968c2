-- `branches` fills the column of the branches' impedances. The invariant: it holds the records so far.
use Rattle.std.specs.Prelude.{List, ℕ, ◌-◌, ◌≤◌, take}
use Rattle.std.specs.Float.{nan}
use Rattle.enclosure.specs.declared.Complex.{Complex}
use Rattle.network.specs.declared.study.Bus.{Bus}
use Rattle.network.specs.Network.{bus_at, blank}
use Rattle.network.specs.Doubles.{branch_by}
use Rattle.network.proofs.Filling.{Filled}
use Rattle.network.proofs.columns.branches.Given as goal

-- the impedance of a bus's branch, by its record
abbrev pub branch_of : ℕ → List Bus → Bus → Complex
branch_of tolerance l b = branch_by tolerance (bus_at l b.parent) b

abbrev pub invariant-loop-i : goal.invariant-loop-i
invariant-loop-i l =
    (l.i ≤ l.m)
    × (Filled (λ b. (branch_of l.tolerance (take l.n l.buses) b).re) blank nan (take l.i (take l.n l.buses)) l.re
    × Filled (λ b. (branch_of l.tolerance (take l.n l.buses) b).im) blank nan (take l.i (take l.n l.buses)) l.im)

abbrev pub decreases-loop-i : goal.decreases-loop-i
decreases-loop-i l = l.m - l.i
