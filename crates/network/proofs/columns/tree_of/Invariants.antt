-- `tree_of` fills the four columns of the tree. The invariant: each holds the records so far.
use Rattle.std.specs.Prelude.{ℕ, ◌-◌, ◌≤◌, take}
use Rattle.network.specs.declared.study.Bus.{Bus}
use Rattle.network.specs.Network.{blank}
use Rattle.network.specs.Grid.{above_of, below_of}
use Rattle.network.proofs.Filling.{Filled}
use Rattle.network.proofs.columns.tree_of.Given as goal

abbrev pub parent : Bus → ℕ
parent b = b.parent

abbrev pub nominal : Bus → ℕ
nominal b = b.volts

abbrev pub invariant-loop-i : goal.invariant-loop-i
invariant-loop-i l =
    (l.i ≤ l.m)
    × (Filled parent blank 0 (take l.i (take l.n l.buses)) l.parents
    × (Filled above_of blank 0 (take l.i (take l.n l.buses)) l.above
    × (Filled below_of blank 0 (take l.i (take l.n l.buses)) l.below × Filled nominal blank 0 (take l.i (take l.n l.buses)) l.volts)))

abbrev pub decreases-loop-i : goal.decreases-loop-i
decreases-loop-i l = l.m - l.i
