-- `add_all` meets its contract. The invariant: the additions that are left come to what all of them come to.
use Rattle.std.specs.Prelude.{◌≡◌, ◌-◌, ◌≤◌, length, drop}
use Rattle.tree.specs.Limits.{max_buses, max_sources}
use Rattle.network.specs.Network.{network}
use Rattle.network.specs.Additions.{listed, added_from}
use Rattle.network.proofs.additions.add_all.Given as goal

abbrev pub invariant-loop-i : goal.invariant-loop-i
invariant-loop-i l =
    (l.i ≤ l.total) × (length l.study.buses ≡ max_buses) × (length l.study.sources ≡ max_sources) × (l.i ≡ 0 → l.study ≡ l.initial.study)
    × (added_from 0 (network l.initial.study) (listed l.more) ≡ added_from l.i (network l.study) (drop l.i (listed l.more)))

abbrev pub decreases-loop-i : goal.decreases-loop-i
decreases-loop-i l = l.total - l.i
