-- `lay_shares` lays the table and adds up the steps. The invariant: the sources so far are laid.
use Rattle.std.specs.Prelude.{ℕ, ◌*◌, ◌-◌, ◌≤◌, ◌≡◌, length, take, Float}
use Rattle.std.proofs.Math.Seq.{sets}
use Rattle.tree.specs.Limits.{max_sources}
use Rattle.network.specs.declared.study.Source.{Source}
use Rattle.network.specs.declared.ways.Ways.{Ways}
use Rattle.breaking.specs.declared.parts.Part.{Part}
use Rattle.breaking.specs.Doubles.{part_of, table_of, steps_from}
use Rattle.breaking.proofs.table.lay_shares.Given as goal

-- what each source adds
abbrev pub part_by : ℕ → ℕ → Float → Ways → Source → Part
part_by tolerance delay drive ways = part_of tolerance delay drive ways.volts ways.reach.ratios ways.reach.dividers

abbrev pub invariant-loop-j : goal.invariant-loop-j
invariant-loop-j l =
    (l.j ≤ l.total)
    × ((length l.sources ≡ max_sources) × (l.total ≤ max_sources) × (2 * l.total ≤ length l.initial.table) × (length l.table ≡ length l.initial.table))
    × (l.table ≡ sets l.initial.table 0 (table_of (part_by l.tolerance l.delay l.driven l.ways) (take l.j (take l.total l.sources))))
    × (l.steps ≡ steps_from (part_by l.tolerance l.delay l.driven l.ways) 0 (take l.j (take l.total l.sources)))

abbrev pub decreases-loop-j : goal.decreases-loop-j
decreases-loop-j l = l.total - l.j
