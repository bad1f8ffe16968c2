-- THE LIMITS of document 01 as orders have moved them, and every number of the definitions and laws that moves with them. The code has
-- them as `BUSES` (sweep), `SOURCES`, `BRANCHES` and `TRANSFORMERS` (network).
use Rattle.std.specs.Prelude.{ℕ, ◌+◌, ◌*◌, ◌^◌}

-- "The limits become 128 buses and 512 sources; depth stays." (document 02, order 2)
abbrev pub max_buses : ℕ
max_buses = 128

abbrev pub max_sources : ℕ
max_sources = 512

-- the two limits of an edition of the program, since editions with others meet in one file; and those of this one
pub record Limits : Type 0 where
  pub buses : ℕ
  pub sources : ℕ

abbrev pub here : Limits
here = record { buses = max_buses; sources = max_sources }

-- "At most 18 branches, 4 of them transformers, lead from bus 0 to any bus."
abbrev pub max_branches : ℕ
max_branches = 18

abbrev pub max_transformers : ℕ
max_transformers = 4

-- ---- ways: so many branches at the most lead from one bus to another, by way of bus 0
abbrev pub way_branches : ℕ
way_branches = 2 * max_branches

-- a walk over such a way takes one step more
abbrev pub walk_steps : ℕ
walk_steps = way_branches + 1

-- (11/9) ^ wayBranches, rounded up: by so much can the rated ratios of a way differ from the nominal ones
abbrev pub way_ratio : ℕ
way_ratio = 1400

-- ---- the laws of errors and of sizes are proved for so many buses and sources: the limits stand at these, and a further raise moves these first
abbrev pub covered_buses : ℕ
covered_buses = 128

abbrev pub covered_sources : ℕ
covered_sources = 512

-- ---- errors, in parts in 2 ^ 53. What stands at a bus: a machine's admittance has at most 57, a unit's, a converter's current 8, and
-- each sum adds 4
abbrev pub machine_parts : ℕ
machine_parts = 57

abbrev pub own_parts : ℕ
own_parts = machine_parts + 4 * covered_sources

abbrev pub current_parts : ℕ
current_parts = 8 + 4 * covered_sources

-- what is seen in a tree of n buses, from elements of k: each step of the walk adds 46 for a branch and 4 for each bus
abbrev pub seen_parts : ℕ → ℕ → ℕ
seen_parts k n = k + (46 + 4 * n) * walk_steps

-- what is carried in a tree of n buses, from currents of k: 8 for each branch of a way and 4 for each bus
abbrev pub carried_parts : ℕ → ℕ → ℕ
carried_parts k n = k + (8 * way_branches + 4 * n)

-- no error of what is seen or carried is larger
abbrev pub most_parts : ℕ
most_parts = 30000

-- ---- sizes. What stands at a bus: 2 ^ 100 S for each machine; 2 ^ 34 V·A, current times nominal volts, for each converter
abbrev pub own_most : ℕ
own_most = 2 ^ 100 * covered_sources

abbrev pub current_most : ℕ
current_most = 2 ^ 34 * covered_sources

-- what is seen at a bus times its nominal volts, in V·S: √3·I is then at most 2 ^ 50 A
abbrev pub seen_most : ℕ
seen_most = 10 ^ 15
