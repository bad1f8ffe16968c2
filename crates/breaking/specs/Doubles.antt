-- The calculation of `breaking` as the code makes it: a definition for each function. That it keeps the promise is proved in laws/Promise.
use Rattle.std.specs.Prelude.{ℕ, ◌+◌, ◌*◌, ◌/◌, cond, List, [], ◌∷◌, eqb, ltb, Float}
use Rattle.std.specs.Float.{binary64}
use Rattle.std.specs.Float.Ieee.{add}
use Rattle.enclosure.specs.Exact.{of_nat}
use Rattle.enclosure.specs.Doubles.{of_whole, nought, under_root}
use Rattle.elements.specs.BreakingFactor.{delay_ok}
use Rattle.elements.specs.Factors.{factor_c}
use Rattle.elements.specs.Doubles.{mu_by}
use Rattle.tree.specs.Ways.{drive_by, strength_by, share_steps, rated_steps}
use Rattle.sweep.specs.Points.{number_at}
use Rattle.sweep.specs.Crossings.{factor_at}
use Rattle.network.specs.declared.study.Source.{Source}
use Rattle.network.specs.SourceKinds.{has_generator, is_converter}
use Rattle.network.specs.RoundedSourceKinds.{admittance_by, volts_seen, kva_seen}
use Rattle.network.specs.Network.{Network}
use Rattle.network.specs.Query.{amperes_given}
use Rattle.network.specs.Doubles.{ways_from}
use Rattle.breaking.specs.declared.parts.Part.{Part}

-- whole steps of 1/4,096 A: n of them, weighed by w thousandths and rounded up; and whole amperes not below so many
abbrev pub weighed : ℕ → ℕ → ℕ
weighed w n = (w * n + 999) / 1000

abbrev pub amperes_up : ℕ → ℕ
amperes_up n = (n + 4095) / 4096

-- the ground of the call, by that of a query
unfoldable pub number_after : ℕ → ℕ → ℕ → ℕ → ℕ
number_after found delay sources room = cond (eqb found 0) (cond (delay_ok delay) (cond (ltb room (2 * sources)) 30 0) 31) found

-- what a source adds: its two numbers of the table, and its steps in the sum; by its strength, and the ratio back and the divider of the way
-- to it
unfoldable pub generator_part : ℕ → Float → Float → Float → Source → Part
generator_part delay strength back divider p =
    let r = share_steps strength back divider in
    record { lower = of_nat (under_root r / 4096); upper = of_nat (amperes_up (r + 1)); steps = weighed (mu_by delay (rated_steps strength back divider (volts_seen p) (kva_seen p))) (r + 1) }

unfoldable pub part_by : ℕ → Float → Float → Float → Source → Part
part_by delay strength back divider p =
    cond (has_generator p) (generator_part delay strength back divider p)
    (cond (is_converter p) (record { lower = nought; upper = nought; steps = 0 })
    (record { lower = nought; upper = nought; steps = share_steps strength back divider + 1 }))

-- of a source, by the ways from the queried bus
unfoldable pub part_of : ℕ → ℕ → Float → List ℕ → List Float → List Float → Source → Part
part_of tolerance delay drive volts ratios dividers p =
    part_by delay (strength_by drive (admittance_by tolerance (number_at volts p.bus) p)) (factor_at ratios p.bus) (factor_at dividers p.bus) p

-- 2 ^ 24·(c·Un)²/3, by the nominal volts
abbrev pub driven_by : ℕ → ℕ → Float
driven_by tolerance volts = drive_by (factor_c tolerance volts * volts)

abbrev pub part_at : Network → ℕ → ℕ → Source → Part
part_at n b delay =
    let ways = ways_from n b in
    part_of n.tolerance delay (driven_by n.tolerance (number_at ways.volts b)) ways.volts ways.reach.ratios ways.reach.dividers

-- the table of a list of sources, and the sum of their steps
abbrev pub table_of : (Source → Part) → List Source → List Float
table_of part [] = []
table_of part (p ∷ l) = (part p).lower ∷ (part p).upper ∷ table_of part l

abbrev pub steps_from : (Source → Part) → ℕ → List Source → ℕ
steps_from part total [] = total
steps_from part total (p ∷ l) = steps_from part (total + (part p).steps) l

-- THE FIGURE: the machines' sum rounded up, and the upper bound of the converters' part
unfoldable pub figure_at : Network → ℕ → ℕ → Float
figure_at n b delay = add binary64 (of_whole (amperes_up (steps_from (part_at n b delay) 0 n.sources))) (amperes_given n b).converters_upper.0
