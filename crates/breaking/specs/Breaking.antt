-- Document 02, order 3, of a network: each machine's share of the fault current at a bus, its weight μ in the breaking current, and the
-- grounds on which the call is refused. By order 5, "In the breaking current a unit is a generator with terminals on the low side."
use Rattle.std.specs.Prelude.{ℕ, ◌*◌, cond, List, [], ◌∷◌, leb, ltb, eqb, length, Float}
use Rattle.enclosure.specs.Exact.{of_nat}
use Rattle.enclosure.specs.Fraction.{Fraction, whole, product, quotient}
use Rattle.elements.specs.BreakingFactor.{delay_ok, mu_at}
use Rattle.tree.specs.Shares.{share_square, terminal_square}
use Rattle.network.specs.declared.study.Source.{Source}
use Rattle.network.specs.SourceKinds.{is_machine, is_unit, has_generator}
use Rattle.network.specs.Network.{Network, source_at}
use Rattle.network.specs.Grounds.{Ground, on, first}
use Rattle.network.specs.Grid.{admittance_of, grid_of, converters_at}
use Rattle.network.specs.Demand.{driving}

-- "31 when the delay is another number, tried after 15; then 30 when the table is shorter than two numbers a source", after 22; by the
-- length of the table
abbrev pub breaking_grounds : Network → ℕ → ℕ → ℕ → List Ground
breaking_grounds n b delay room = on n.closed 22 ∷ on (ltb b (length n.buses)) 15 ∷ on (delay_ok delay) 31 ∷ on (leb (2 * length n.sources) room) 30 ∷ []

unfoldable pub breaking_number : Network → ℕ → ℕ → ℕ → ℕ
breaking_number n b delay room = first (breaking_grounds n b delay room)

-- "A refusal gives the figure 0 and an untouched table" (for the table, network.specs.Tables): by the number of the call, and what an
-- accepted one gives
unfoldable pub figure_after : ℕ → Float → Float
figure_after number figure = cond (eqb number 0) figure (of_nat 0)

-- the square of the share that the source at place j has of the fault current at b; a converter is no machine and has none
abbrev pub share_square_at : Network → ℕ → ℕ → Fraction
share_square_at n b j =
    let p = source_at n.sources j in
    cond (is_machine p) (share_square (grid_of n) (driving n b) (admittance_of n p) b p.bus) (whole 0)

-- the square of a generator's rated current, 1,000·kVA/(√3·rated volts)
abbrev pub rated_current_square : Source → Fraction
rated_current_square p = record { top = 1000000 * (p.f2 * p.f2); under = 3 * (p.f1 * p.f1) }

-- "a unit is a generator with terminals on the low side": by this a current at the bus of a source is multiplied, carried to the terminals
-- of its generator, squared; rated volts left over rated volts arrived at
abbrev pub to_terminals_square : Source → Fraction
to_terminals_square p = cond (is_unit p) (record { top = p.high * p.high; under = p.low * p.low }) (whole 1)

-- "q the share over the generator's rated current, both at its terminals", squared
abbrev pub q_square_at : Network → ℕ → ℕ → Fraction
q_square_at n b j =
    let p = source_at n.sources j in
    quotient (product (terminal_square (grid_of n) (driving n b) (admittance_of n p) b p.bus) (to_terminals_square p)) (rated_current_square p)

-- μ of a generator; "Feeder and motors count with μ = 1"
abbrev pub weight_at : Network → ℕ → ℕ → ℕ → Fraction
weight_at n b delay j = record { top = cond (has_generator (source_at n.sources j)) (mu_at delay (q_square_at n b j)) 1000; under = 1000 }

-- "converters in full": document 01's converters' part, a fraction on the real axis (`real` of ConvertersHold)
abbrev pub converters_part : Network → ℕ → Fraction
converters_part n b = record { top = (converters_at n b).re; under = (converters_at n b).den }
