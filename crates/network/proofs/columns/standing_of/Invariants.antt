-- `standing_of` adds up what stands at each bus. The invariant: both columns hold the sources so far.
use Rattle.std.specs.Prelude.{List, ℕ, ◌-◌, ◌≤◌, Float, take}
use Rattle.enclosure.specs.declared.Complex.{Complex}
use Rattle.sweep.specs.Points.{number_at}
use Rattle.network.specs.declared.study.Source.{Source}
use Rattle.network.specs.Network.{blank_source}
use Rattle.network.specs.SourceKinds.{is_machine, is_converter}
use Rattle.network.specs.RoundedSourceKinds.{admittance_by, supplied_by}
use Rattle.network.proofs.Filling.{Stands}
use Rattle.network.proofs.columns.standing_of.Given as goal

abbrev pub bus_of : Source → ℕ
bus_of p = p.bus

-- what a machine gives at its bus, by the column of nominal volts
abbrev pub admittance : ℕ → List ℕ → Source → Complex
admittance tolerance volts p = admittance_by tolerance (number_at volts p.bus) p

-- what stands at the buses, of the sources of a list
abbrev pub Machines : ℕ → List ℕ → List Source → List Float → List Float → Type 0
Machines tolerance volts l re im = Stands bus_of is_machine (admittance tolerance volts) blank_source l re im

abbrev pub Converters : List Source → List Float → List Float → Type 0
Converters l re im = Stands bus_of is_converter supplied_by blank_source l re im

abbrev pub invariant-loop-next : goal.invariant-loop-next
invariant-loop-next l =
    (l.next ≤ l.m) × (Machines l.tolerance l.volts (take l.next (take l.n l.sources)) l.own_re l.own_im × Converters (take l.next (take l.n l.sources)) l.supplied_re l.supplied_im)

abbrev pub decreases-loop-next : goal.decreases-loop-next
decreases-loop-next l = l.m - l.next
