-- Document 01, "Seen impedance": a network's records as a tree of branches with what stands at each bus, exact.
use Rattle.std.specs.Prelude.{ℕ, min, Bool, cond, ◌&&◌, eqb, length}
use Rattle.enclosure.specs.Exact.{Point, nothing, sum, inverse}
use Rattle.elements.specs.Impedance as impedance
use Rattle.tree.specs.Grid.{Grid, seen, carried, sum_of}
use Rattle.network.specs.declared.study.Bus.{Bus}
use Rattle.network.specs.declared.study.Source.{Source}
use Rattle.network.specs.SourceKinds.{is_machine, is_converter, impedance_of, current_of}
use Rattle.network.specs.Network.{Network, bus_at, parent_record}

-- "Line"; "Transformer, own side: .., c by the lower of the two nominal voltages". Bus 0 has no branch
unfoldable pub branch_of : ℕ → Bus → Bus → Point
branch_of tolerance parent b =
    cond (eqb b.kind 1) (impedance.line b.f1 b.f2 b.f3 b.f4)
    (cond (eqb b.kind 2) (impedance.transformer tolerance (min parent.volts b.volts) b.f2 b.f3 b.f4 b.f5)
    nothing)

-- rated volts on the parent's side and on the bus's own; a line has none, and its ratio is 1
unfoldable pub above_of : Bus → ℕ
above_of b = cond (eqb b.kind 2) b.f1 1

unfoldable pub below_of : Bus → ℕ
below_of b = cond (eqb b.kind 2) b.f2 1

-- "1/Z of each feeder, generator and motor"; "Exact Z includes units from now on" (document 02, order 5)
abbrev pub admittance_of : Network → Source → Point
admittance_of n p = inverse (impedance_of n.tolerance (bus_at n.buses p.bus).volts p)

-- the machines and the converters that stand at bus b
abbrev pub machine_at : ℕ → Source → Bool
machine_at b p = is_machine p && eqb p.bus b

abbrev pub converter_at : ℕ → Source → Bool
converter_at b p = is_converter p && eqb p.bus b

-- the tree of a network
abbrev pub grid_of : Network → Grid
grid_of n = record {
  count = length n.buses;
  branch = λ i. record {
    parent = (bus_at n.buses i).parent;
    z = branch_of n.tolerance (parent_record n.buses i) (bus_at n.buses i);
    above = above_of (bus_at n.buses i);
    below = below_of (bus_at n.buses i);
  };
  own = λ b. sum_of sum (machine_at b) (admittance_of n) nothing n.sources;
  current = λ b. sum_of sum (converter_at b) current_of nothing n.sources;
}

-- "Z at b is 1/Seen(b without none)."
abbrev pub impedance_at : Network → ℕ → Point
impedance_at n b = inverse (seen (grid_of n) b b)

-- "Converters' part (document 004, type IV)"
abbrev pub converters_at : Network → ℕ → Point
converters_at n b = carried (grid_of n) b
