-- `noldveig::lay_bus` meets its contract: the row fits a line, and is laid whole. Assumes nothing.
use Rattle.std.specs.Prelude.{List, ◌++◌, ℕ, length, take}
use Rattle.std.proofs.Common.{◌∙◌, ap, arith}
use Rattle.noldveig.specs.laws.Rows.{bus_fits}
use Rattle.noldveig.proofs.lay_bus.Goals as goal

pub lay-requires : goal.lay-requires
lay-requires c =
    let row = c.written.ensures ∙ c.put_bus-end.ensures in
    omega (arith, ap length row, bus_fits c.args.bus c.args.amperes c.args.verdict)

pub returns : goal.returns
returns c =
    let lay = c.lay in
    let row = c.written.ensures ∙ c.put_bus-end.ensures in
    record { place = omega (arith, lay.ensures.place, ap length row, bus_fits c.args.bus c.args.amperes c.args.verdict); text = lay.ensures.text ∙ ap (λ (l : List ℕ). take c.args.at c.args.out.now ++ l) row }
