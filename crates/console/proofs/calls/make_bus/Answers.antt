-- `console::calls::make_bus` has its effect, with so many numbers or without. Assumes nothing.
use Rattle.std.specs.Prelude.{Bool, ◌&&◌}
use Rattle.std.proofs.Common.{◌∙◌, ap, ap₂}
use Rattle.network.specs.Network.{network}
use Rattle.network.specs.Grounds.{bus_number, after_bus}
use Rattle.network.specs.declared.study.Bus.{Bus}
use Rattle.reader.specs.File.{bus_count_ok}
use Rattle.console.specs.Effects.{ground, bus_by}
use Rattle.console.specs.laws.EffectsLaw.{numbers_taken, numbers_wrong}
use Rattle.console.proofs.calls.make_bus.Goals as goal

pub returns-then-n-bus_count_ok : goal.returns-then-n-bus_count_ok
returns-then-n-bus_count_ok c =
    let so-many = ap (λ (b : Bool). c.numbers_of-n.result.ok && b) c.bus_count_ok.ensures in
    let n = network c.args.s in
    let done = c.add_bus.ensures in
    let of-record = ap (λ (r : Bus). ground (bus_number n r) (after_bus n r)) c.bus_of.ensures in
    λ text. c.answered.ensures text ∙ ap₂ ground done.number done.network ∙ of-record ∙ numbers_taken bus_count_ok (bus_by n) n _ _ c.numbers_of-n.ensures _ so-many c.if-n-bus_count_ok.true

pub returns : goal.returns
returns c =
    let so-many = ap (λ (b : Bool). c.numbers_of-n.result.ok && b) c.bus_count_ok.ensures in
    let n = network c.args.s in
    λ text. c.failed.ensures.effect text ∙ numbers_wrong bus_count_ok (bus_by n) n _ _ c.numbers_of-n.ensures _ so-many c.if-n-bus_count_ok.false _ c.reason_of.ensures
