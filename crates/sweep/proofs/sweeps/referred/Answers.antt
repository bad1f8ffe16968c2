-- `referred` meets its contract.
use Rattle.std.proofs.Common.{ap, ◌∙◌}
use Rattle.enclosure.specs.Doubles.{scaled}
use Rattle.sweep.proofs.sweeps.referred.Goals as goal

pub returns : goal.returns
returns c = c.scale-2.ensures ∙ ap (scaled c.args.p c.args.q) c.scale.ensures
