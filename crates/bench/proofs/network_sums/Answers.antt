-- `network_sums` meets its contract: the sums for the study that a text gives.
use Rattle.std.specs.Prelude.{◌+◌}
use Rattle.std.proofs.Common.{ap, ◌∙◌}
use Rattle.bench.specs.Queries.{sums_of}
use Rattle.bench.proofs.network_sums.Goals as goal

pub returns : goal.returns
returns c =
    let a = c.args in
    c.sums.ensures ∙ ap (λ net. sums_of net (a.last + 1) a.k) c.read-reading.ensures.network
