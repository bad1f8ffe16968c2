-- `network_breakings` meets its contract: the network of the study is that of the text.
use Rattle.std.specs.Prelude.{◌+◌}
use Rattle.std.proofs.Common.{sym, ap, ◌∙◌}
use Rattle.bench.specs.Breakings.{broken_times}
use Rattle.bench.proofs.network_breakings.Goals as goal

pub returns : goal.returns
returns c =
    let a = c.args in
    ap (λ net. broken_times net (a.last + 1) a.delay a.table.now a.k) (sym c.read-reading.ensures.network) ∙ c.breakings.ensures
