-- `network_reports` meets its contract: the network of the study is that of the text.
use Rattle.std.proofs.Common.{sym, ap, ◌∙◌}
use Rattle.bench.specs.Reports.{reported_times}
use Rattle.bench.proofs.network_reports.Goals as goal

pub returns : goal.returns
returns c =
    let a = c.args in
    ap (λ net. reported_times net a.table.now a.k) (sym c.read-reading.ensures.network) ∙ c.reports.ensures
