-- `study_writes` meets its contract: the network of the study is that of the text.
use Rattle.std.proofs.Common.{sym, ap, ◌∙◌}
use Rattle.bench.specs.Writes.{written_times}
use Rattle.bench.proofs.study_writes.Goals as goal

pub returns : goal.returns
returns c =
    let a = c.args in
    ap (λ net. written_times net a.buffer.now a.k) (sym c.read-reading.ensures.network) ∙ c.writes.ensures
