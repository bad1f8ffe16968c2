-- `depth_ok` meets its contract: the columns hold the records up to bus i, and so the way that `way_of` counts.
use Rattle.std.specs.Prelude.{◌+◌}
use Rattle.std.proofs.Common.{arith}
use Rattle.network.specs.Grounds.{depth_ok}
use Rattle.network.specs.laws.Ways.{depth_by_columns, transformers_by_columns}
use Rattle.network.proofs.bus_grounds.depth_ok.Goals as goal

pub returns : goal.returns
unfolding depth_ok
returns c =
    let a = c.args in
    let w = c.way_of-w.ensures in
    let k = c.way_columns-c in
    let p = k.result.parents in
    let q = k.result.kinds in
    let d = depth_by_columns a.buses p q (a.i + 1) (omega arith) k.ensures.parents k.ensures.kinds a.i (omega arith) in
    let t = transformers_by_columns a.buses p q (a.i + 1) (omega arith) k.ensures.parents k.ensures.kinds a.i (omega arith) in
    rw (w.branches, w.transformers, d, t)
