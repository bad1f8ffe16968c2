-- `bus_total` meets its contract: the count below the capacity, else the capacity.
use Rattle.std.specs.Prelude.{◌≡◌, length}
use Rattle.std.proofs.Common.{sym, arith, rules}
use Rattle.tree.specs.Limits.{max_buses}
use Rattle.network.proofs.Lists.{length_mapped, count_below, count_full}
use Rattle.network.proofs.study.bus_total.Goals as goal

pub returns-then-s-lt-BUSES : goal.returns-then-s-lt-BUSES
returns-then-s-lt-BUSES c =
    let s = c.args.s in
    let h : length s.buses ≡ max_buses = search (rules, length_mapped) in
    sym (count_below max_buses s.bus_count s.buses h (omega arith))

pub returns : goal.returns
returns c =
    let s = c.args.s in
    let h : length s.buses ≡ max_buses = search (rules, length_mapped) in
    sym (count_full max_buses s.bus_count s.buses h (omega arith))
