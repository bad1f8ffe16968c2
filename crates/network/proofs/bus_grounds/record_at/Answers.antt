-- `record_at` meets its contract: past the array a list has no record.
use Rattle.std.specs.Prelude.{◌≡◌, length}
use Rattle.std.proofs.Common.{sym, ◌∙◌, arith, rules}
use Rattle.std.proofs.Math.ListN.{get_or-eq_default}
use Rattle.tree.specs.Limits.{max_buses}
use Rattle.network.specs.Network.{blank}
use Rattle.network.proofs.bus_grounds.record_at.Goals as goal

pub returns-else-i-lt-BUSES : goal.returns-else-i-lt-BUSES
returns-else-i-lt-BUSES c =
    let a = c.args in
    let h : length a.buses ≡ max_buses = search rules in
    c.blank_bus.ensures ∙ sym (get_or-eq_default a.buses blank {n = a.i} (omega arith))
