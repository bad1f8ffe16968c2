-- `console::tables::first_numbers` meets its contract: where the slice has no more numbers, the first are all of them. Assumes nothing.
use Rattle.std.specs.Prelude.{◌≡◌, ◌-◌}
use Rattle.std.proofs.Common.{sym, arith, take_all}
use Rattle.console.proofs.tables.first_numbers.Goals as goal

pub returns-then-count-table : goal.returns-then-count-table
returns-then-count-table c =
    let n = c.args.count in
    let e : n - 0 ≡ n = omega arith in
    rw e

pub returns : goal.returns
returns c = sym (take_all c.args.count c.args.table.now (omega arith))
