-- `number_or_nan` is a number of the table, and NaN past its end.
use Rattle.std.specs.Float.{nan}
use Rattle.std.proofs.Common.{sym, arith}
use Rattle.std.proofs.Math.ListN.{get_or-eq_default}
use Rattle.std.specs.Float.Ieee.{div, of_bits}
use Rattle.network.proofs.report.number_or_nan.Goals as goal

pub returns-then-table-b : goal.returns-then-table-b
unfolding div of_bits
returns-then-table-b c = sym (get_or-eq_default c.args.table.now nan (omega (arith, c.if-table-b.true)))

pub returns-then-table-at : goal.returns-then-table-at
unfolding div of_bits
returns-then-table-at c = sym (get_or-eq_default c.args.table.now nan (omega (arith, c.if-table-at.true)))
