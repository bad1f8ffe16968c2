-- `row_of` is the row of a bus in a table, number by number.
use Rattle.std.specs.Prelude.{ℕ, ◌+◌, ◌*◌, ◌≡◌, get_or}
use Rattle.std.specs.Float.{nan}
use Rattle.std.proofs.Common.{ap, ◌∙◌, arith}
use Rattle.network.proofs.report.row_of.Goals as goal

pub returns : goal.returns
returns c =
    let a = c.args in
    let first : get_or a.table.now (6 * a.b + 0) nan ≡ get_or a.table.now (6 * a.b) nan = ap (λ (k : ℕ). get_or a.table.now k nan) (omega arith) in
    let lower = c.number_or_nan.ensures ∙ first in
    record { row = rw (c.number_or_nan-6.ensures, c.number_or_nan-5.ensures, c.number_or_nan-4.ensures, c.number_or_nan-3.ensures, c.number_or_nan-2.ensures, lower) }
