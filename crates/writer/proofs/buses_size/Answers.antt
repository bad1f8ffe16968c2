use Rattle.std.specs.Prelude.{◌≡◌, length}
use Rattle.std.proofs.Common.{ap, arith, rules}
use Rattle.network.specs.Network.{max_buses, blank}
use Rattle.reader.specs.File.{letter_b}
use Rattle.writer.specs.Text.{bus_numbers}
use Rattle.network.specs.laws.Arrays.{length_mapped}
use Rattle.writer.proofs.NextRow.{rows_most, rows_end, next_row_length}
use Rattle.writer.proofs.buses_size.Goals as goal

pub loop-i-init : goal.loop-i-init
loop-i-init c = (omega arith, omega arith)

pub row_size-size-requires : goal.row_size-size-requires
row_size-size-requires c = omega (arith, ap length c.bus_numbers-numbers.ensures)

pub overflow_add-size : goal.overflow_add-size
overflow_add-size c =
    let l = c.loop-i in
    let a = c.args in
    let whole : length a.buses ≡ max_buses = search (rules, length_mapped) in
    let numbers = c.bus_numbers-numbers in
    omega (
      arith,
      c.row_size-size.ensures letter_b,
      next_row_length letter_b bus_numbers a.buses a.total (omega arith) blank l.i (omega arith) numbers.result numbers.ensures,
      rows_most letter_b bus_numbers a.buses a.total (omega arith) 213 (λ x. omega arith),
    )

pub loop-i-preserved : goal.loop-i-preserved
loop-i-preserved c =
    let l = c.loop-i in
    let a = c.args in
    let whole : length a.buses ≡ max_buses = search (rules, length_mapped) in
    let numbers = c.bus_numbers-numbers in
    let next = next_row_length letter_b bus_numbers a.buses a.total (omega arith) blank l.i (omega arith) numbers.result numbers.ensures in
    (omega arith, omega (arith, c.row_size-size.ensures letter_b))

pub returns : goal.returns
returns c =
    let l = c.loop-i in
    let a = c.args in
    let whole : length a.buses ≡ max_buses = search (rules, length_mapped) in
    omega (arith, ap length (rows_end letter_b bus_numbers a.buses a.total (omega arith) l.i (omega arith)))
