use Rattle.std.specs.Prelude.{◌≡◌, length}
use Rattle.std.proofs.Common.{ap, arith, rules}
use Rattle.network.specs.Network.{max_sources, blank_source}
use Rattle.reader.specs.File.{letter_p}
use Rattle.writer.specs.Text.{source_numbers}
use Rattle.network.specs.laws.Arrays.{length_mapped}
use Rattle.writer.proofs.NextRow.{rows_most, rows_end, next_row_length}
use Rattle.writer.proofs.sources_size.Goals as goal

pub loop-i-init : goal.loop-i-init
loop-i-init c = (omega arith, omega arith)

pub row_size-size-requires : goal.row_size-size-requires
row_size-size-requires c = omega (arith, ap length c.source_numbers-numbers.ensures)

pub overflow_add-size : goal.overflow_add-size
overflow_add-size c =
    let l = c.loop-i in
    let a = c.args in
    let whole : length a.sources ≡ max_sources = search (rules, length_mapped) in
    let numbers = c.source_numbers-numbers in
    omega (
      arith,
      c.row_size-size.ensures letter_p,
      next_row_length letter_p source_numbers a.sources a.total (omega arith) blank_source l.i (omega arith) numbers.result numbers.ensures,
      rows_most letter_p source_numbers a.sources a.total (omega arith) 255 (λ x. omega arith),
    )

pub loop-i-preserved : goal.loop-i-preserved
loop-i-preserved c =
    let l = c.loop-i in
    let a = c.args in
    let whole : length a.sources ≡ max_sources = search (rules, length_mapped) in
    let numbers = c.source_numbers-numbers in
    let next = next_row_length letter_p source_numbers a.sources a.total (omega arith) blank_source l.i (omega arith) numbers.result numbers.ensures in
    (omega arith, omega (arith, c.row_size-size.ensures letter_p))

pub returns : goal.returns
returns c =
    let l = c.loop-i in
    let a = c.args in
    let whole : length a.sources ≡ max_sources = search (rules, length_mapped) in
    omega (arith, ap length (rows_end letter_p source_numbers a.sources a.total (omega arith) l.i (omega arith)))
