use Rattle.std.specs.Prelude.{◌≡◌, refl, length}
use Rattle.std.proofs.Common.{sym, ap, ◌∙◌, arith, rules}
use Rattle.network.specs.Network.{max_buses, blank}
use Rattle.reader.specs.File.{letter_b}
use Rattle.writer.specs.Text.{bus_numbers, ended_row}
use Rattle.writer.specs.laws.Laying.{laid, laid_nothing, laid_end, laid_length}
use Rattle.network.specs.laws.Arrays.{length_mapped}
use Rattle.writer.proofs.NextRow.{rows_end, next_row_length, next_row_laid}
use Rattle.writer.proofs.lay_buses.Goals as goal

pub loop-i-init : goal.loop-i-init
loop-i-init c = (omega arith, refl, c.requires.buses_in_bounds, refl)

pub lay_row-to-requires : goal.lay_row-to-requires
lay_row-to-requires c =
    let l = c.loop-i in
    let a = c.args in
    let whole : length a.buses ≡ max_buses = search (rules, length_mapped) in
    let numbers = c.bus_numbers-numbers in
    omega (arith, next_row_length letter_b bus_numbers a.buses a.total (omega arith) blank l.i (omega arith) numbers.result numbers.ensures)

pub loop-i-preserved : goal.loop-i-preserved
loop-i-preserved c =
    let l = c.loop-i in
    let a = c.args in
    let whole : length a.buses ≡ max_buses = search (rules, length_mapped) in
    let numbers = c.bus_numbers-numbers in
    let row = c.lay_row-to in
    let text = ended_row letter_b numbers.result in
    let long = next_row_length letter_b bus_numbers a.buses a.total (omega arith) blank l.i (omega arith) numbers.result numbers.ensures in
    let end = laid_end l.buffer l.to text row.ensures in (
      omega arith,
      laid_length l.buffer l.to text row.ensures ∙ l.invariant.1,
      omega arith,
      next_row_laid letter_b bus_numbers a.buses a.total (omega arith) blank l.i (omega arith) numbers.result numbers.ensures (l.buffer, l.to) (row.new.buffer, row.result) row.ensures
          ∙ l.invariant.3,
    )

pub shape_of-buffer : goal.shape_of-buffer
shape_of-buffer c = c.loop-i.invariant.1

pub returns : goal.returns
returns c =
    let l = c.loop-i in
    let a = c.args in
    let whole : length a.buses ≡ max_buses = search (rules, length_mapped) in
    sym l.invariant.3
    ∙ ap (laid (l.buffer, l.to)) (rows_end letter_b bus_numbers a.buses a.total (omega arith) l.i (omega arith))
    ∙ laid_nothing (l.buffer, l.to)
