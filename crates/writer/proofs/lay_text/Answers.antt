-- `lay_text` meets its contract: the row of the tolerance, those of the buses and those of the sources follow one another.
use Rattle.std.specs.Prelude.{◌≡◌, List, [], ◌∷◌, ℕ, length, take}
use Rattle.std.proofs.Common.{ap, arith, length-take, rules}
use Rattle.network.specs.Network.{network, max_buses, max_sources}
use Rattle.reader.specs.File.{letter_s, letter_b, letter_p}
use Rattle.writer.specs.Text.{bus_numbers, source_numbers, ended_row, record_rows}
use Rattle.writer.specs.laws.Laying.{laid_end, laid_length}
use Rattle.network.specs.laws.Arrays.{length_mapped}
use Rattle.writer.proofs.NextRow.{counted, text_length, text_laid}
use Rattle.writer.proofs.lay_text.Goals as goal

pub lay_row-start-requires : goal.lay_row-start-requires
lay_row-start-requires c =
    let s = c.args.s in
    omega (arith, text_length (network s), ap (λ (t : ℕ). length (ended_row letter_s (t ∷ []))) c.tolerance_of.ensures)

pub lay_buses-middle-requires : goal.lay_buses-middle-requires
lay_buses-middle-requires c =
    let a = c.args in
    let s = a.s in
    let whole : length s.buses ≡ max_buses = search (rules, length_mapped) in
    let start = ended_row letter_s (c.tolerance_of.result ∷ []) in
    let row = c.lay_row-start in
    let end = laid_end a.buffer.now 0 start row.ensures in
    let long = laid_length a.buffer.now 0 start row.ensures in record {
      total_le_max_buses = omega (arith, c.bus_total.ensures, length-take s.bus_count s.buses);
      buses_in_bounds = omega (
        arith,
        text_length (network s),
        ap (λ (t : ℕ). length (ended_row letter_s (t ∷ []))) c.tolerance_of.ensures,
        ap (λ (l : List _). length (record_rows letter_b bus_numbers l)) (counted (network s).buses _ _ c.bus_total.ensures c.buses_of.ensures),
      );
    }

pub lay_sources-requires : goal.lay_sources-requires
lay_sources-requires c =
    let a = c.args in
    let s = a.s in
    let whole : length s.sources ≡ max_sources = search (rules, length_mapped) in
    let start = ended_row letter_s (c.tolerance_of.result ∷ []) in
    let row = c.lay_row-start in
    let buses = take c.bus_total.result c.buses_of.result in
    let rows = c.lay_buses-middle in
    let start-end = laid_end a.buffer.now 0 start row.ensures in
    let start-long = laid_length a.buffer.now 0 start row.ensures in
    let end = laid_end row.new.buffer row.result (record_rows letter_b bus_numbers buses) rows.ensures in
    let long = laid_length row.new.buffer row.result (record_rows letter_b bus_numbers buses) rows.ensures in record {
      total_le_max_sources = omega (arith, c.source_total.ensures, length-take s.source_count s.sources);
      sources_in_bounds = omega (
        arith,
        text_length (network s),
        ap (λ (t : ℕ). length (ended_row letter_s (t ∷ []))) c.tolerance_of.ensures,
        ap (λ (l : List _). length (record_rows letter_b bus_numbers l)) (counted (network s).buses _ _ c.bus_total.ensures c.buses_of.ensures),
        ap (λ (l : List _). length (record_rows letter_p source_numbers l)) (counted (network s).sources _ _ c.source_total.ensures c.sources_of.ensures.sources),
      );
    }

pub returns : goal.returns
returns c =
    let a = c.args in
    let s = a.s in
    let start = c.lay_row-start in
    let buses = c.lay_buses-middle in
    let sources = c.lay_sources in
    let same-buses = counted (network s).buses _ _ c.bus_total.ensures c.buses_of.ensures in
    let same-sources = counted (network s).sources _ _ c.source_total.ensures c.sources_of.ensures.sources in
    text_laid (network s) (a.buffer.now, 0) (start.new.buffer, start.result) (buses.new.buffer, buses.result)
    (rw c.tolerance_of.ensures at start.ensures)
    (rw same-buses at buses.ensures)
    (rw same-sources at sources.ensures)
