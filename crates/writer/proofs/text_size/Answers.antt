-- `text_size` meets its contract: the row of the tolerance, those of the buses and those of the sources make the text.
use Rattle.std.specs.Prelude.{◌≡◌, List, [], ◌∷◌, ℕ, length, take}
use Rattle.std.proofs.Common.{ap, ◌∙◌, arith, length-take, rules}
use Rattle.network.specs.Network.{network, max_buses, max_sources}
use Rattle.reader.specs.File.{letter_s, letter_b, letter_p}
use Rattle.writer.specs.Text.{bus_numbers, source_numbers, ended_row, record_rows}
use Rattle.network.specs.laws.Arrays.{length_mapped}
use Rattle.writer.proofs.NextRow.{counted, numbers_most, ended_row_length, record_rows_most, text_length}
use Rattle.writer.proofs.text_size.Goals as goal

pub row_size-start-requires : goal.row_size-start-requires
row_size-start-requires c = omega arith

pub buses_size-buses-requires : goal.buses_size-buses-requires
buses_size-buses-requires c =
    let s = c.args.s in
    let whole : length s.buses ≡ max_buses = search (rules, length_mapped) in
    omega (arith, c.bus_total.ensures, length-take s.bus_count s.buses)

pub sources_size-sources-requires : goal.sources_size-sources-requires
sources_size-sources-requires c =
    let s = c.args.s in
    let whole : length s.sources ≡ max_sources = search (rules, length_mapped) in
    omega (arith, c.source_total.ensures, length-take s.source_count s.sources)

pub overflow_add-result : goal.overflow_add-result
overflow_add-result c =
    let s = c.args.s in
    let t = c.tolerance_of.result in
    let buses = take c.bus_total.result c.buses_of.result in
    let sources = take c.source_total.result c.sources_of.result in
    let whole : length s.buses ≡ max_buses = search (rules, length_mapped) in
    omega (
      arith,
      c.row_size-start.ensures letter_s,
      ended_row_length letter_s (t ∷ []),
      numbers_most (t ∷ []),
      c.buses_size-buses.ensures,
      record_rows_most letter_b bus_numbers 213 (λ x. omega arith) buses,
      length-take c.bus_total.result c.buses_of.result,
      c.bus_total.ensures,
      length-take s.bus_count s.buses,
    )

pub overflow_add-result-2 : goal.overflow_add-result-2
overflow_add-result-2 c =
    let s = c.args.s in
    let t = c.tolerance_of.result in
    let buses = take c.bus_total.result c.buses_of.result in
    let sources = take c.source_total.result c.sources_of.result in
    let whole : length s.buses ≡ max_buses = search (rules, length_mapped) in
    let whole-sources : length s.sources ≡ max_sources = search (rules, length_mapped) in
    omega (
      arith,
      c.row_size-start.ensures letter_s,
      ended_row_length letter_s (t ∷ []),
      numbers_most (t ∷ []),
      c.buses_size-buses.ensures,
      record_rows_most letter_b bus_numbers 213 (λ x. omega arith) buses,
      length-take c.bus_total.result c.buses_of.result,
      c.bus_total.ensures,
      length-take s.bus_count s.buses,
      c.sources_size-sources.ensures,
      record_rows_most letter_p source_numbers 255 (λ x. omega arith) sources,
      length-take c.source_total.result c.sources_of.result,
      c.source_total.ensures,
      length-take s.source_count s.sources,
    )

pub returns : goal.returns
returns c =
    let s = c.args.s in
    let start = c.row_size-start.ensures letter_s ∙ ap (λ (t : ℕ). length (ended_row letter_s (t ∷ []))) c.tolerance_of.ensures in
    let buses = c.buses_size-buses.ensures ∙ ap (λ (l : List _). length (record_rows letter_b bus_numbers l)) (counted (network s).buses _ _ c.bus_total.ensures c.buses_of.ensures) in
    let sources = c.sources_size-sources.ensures ∙ ap (λ (l : List _). length (record_rows letter_p source_numbers l)) (counted (network s).sources _ _ c.source_total.ensures c.sources_of.ensures.sources) in
    omega (arith, text_length (network s))
