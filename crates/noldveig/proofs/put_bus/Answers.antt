-- `noldveig::put_bus` meets its contract: the four texts follow one another, and there is room for them. Assumes nothing.
use Rattle.printing.specs.laws.Line.{after_both, first_is_text}
use Rattle.noldveig.specs.Rows.{bus_row}
use Rattle.noldveig.specs.laws.Rows.{bus_fits}
use Rattle.noldveig.proofs.put_bus.Goals as goal

pub returns : goal.returns
unfolding bus_row
returns c =
    let two = after_both _ _ _ _ c.put_number-number.ensures c.put_amperes-figures.ensures in
    let three = after_both _ _ _ _ two c.put_letter-letter.ensures in
    first_is_text _ _ c.requires (bus_fits _ _ _) (after_both _ _ _ _ three c.put.ensures)
