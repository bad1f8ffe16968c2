-- `printing::put_amperes` meets its contract: the six currents follow one another. Assumes nothing.
use Rattle.printing.specs.laws.Line.{after_both}
use Rattle.printing.specs.Printed.{amperes_text}
use Rattle.printing.proofs.put_amperes.Goals as goal

pub returns : goal.returns
unfolding amperes_text
returns c =
    let c5 = c in
    let c4 = c5 in
    let c3 = c4 in
    let c2 = c3 in
    let c1 = c2 in
    let two = after_both _ _ _ _ c1.put_current-lower.ensures c2.put_current-upper.ensures in
    let three = after_both _ _ _ _ two c3.put_current-converters_lower.ensures in
    let four = after_both _ _ _ _ three c4.put_current-converters_upper.ensures in
    let five = after_both _ _ _ _ four c5.put_current-peak.ensures in
    after_both _ _ _ _ five c.put_current.ensures
