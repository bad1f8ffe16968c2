-- `elements::peaks::machine_peak` computes its definition. Assumes nothing.
use Rattle.elements.specs.Doubles.{machine_peak_by}
use Rattle.elements.proofs.peaks.machine_peak.Goals as goal

pub returns : goal.returns
unfolding machine_peak_by
returns c = rw (c.upper.ensures, c.scale.ensures, c.current.ensures, c.fine_factor-v.ensures, c.place.ensures)
