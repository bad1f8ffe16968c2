-- `elements::peaks::converter_peak` computes its definition. Assumes nothing.
use Rattle.elements.specs.Doubles.{converter_peak_by}
use Rattle.elements.proofs.peaks.converter_peak.Goals as goal

pub returns : goal.returns
unfolding converter_peak_by
returns c = c.upper.ensures
