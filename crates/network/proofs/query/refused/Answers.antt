-- `refused` meets its contract: 0 as f64 is the whole number 0.
use Rattle.std.specs.Prelude.{refl}
use Rattle.std.proofs.Common.{zero-le}
use Rattle.network.proofs.Whole.{rms_whole, peak_whole}
use Rattle.network.proofs.query.refused.Goals as goal

pub returns : goal.returns
returns c =
    record { number = refl; amperes = rw (rms_whole c.rms_of-none.ensures (refl {a = 0}) zero-le, peak_whole c.peak_of-no_peak.ensures (refl {a = 0}) zero-le); verdict = refl }
