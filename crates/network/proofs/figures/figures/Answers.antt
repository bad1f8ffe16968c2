-- `figures` meets its contract: no bound is above 2 ^ 53, so that each is its number as f64.
use Rattle.std.specs.Prelude.{◌≡◌}
use Rattle.std.proofs.Common.{ap, ◌∙◌}
use Rattle.enclosure.specs.declared.Bounds.{Bounds}
use Rattle.enclosure.specs.Doubles.{bounds_of}
use Rattle.network.proofs.Sizes.{lower_most, upper_most, machine_peak_most, converter_peak_most}
use Rattle.network.proofs.Whole.{rms_whole, peak_whole}
use Rattle.network.proofs.figures.figures.Goals as goal

lowers : {b d : Bounds} → b ≡ d → b.lower ≡ d.lower
lowers e = ap (λ (b : Bounds). b.lower) e

uppers : {b d : Bounds} → b ≡ d → b.upper ≡ d.upper
uppers e = ap (λ (b : Bounds). b.upper) e

pub returns : goal.returns
returns c =
    let c4 = c in
    let c8 = c4 in
    let m = c8.enclose-machines.ensures ∙ ap (bounds_of 1 3) c8.current.ensures in
    let x = c8.enclose-converters.ensures in
    let e1 = rms_whole c4.rms_of.ensures (lowers m) (lower_most 1 3 _) in
    let e2 = rms_whole c4.rms_of-2.ensures (uppers m) (upper_most 1 3 _) in
    let e3 = rms_whole c4.rms_of-3.ensures (lowers x) (lower_most 1 1 _) in
    let e4 = rms_whole c4.rms_of-4.ensures (uppers x) (upper_most 1 1 _) in
    let e5 = peak_whole c.peak_of.ensures c.machine_peak.ensures (machine_peak_most _ _ _) in
    let e6 = peak_whole c.peak_of-2.ensures c.converter_peak.ensures (converter_peak_most _) in
    rw (e1, e2, e3, e4, e5, e6)
