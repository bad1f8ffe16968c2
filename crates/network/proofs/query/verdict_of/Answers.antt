-- `verdict_of` meets its contract, by its four cases: above the peak rating, above the rating, within, close.
use Rattle.std.specs.Prelude.{◌≡◌, true, false}
use Rattle.std.proofs.Common.{sym, ◌∙◌}
use Rattle.std.specs.Float.Ieee.{lt, le}
use Rattle.network.specs.Doubles.{verdict_of}
use Rattle.network.proofs.query.verdict_of.Goals as goal
use Rattle.network.proofs.query.verdict_of.Goals.{After-exceeds_rms-above_rating}

-- the peak, and the lower sum, do not exceed their ratings
peak-within : (t : After-exceeds_rms-above_rating) → t.exceeds_peak-above_peak.result ≡ false
    → lt t.args.peak_rating.0 t.add_peak-peak.result.0 ≡ false
peak-within t e = sym t.exceeds_peak-above_peak.ensures ∙ e

lower-within : (t : After-exceeds_rms-above_rating) → t.exceeds_rms-above_rating.result ≡ false
    → lt t.args.rating.0 t.add_rms-lower.result.0 ≡ false
lower-within t e = sym t.exceeds_rms-above_rating.ensures ∙ e

pub returns-then-above_peak : goal.returns-then-above_peak
unfolding verdict_of
returns-then-above_peak c =
    let p = c.add_peak-peak in
    let e : lt c.args.peak_rating.0 p.result.0 ≡ true = sym c.exceeds_peak-above_peak.ensures ∙ c.if-above_peak.true in
    rw (← p.ensures, e, c.excess_peak.ensures)

pub returns-then-above_rating : goal.returns-then-above_rating
unfolding verdict_of
returns-then-above_rating c =
    let e = peak-within (goal.at.returns-then-above_rating c).After-exceeds_rms-above_rating c.if-above_peak.false in
    let l = c.add_rms-lower in
    let g : lt c.args.rating.0 l.result.0 ≡ true = sym c.exceeds_rms-above_rating.ensures ∙ c.if-above_rating.true in
    rw (← c.add_peak-peak.ensures, e, ← l.ensures, g, c.excess_rms.ensures)

pub returns-then-at_most_rms : goal.returns-then-at_most_rms
unfolding verdict_of
returns-then-at_most_rms c =
    let e = peak-within (goal.at.returns-then-at_most_rms c).After-exceeds_rms-above_rating c.if-above_peak.false in
    let g = lower-within (goal.at.returns-then-at_most_rms c).After-exceeds_rms-above_rating c.if-above_rating.false in
    let u = c.add_rms-upper in
    let h : le u.result.0 c.args.rating.0 ≡ true = sym c.at_most_rms.ensures ∙ c.if-at_most_rms.true in
    rw (← c.add_peak-peak.ensures, e, ← c.add_rms-lower.ensures, g, ← u.ensures, h, c.excess_rms-then-at_most_rms.ensures)

pub returns : goal.returns
unfolding verdict_of
returns c =
    let e = peak-within (goal.at.returns c).After-exceeds_rms-above_rating c.if-above_peak.false in
    let g = lower-within (goal.at.returns c).After-exceeds_rms-above_rating c.if-above_rating.false in
    let u = c.add_rms-upper in
    let h : le u.result.0 c.args.rating.0 ≡ false = sym c.at_most_rms.ensures ∙ c.if-at_most_rms.false in
    rw (← c.add_peak-peak.ensures, e, ← c.add_rms-lower.ensures, g, ← u.ensures, h)
