-- `noldveig::put_refusal` meets its contract: the four texts follow one another, and there is room for them. Assumes nothing.
use Rattle.printing.specs.laws.Line.{after_both, first_is_text}
use Rattle.noldveig.specs.Rows.{refusal_row}
use Rattle.noldveig.specs.laws.Rows.{refusal_fits}
use Rattle.noldveig.proofs.put_refusal.Goals as goal

pub returns : goal.returns
unfolding refusal_row
returns c =
    let two = after_both _ _ _ _ c.put-word.ensures c.put_next-ground.ensures in
    let three = after_both _ _ _ _ two c.put_next-place.ensures in
    first_is_text _ _ c.requires (refusal_fits _ _) (after_both _ _ _ _ three c.put.ensures)
