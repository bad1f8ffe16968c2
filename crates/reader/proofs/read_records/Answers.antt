use Rattle.std.specs.Prelude.{refl, ◌+◌, ◌≤◌}
use Rattle.std.proofs.Common.{sym, ◌∙◌, ap, arith}
use Rattle.network.specs.Network.{network}
use Rattle.network.specs.Additions.{listed, added_network, AddedNetwork}
use Rattle.network.specs.laws.Additions.{added_most}
use Rattle.reader.specs.Parts.{behind}
use Rattle.reader.proofs.Taking.{rows_end}
use Rattle.reader.proofs.PartRows.{additions_refused, additions_accepted}
use Rattle.reader.proofs.read_records.Goals as goal
use Rattle.reader.proofs.read_records.Goals.{After-add_all-added, After-add_all-added}

pub loop-at-init : goal.loop-at-init
loop-at-init c = let r = c.requires.place in (omega arith, r.0, r.1, refl)

-- the rows of a part lie between its place and the next, so that their numbers fit
fits : (c : After-add_all-added) → c.loop-at.row + c.add_all-added.result.accepted ≤ c.part_of-part.result.next
fits c =
    let es = listed c.part_of-part.result.additions in
    let few = rw (← ap (λ (a : AddedNetwork). a.accepted) c.add_all-added.ensures.added) at (added_most 0 (network c.loop-at.study) es) in
    omega (arith, few, c.part_of-part.ensures.place.0, c.loop-at.invariant.1)

pub overflow_cast-row : goal.overflow_cast-row
overflow_cast-row c = let f = fits (goal.at.overflow_cast-row c).After-add_all-added in record { fits = omega (arith, f, c.part_of-part.ensures.place.1, c.requires.text_len_bound) }

pub overflow_add-row : goal.overflow_add-row
overflow_add-row c = let f = fits (goal.at.overflow_add-row c).After-add_all-added in record { fits = omega (arith, f, c.part_of-part.ensures.place.1, c.requires.text_len_bound) }

pub overflow_add-row-then-added-ne0 : goal.overflow_add-row-then-added-ne0
overflow_add-row-then-added-ne0 c = let f = fits (goal.at.overflow_add-row-then-added-ne0 c).After-add_all-added in record { fits = omega (arith, f, c.part_of-part.ensures.place.1, c.requires.text_len_bound) }

pub returns-then-added-ne0 : goal.returns-then-added-ne0
returns-then-added-ne0 c =
    let l = c.loop-at in
    let text = c.args.text.now in
    let part = c.part_of-part in
    let added = c.add_all-added in
    let es = listed part.result.additions in
    let all = l.invariant.3 ∙ part.ensures.rows l.row (network l.study) (omega (arith, l.invariant.0)) in
    c.refused.ensures
    ∙ sym (all ∙ additions_refused (behind part.result text) l.row (network l.study) es (added_network added.result) added.ensures.added c.if-added-ne0.true)

pub overflow_add-row-then-part : goal.overflow_add-row-then-part
overflow_add-row-then-part c = let f = fits (goal.at.overflow_add-row-then-part c).After-add_all-added in record { fits = omega (arith, f, c.part_of-part.ensures.place.1, c.requires.text_len_bound) }

pub returns-then-part : goal.returns-then-part
returns-then-part c =
    let l = c.loop-at in
    let text = c.args.text.now in
    let part = c.part_of-part in
    let added = c.add_all-added in
    let es = listed part.result.additions in
    let all = l.invariant.3 ∙ part.ensures.rows l.row (network l.study) (omega (arith, l.invariant.0)) in
    let onward = additions_accepted (behind part.result text) l.row (network l.study) es (added_network added.result) added.ensures.added c.if-added-ne0.false in
    c.refused-then-part.ensures ∙ sym (all ∙ onward ∙ rw c.if-part.true)

pub loop-at-smaller : goal.loop-at-smaller
loop-at-smaller c = omega (arith, c.part_of-part.ensures.onward c.if-part.false, c.part_of-part.ensures.place.1)

pub loop-at-preserved : goal.loop-at-preserved
loop-at-preserved c =
    let l = c.loop-at in
    let text = c.args.text.now in
    let part = c.part_of-part in
    let added = c.add_all-added in
    let es = listed part.result.additions in
    let all = l.invariant.3 ∙ part.ensures.rows l.row (network l.study) (omega (arith, l.invariant.0)) in
    let onward = additions_accepted (behind part.result text) l.row (network l.study) es (added_network added.result) added.ensures.added c.if-added-ne0.false in
    (omega (arith, l.invariant.0), fits (goal.at.loop-at-preserved c).After-add_all-added, part.ensures.place.1, all ∙ onward ∙ rw c.if-part.false)

pub returns : goal.returns
returns c =
    let l = c.loop-at in
    c.closed_after.ensures ∙ sym (l.invariant.3 ∙ rows_end c.args.text.now l.at l.row (network l.study) c.loop-at-test.false)
