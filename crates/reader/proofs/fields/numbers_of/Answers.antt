use Rattle.std.proofs.Common.{sym, ◌∙◌, arith}
use Rattle.reader.proofs.Collecting.{begun, done, inside_row, broken, full, more}
use Rattle.reader.proofs.fields.numbers_of.Goals as goal

pub loop-at-init : goal.loop-at-init
loop-at-init c = begun c.args.row.now

pub overflow_add-next : goal.overflow_add-next
overflow_add-next c = record { fits = omega (arith, inside_row c.loop-at.invariant c.loop-at-test.true c.field-part.result.now c.field-part.ensures) }

pub overflow_add-next-in-loop-at : goal.overflow_add-next-in-loop-at
overflow_add-next-in-loop-at c = record { fits = omega (arith, inside_row c.loop-at.invariant c.loop-at-test.true c.field-part.result.now c.field-part.ensures) }

pub returns-in_default : goal.returns-in_default
returns-in_default c =
    let n = sym c.number_of-number.ensures ∙ c.in_default.is in
    broken c.loop-at.invariant c.loop-at-test.true c.field-part.result.now c.field-part.ensures n

pub returns-then-count-ge-MOST_FIELDS : goal.returns-then-count-ge-MOST_FIELDS
returns-then-count-ge-MOST_FIELDS c =
    let n = sym c.number_of-number.ensures ∙ c.in-Value.is in
    full c.loop-at.invariant c.loop-at-test.true c.field-part.result.now c.field-part.ensures _ n c.if-count-ge-MOST_FIELDS.true

pub loop-at-preserved : goal.loop-at-preserved
loop-at-preserved c =
    let n = sym c.number_of-number.ensures ∙ c.in-Value.is in
    more c.loop-at.invariant c.loop-at-test.true c.field-part.result.now c.field-part.ensures _ n c.if-count-ge-MOST_FIELDS.false

pub returns : goal.returns
returns c = done c.loop-at.invariant c.loop-at-test.false
