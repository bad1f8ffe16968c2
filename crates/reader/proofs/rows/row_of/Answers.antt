-- `row_of` meets its contract: the letter, the comma, and the numbers after them.
use Rattle.std.specs.Prelude.{◌-◌, length, drop}
use Rattle.std.proofs.Common.{sym, ◌∙◌, arith, length-drop, take_all}
use Rattle.reader.specs.laws.Collected.{Collected, collected_law}
use Rattle.reader.specs.File.{fields}
use Rattle.reader.proofs.Records.{fields_taken, fields_broken, row_short, row_other, row_fields}
use Rattle.reader.proofs.rows.row_of.Goals as goal
use Rattle.reader.proofs.rows.row_of.Goals.{After-numbers_of-n}

-- the part from the third byte on is all that follows
collected : (c : After-numbers_of-n) → Collected (fields (drop 2 c.args.row.now)) c.numbers_of-n.result
collected c =
    let l = c.args.row.now in
    let e = rw (take_all (length l - 2) (drop 2 l) (omega (arith, length-drop 2 l))) at c.numbers_of-n.ensures in
    rw e (collected_law (fields (drop 2 l)))

pub returns-then-row-lt2 : goal.returns-then-row-lt2
returns-then-row-lt2 c = let a = c.args in sym (row_short a.first a.row.now c.if-row-lt2.true)

pub returns-then-row-ne44 : goal.returns-then-row-ne44
returns-then-row-ne44 c = let a = c.args in sym (row_other a.first a.row.now c.if-row-ne44.true)

pub record_of-requires : goal.record_of-requires
record_of-requires c = let g = collected (goal.at.record_of-requires c).After-numbers_of-n in record { count_le_most_fields = g.few; filled = g.filled }

pub returns-then-n : goal.returns-then-n
returns-then-n c =
    let a = c.args in
    let l = a.row.now in
    c.record_of.ensures
    ∙ sym (fields_taken a.first _ (fields (drop 2 l)) _ (collected (goal.at.returns-then-n c).After-numbers_of-n) c.if-n.true)
    ∙ sym (row_fields a.first l c.if-row-lt2.false c.if-row-ne44.false)

pub returns : goal.returns
returns c =
    let a = c.args in
    let l = a.row.now in
    sym
    (row_fields a.first l c.if-row-lt2.false c.if-row-ne44.false
    ∙ fields_broken a.first _ (fields (drop 2 l)) _ (collected (goal.at.returns c).After-numbers_of-n) c.if-n.false)
