-- `record_of` meets its contract, letter by letter.
use Rattle.std.specs.Prelude.{◌≡◌, Bool, ◌&&◌, eqb, length}
use Rattle.std.proofs.Common.{sym, ◌∙◌, ap, rules}
use Rattle.reader.specs.declared.Row.TheVariants.{WithBus, WithSource}
use Rattle.reader.specs.File.{most_fields, letter_b, letter_p}
use Rattle.reader.proofs.Records.{start_row, no_start_row, bus_row_law, source_row, no_record_row}
use Rattle.reader.proofs.rows.record_of.Goals as goal

pub returns-then-letter-n : goal.returns-then-letter-n
returns-then-letter-n c =
    let a = c.args in
    let w : length a.n.values ≡ most_fields = search rules in
    rw c.if-first.true (sym (start_row a.letter a.n.count a.n.values c.requires.count_le_most_fields c.requires.filled w c.if-letter-n.true))

pub returns-then-first : goal.returns-then-first
returns-then-first c =
    let a = c.args in
    let w : length a.n.values ≡ most_fields = search rules in
    rw c.if-first.true (sym (no_start_row a.letter a.n.count a.n.values c.requires.count_le_most_fields c.requires.filled w c.if-letter-n.false))

-- a letter and so many numbers, by what is ensured of their count
counts : (t : Bool) {u v w : Bool} → u ≡ v → (t && u) ≡ w → (t && v) ≡ w
counts t e h = rw (← e) h

pub returns-then-letter-bus_count_ok : goal.returns-then-letter-bus_count_ok
returns-then-letter-bus_count_ok c =
    let a = c.args in
    let w : length a.n.values ≡ most_fields = search rules in
    let bus = counts (eqb a.letter letter_b) c.bus_count_ok.ensures c.if-letter-bus_count_ok.true in
    rw c.if-first.false (ap WithBus c.bus_of-b.ensures ∙ sym (bus_row_law a.letter a.n.count a.n.values c.requires.count_le_most_fields c.requires.filled w bus))

pub returns-then-letter-source_count_ok : goal.returns-then-letter-source_count_ok
returns-then-letter-source_count_ok c =
    let a = c.args in
    let w : length a.n.values ≡ most_fields = search rules in
    let bus = counts (eqb a.letter letter_b) c.bus_count_ok.ensures c.if-letter-bus_count_ok.false in
    let source = counts (eqb a.letter letter_p) c.source_count_ok.ensures c.if-letter-source_count_ok.true in
    rw c.if-first.false (ap WithSource c.source_of-p.ensures ∙ sym (source_row a.letter a.n.count a.n.values c.requires.count_le_most_fields c.requires.filled w bus source))

pub returns : goal.returns
returns c =
    let a = c.args in
    let w : length a.n.values ≡ most_fields = search rules in
    let bus = counts (eqb a.letter letter_b) c.bus_count_ok.ensures c.if-letter-bus_count_ok.false in
    let source = counts (eqb a.letter letter_p) c.source_count_ok.ensures c.if-letter-source_count_ok.false in
    rw c.if-first.false (sym (no_record_row a.letter a.n.count a.n.values c.requires.count_le_most_fields c.requires.filled w bus source))
