-- `read_rows` meets its contract: the first row starts the study, and the rows behind it give its outcome.
use Rattle.std.specs.Prelude.{◌≡◌, refl, true, List, ℕ, ◌+◌, ◌-◌, take, drop}
use Rattle.std.proofs.Common.{sym, ◌∙◌, ap, subst, arith, length-take}
use Rattle.network.specs.Network.{Network}
use Rattle.network.specs.Grounds.{empty_network}
use Rattle.network.specs.laws.Tests.{never}
use Rattle.reader.specs.declared.Row.{Row}
use Rattle.reader.specs.declared.Row.TheVariants.{Start, WithBus, WithSource, Malformed}
use Rattle.reader.specs.File.{rows, row_of, row_number, after_row, read_from}
use Rattle.reader.specs.laws.RowLetters.{Begins, row_begins}
use Rattle.reader.proofs.Taking.{row_accepted, row_refused}
use Rattle.reader.proofs.read_rows.Goals as goal

pub slice_bounds-row_of-end : goal.slice_bounds-row_of-end
slice_bounds-row_of-end c = omega (arith, c.row_end-end.ensures.1, length-take c.row_end-end.result c.args.text.now)

-- a first row that is no start has a wrong form
wrong_start : (n : Network) (r : List ℕ) (said : Row) → ((t : ℕ) → said ≡ Start t → ⊥) → Begins true r said → 16 ≡ row_number n said
wrong_start n r (Start t) x b = absurd (x t refl)
wrong_start n r (WithBus w) x b = never (sym b.0)
wrong_start n r (WithSource w) x b = never (sym b.0)
wrong_start n r Malformed x b = refl

-- the first row from place 0 on
first : (text : List ℕ) (end : ℕ) (said : Row) → said ≡ row_of true (take end text) → said ≡ row_of true (take (end - 0) (drop 0 text))
first text end said s = let w : end - 0 ≡ end = omega arith in rw w s

pub returns-in_default : goal.returns-in_default
returns-in_default c =
    let text = c.args.text.now in
    let end = c.row_end-end in
    let said = c.row_of-said in
    let begins = subst (Begins true (take end.result text)) (sym said.ensures) (row_begins true (take end.result text)) in
    let refusal = row_refused text 0 end.result c.requires.0 end.ensures.0 0 empty_network said.result (first text end.result said.result said.ensures) in
    c.refused.ensures ∙ sym (refusal 16 (wrong_start empty_network (take end.result text) said.result c.in_default.not-Start begins) (λ z. omega arith))

pub returns-then-first-ne0 : goal.returns-then-first-ne0
returns-then-first-ne0 c =
    let text = c.args.text.now in
    let end = c.row_end-end in
    let said = c.row_of-said in
    let starts = c.in-Start.is in
    let refusal = row_refused text 0 end.result c.requires.0 end.ensures.0 0 empty_network said.result (first text end.result said.result said.ensures) in
    c.refused-then-first-ne0.ensures ∙ sym (refusal _ (c.start-first.ensures.number ∙ sym (ap (row_number empty_network) starts)) c.if-first-ne0.true)

pub overflow_add-end : goal.overflow_add-end
overflow_add-end c = let h = c.row_end-end.ensures.1 in record { fits = omega (arith, h, c.requires.1) }

pub read_records-requires : goal.read_records-requires
read_records-requires c = record { text_len_bound = c.requires.1; place = (omega arith, omega (arith, c.row_end-end.ensures.1)) }

pub returns : goal.returns
returns c =
    let text = c.args.text.now in
    let end = c.row_end-end in
    let said = c.row_of-said in
    let starts = c.in-Start.is in
    let begun = c.start-first.ensures in
    let z = ap (row_number empty_network) starts ∙ sym begun.number ∙ c.if-first-ne0.false in
    let acceptance = row_accepted text 0 end.result c.requires.0 end.ensures.0 0 empty_network said.result (first text end.result said.result said.ensures) z in
    c.read_records.ensures ∙ sym (acceptance ∙ ap (λ (n : Network). read_from 1 n (rows (drop (end.result + 2) text))) (ap (after_row empty_network) starts ∙ sym begun.network))
