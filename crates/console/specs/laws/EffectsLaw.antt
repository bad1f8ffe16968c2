-- Laws of effects: which of its cases the effect of a line is. Assumes nothing.
use Rattle.std.specs.Prelude.{ℕ, ◌+◌, ◌/◌, ◌≤◌, ◌<◌, Bool, ◌&&◌, drop, get_or, replicate, Float, List}
use Rattle.std.proofs.Common.{◌∙◌, ap, arith, get_or-drop, leb-true, leb-false, le-leb, lt-ltb, le-ltb}
use Rattle.std.proofs.Math.Path.{◌≡◌, sym}
use Rattle.std.proofs.Math.Bool.{true, false}
use Rattle.std.proofs.Math.Dec.{leb}
use Rattle.std.proofs.Math.ListN.{length, take}
use Rattle.std.proofs.lemmas.Bool.{lt-leb}
use Rattle.network.specs.laws.Tests.{by_test, both_true}
use Rattle.network.specs.declared.study.Source.{Source}
use Rattle.network.specs.Network.{Network}
use Rattle.network.specs.Query.{query_number, amperes_given, verdict_given, found_given}
use Rattle.network.specs.declared.query.Found.{Found}
use Rattle.reader.specs.declared.Numbers.{Numbers}
use Rattle.reader.specs.File.{Outcome, read_of}
use Rattle.writer.specs.Writing.{write_number, write_length, after_write}
use Rattle.network.specs.Report.{report_number, reported}
use Rattle.network.specs.Tables.{table_after}
use Rattle.breaking.specs.Breaking.{breaking_number, figure_after}
use Rattle.breaking.specs.Doubles.{part_at, table_of, figure_at}
use Rattle.console.specs.declared.hex.Decoded.TheVariants.{Bytes, Broken}
use Rattle.console.specs.declared.turns.Reason.{Reason}
use Rattle.console.specs.declared.turns.Reason.TheVariants.{Hex, Room, Unknown, Long}
use Rattle.console.specs.Answers.{reading_line, written_line, broken_line, report_line, filler, table_filler}
use Rattle.console.specs.Lines.{begins_with, is_word, hex_pairs, hex_bytes, decoded_of}
use Rattle.console.specs.Effects.{Effect, wrong, counted, reason_of, numbered, start_effect, bus_effect, source_effect, close_effect, query_effect, read_by, read_effect, write_into, write_by, write_effect, break_into, breaking_by, breaking_effect, report_into, report_by, report_effect, withdraw_effect, replace_effect, reopen_effect, record_behind, start_word, bus_word, source_word, close_word, query_word, read_word, write_word, breaking_word, report_word, withdraw_word, replace_word, reopen_word, behind, call_effect, line_effect}

-- ---- so many numbers, or not; v are those that the code has
module _ (wanted : ℕ → Bool) (call : List ℕ → Effect) (n : Network) (v w : Numbers) (e : v ≡ w) (t : Bool) (h : t ≡ counted v wanted) where
  pub numbers_taken : t ≡ true → call v.values ≡ numbered wanted call n w
  unfolding numbered
  numbers_taken k = let y : counted v wanted ≡ true = sym h ∙ k in rw (← e, y)

  pub numbers_wrong : t ≡ false → (reason : Reason) → reason ≡ reason_of v → wrong reason n ≡ numbered wanted call n w
  unfolding numbered
  numbers_wrong k reason r = let y : counted v wanted ≡ false = sym h ∙ k in rw (← e, y, r)

-- ---- a replacement: the record behind the place, number by number
pub record_behind_law : (v : List ℕ) (p : Source)
    → p ≡ record { kind = get_or v 1 0; bus = get_or v 2 0; f1 = get_or v 3 0; f2 = get_or v 4 0; f3 = get_or v 5 0; f4 = get_or v 6 0; f5 = get_or v 7 0; low = get_or v 8 0; high = get_or v 9 0; transformer_kva = get_or v 10 0; uk = get_or v 11 0; ur = get_or v 12 0 }
    → p ≡ record_behind v
unfolding record_behind
record_behind_law v p e =
    let at : (i : ℕ) → get_or (drop 1 v) i 0 ≡ get_or v (1 + i) 0 = λ i. get_or-drop 1 v i 0 in
    e ∙ sym (rw (at 0, at 1, at 2, at 3, at 4, at 5, at 6, at 7, at 8, at 9, at 10, at 11))

-- ---- a query
pub found_given_law : (f : Found) (n : Network) (b : ℕ) → f.number ≡ query_number n b → f.amperes ≡ amperes_given n b → f.verdict ≡ verdict_given n b → f ≡ found_given n b
unfolding found_given
found_given_law f n b p q v = rw (← p, ← q, ← v)

-- ---- digits: broken, or bytes that are read
module _ (n : Network) (digits : List ℕ) where
  pub read_broken : decoded_of digits ≡ Broken → wrong Hex n ≡ read_effect n digits
  unfolding decoded_of read_effect
  read_broken e =
      by_test (hex_pairs digits && leb (length digits) 140000)
      (λ t. absurd (let b : Bytes (length digits / 2) ≡ Broken = rw t at e in let z : ◌≡◌ {A = ℕ} 0 1 = cc in omega arith))
      (λ t. rw t)

  pub read_bytes : (k : ℕ) (text : List ℕ) → decoded_of digits ≡ Bytes k
      → (hex_pairs digits ≡ true → length digits ≤ 140000 → take (length digits / 2) text ≡ hex_bytes digits)
      → read_by (read_of (take k text)) ≡ read_effect n digits
  unfolding decoded_of read_effect
  read_bytes k text e h =
      by_test (hex_pairs digits && leb (length digits) 140000)
      (λ t.
      let p = both_true (hex_pairs digits) (leb (length digits) 140000) t in
      let b : Bytes (length digits / 2) ≡ Bytes k = rw t at e in
      let s : length digits / 2 ≡ k = cc in
      rw t (ap (λ (l : List ℕ). read_by (read_of l)) (ap (λ (j : ℕ). take j text) (sym s) ∙ h p.0 (leb-true (length digits) 140000 p.1))))
      (λ t. absurd (let b : Broken ≡ Bytes k = rw t at e in let z : ◌≡◌ {A = ℕ} 0 1 = cc in omega arith))

-- what reading gives, by its parts
pub read_parts : (o : Outcome) (number row : ℕ) (n : Network) → number ≡ o.number → row ≡ o.row → n ≡ o.network → record { answer = reading_line number row; network = n } ≡ read_by o
read_parts o number row n p q r = rw (p, q, r)

-- ---- a writing: its parts, and the room that is lent
module _ (n : Network) where
  pub write_parts : (room number size : ℕ) (lent : List ℕ) → number ≡ write_number n room → size ≡ write_length n room → lent ≡ after_write n (replicate room filler)
      → record { answer = written_line number size lent; network = n } ≡ write_into n room
  unfolding write_into
  write_parts room number size lent p q r = rw (p, q, r)

  pub room_lent : (v : List ℕ) → get_or v 0 0 ≤ 70000 → write_into n (get_or v 0 0) ≡ write_by n v
  room_lent v h = rw (le-leb (get_or v 0 0) 70000 h)

  pub room_refused : (v : List ℕ) → 70000 < get_or v 0 0 → wrong Room n ≡ write_by n v
  room_refused v h = rw (lt-leb (get_or v 0 0) 70000 h)

-- ---- a breaking current: its parts, and the room that is lent
module _ (n : Network) where
  pub breaking_parts : (bus delay room number : ℕ) (figure : Float) (lent : List Float) → number ≡ breaking_number n bus delay room → figure ≡ figure_after number (figure_at n bus delay)
      → lent ≡ table_after number (table_of (part_at n bus delay) n.sources) (replicate room table_filler)
      → record { answer = broken_line number figure lent; network = n } ≡ break_into n bus delay room
  unfolding break_into
  breaking_parts bus delay room number figure lent p q r = rw (r, q, p)

  pub table_lent : (v : List ℕ) → get_or v 2 0 ≤ 1100 → break_into n (get_or v 0 0) (get_or v 1 0) (get_or v 2 0) ≡ breaking_by n v
  table_lent v h = rw (le-leb (get_or v 2 0) 1100 h)

  pub table_refused : (v : List ℕ) → 1100 < get_or v 2 0 → wrong Room n ≡ breaking_by n v
  table_refused v h = rw (lt-leb (get_or v 2 0) 1100 h)

-- ---- a report: its parts, and the room that is lent; the table has more
pub report_within : (k l : ℕ) → (leb k 1000 && leb k l) ≡ true → (k ≤ 1000) × (k ≤ l)
report_within k l e = let p = both_true (leb k 1000) (leb k l) e in (leb-true k 1000 p.0, leb-true k l p.1)

pub report_over : (k l : ℕ) → (leb k 1000 && leb k l) ≡ false → 1000 ≤ l → 1000 < k
report_over k l e h =
    by_test (leb k 1000)
    (λ t.
    let p : leb k l ≡ false = rw t at e in
    absurd (let m = leb-true k 1000 t in let o = leb-false k l p in omega arith))
    (λ t. leb-false k 1000 t)

module _ (n : Network) where
  pub report_parts : (room number : ℕ) (lent : List Float) → number ≡ report_number n room → lent ≡ table_after number (reported n) (replicate room table_filler)
      → record { answer = report_line number lent; network = n } ≡ report_into n room
  unfolding report_into
  report_parts room number lent p r = rw (r, p)

  pub report_lent : (v : List ℕ) → get_or v 0 0 ≤ 1000 → report_into n (get_or v 0 0) ≡ report_by n v
  report_lent v h = rw (le-leb (get_or v 0 0) 1000 h)

  pub report_refused : (v : List ℕ) → 1000 < get_or v 0 0 → wrong Room n ≡ report_by n v
  report_refused v h = rw (lt-leb (get_or v 0 0) 1000 h)

-- ---- the word that a line begins with: none of those before it, and this one
module _ (n : Network) (line : List ℕ) where
  pub call_start : begins_with start_word line ≡ true → start_effect n (behind start_word line) ≡ call_effect n line
  unfolding call_effect
  call_start e = rw e

  module _ (a : begins_with start_word line ≡ false) where
    pub call_bus : begins_with bus_word line ≡ true → bus_effect n (behind bus_word line) ≡ call_effect n line
    unfolding call_effect
    call_bus e = rw (a, e)

    module _ (b : begins_with bus_word line ≡ false) where
      pub call_source : begins_with source_word line ≡ true → source_effect n (behind source_word line) ≡ call_effect n line
      unfolding call_effect
      call_source e = rw (a, b, e)

      module _ (d : begins_with source_word line ≡ false) where
        pub call_close : is_word close_word line ≡ true → close_effect n ≡ call_effect n line
        unfolding call_effect
        call_close e = rw (a, b, d, e)

        module _ (f : is_word close_word line ≡ false) where
          pub call_query : begins_with query_word line ≡ true → query_effect n (behind query_word line) ≡ call_effect n line
          unfolding call_effect
          call_query e = rw (a, b, d, f, e)

          module _ (g : begins_with query_word line ≡ false) where
            pub call_read : begins_with read_word line ≡ true → read_effect n (behind read_word line) ≡ call_effect n line
            unfolding call_effect
            call_read e = rw (a, b, d, f, g, e)

            module _ (h : begins_with read_word line ≡ false) where
              pub call_write : begins_with write_word line ≡ true → write_effect n (behind write_word line) ≡ call_effect n line
              unfolding call_effect
              call_write e = rw (a, b, d, f, g, h, e)

              module _ (i : begins_with write_word line ≡ false) where
                pub call_breaking : begins_with breaking_word line ≡ true → breaking_effect n (behind breaking_word line) ≡ call_effect n line
                unfolding call_effect
                call_breaking e = rw (a, b, d, f, g, h, i, e)

                module _ (j : begins_with breaking_word line ≡ false) where
                  pub call_report : begins_with report_word line ≡ true → report_effect n (behind report_word line) ≡ call_effect n line
                  unfolding call_effect
                  call_report e = rw (a, b, d, f, g, h, i, j, e)

                  module _ (k : begins_with report_word line ≡ false) where
                    pub call_withdraw : begins_with withdraw_word line ≡ true → withdraw_effect n (behind withdraw_word line) ≡ call_effect n line
                    unfolding call_effect
                    call_withdraw e = rw (a, b, d, f, g, h, i, j, k, e)

                    module _ (l : begins_with withdraw_word line ≡ false) where
                      pub call_replace : begins_with replace_word line ≡ true → replace_effect n (behind replace_word line) ≡ call_effect n line
                      unfolding call_effect
                      call_replace e = rw (a, b, d, f, g, h, i, j, k, l, e)

                      module _ (m : begins_with replace_word line ≡ false) where
                        pub call_reopen : is_word reopen_word line ≡ true → reopen_effect n ≡ call_effect n line
                        unfolding call_effect
                        call_reopen e = rw (a, b, d, f, g, h, i, j, k, l, m, e)

                        pub call_unknown : is_word reopen_word line ≡ false → wrong Unknown n ≡ call_effect n line
                        unfolding call_effect
                        call_unknown e = rw (a, b, d, f, g, h, i, j, k, l, m, e)

  -- ---- the length of a line
  pub line_long : 140000 < length line → wrong Long n ≡ line_effect n line
  unfolding line_effect
  line_long h = rw (lt-ltb 140000 (length line) h)

  pub line_call : length line ≤ 140000 → call_effect n line ≡ line_effect n line
  unfolding line_effect
  line_call h = rw (le-ltb 140000 (length line) h)
