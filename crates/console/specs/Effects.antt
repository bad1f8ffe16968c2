-- What the console makes of a line, by README, "Answers": the line that it answers, and the network after it. Definitions alone; what is
-- answered to a line with a fault names the first reason, in the order of the code.
use Rattle.std.specs.Prelude.{ℕ, ◌+◌, Bool, cond, ◌&&◌, ◌||◌, List, [], ◌∷◌, leb, ltb, eqb, length, take, drop, get_or, replicate, Float}
use Rattle.network.specs.declared.study.Source.{Source}
use Rattle.network.specs.Network.{Network, network}
use Rattle.network.specs.Grounds.{start_number, start_network, bus_number, after_bus, source_number, after_source, withdraw_number, after_withdraw, replace_number, after_replace, close_number, after_close, reopen_number, after_reopen}
use Rattle.network.specs.Query.{found_given}
use Rattle.reader.specs.declared.Numbers.{Numbers}
use Rattle.reader.specs.File.{most_fields, source_fields, short_source_fields, bus_count_ok, source_count_ok, fields, bus_of, source_of, Outcome, read_of}
use Rattle.reader.specs.Collected.{collected}
use Rattle.writer.specs.Writing.{write_number, write_length, after_write}
use Rattle.network.specs.Report.{report_number, reported}
use Rattle.network.specs.Tables.{table_after}
use Rattle.breaking.specs.Breaking.{breaking_number, figure_after}
use Rattle.breaking.specs.Doubles.{part_at, table_of, figure_at}
use Rattle.console.specs.declared.turns.Reason.{Reason}
use Rattle.console.specs.declared.turns.Reason.TheVariants.{Fields, Number, Hex, Room, Unknown, Long}
use Rattle.console.specs.declared.turns.Reply.{Reply}
use Rattle.console.specs.declared.turns.Reply.TheVariants.{Ground, Reading, Found, Written, Breaking, Report, Error}
use Rattle.console.specs.declared.turns.Turn.{Turn}
use Rattle.console.specs.Answers.{error_line, number_line, reading_line, found_line, written_line, broken_line, report_line, filler, table_filler}
use Rattle.console.specs.Lines.{begins_with, is_word, hex_pairs, hex_bytes}

pub record Effect : Type 0 where
  pub answer : List ℕ
  pub network : Network

-- ---- the effect of a turn of the code
-- the bytes of `fields`, `number`, `hex`, `room`, `unknown call` and `line too long`
abbrev pub reason_text : Reason → List ℕ
reason_text Fields = 102 ∷ 105 ∷ 101 ∷ 108 ∷ 100 ∷ 115 ∷ []
reason_text Number = 110 ∷ 117 ∷ 109 ∷ 98 ∷ 101 ∷ 114 ∷ []
reason_text Hex = 104 ∷ 101 ∷ 120 ∷ []
reason_text Room = 114 ∷ 111 ∷ 111 ∷ 109 ∷ []
reason_text Unknown = 117 ∷ 110 ∷ 107 ∷ 110 ∷ 111 ∷ 119 ∷ 110 ∷ 32 ∷ 99 ∷ 97 ∷ 108 ∷ 108 ∷ []
reason_text Long = 108 ∷ 105 ∷ 110 ∷ 101 ∷ 32 ∷ 116 ∷ 111 ∷ 111 ∷ 32 ∷ 108 ∷ 111 ∷ 110 ∷ 103 ∷ []

-- what calls are lent: the text of a writing, and the table of a breaking current or of a report
abbrev pub Lent : Type 0
Lent = List ℕ × List Float

-- the line of a reply; of a writing it ends with the first bytes of the lent text, of a breaking current and of a report with the first
-- numbers of the lent table
abbrev pub reply_line : Lent → Reply → List ℕ
reply_line lent (Ground number) = number_line number
reply_line lent (Reading number row) = reading_line number row
reply_line lent (Found found) = found_line found
reply_line lent (Written number size count) = written_line number size (take count lent.0)
reply_line lent (Breaking number figure count) = broken_line number figure (take count lent.1)
reply_line lent (Report number count) = report_line number (take count lent.1)
reply_line lent (Error reason) = error_line (reason_text reason)

abbrev pub effect_of : Lent → Turn → Effect
effect_of lent t = record { answer = reply_line lent t.reply; network = network t.study }

-- ---- the lines of README's table
-- "`error,` and a reason; nothing is changed"
abbrev pub wrong : Reason → Network → Effect
wrong reason n = record { answer = error_line (reason_text reason); network = n }

-- "the number of the ground, 0 where accepted"
abbrev pub ground : ℕ → Network → Effect
ground number n = record { answer = number_line number; network = n }

-- as many numbers behind a word as a test wants, and all of them numbers; where not, a field is no number, unless there are too many
-- before it
abbrev pub exactly : ℕ → ℕ → Bool
exactly wanted count = eqb count wanted

abbrev pub counted : Numbers → (ℕ → Bool) → Bool
counted v wanted = v.ok && wanted v.count

abbrev pub reason_of : Numbers → Reason
reason_of v = cond (v.ok || eqb v.count most_fields) Fields Number

unfoldable pub numbered : (ℕ → Bool) → (List ℕ → Effect) → Network → Numbers → Effect
numbered wanted call n v = cond (counted v wanted) (call v.values) (wrong (reason_of v) n)

-- "`start,T`"
abbrev pub start_by : List ℕ → Effect
start_by v = ground (start_number (get_or v 0 0)) (start_network (get_or v 0 0))

abbrev pub start_effect : Network → List ℕ → Effect
start_effect n rest = numbered (exactly 1) start_by n (collected (fields rest))

-- "`bus,` and ten numbers"
abbrev pub bus_by : Network → List ℕ → Effect
bus_by n v = ground (bus_number n (bus_of v)) (after_bus n (bus_of v))

abbrev pub bus_effect : Network → List ℕ → Effect
bus_effect n rest = numbered bus_count_ok (bus_by n) n (collected (fields rest))

-- "`source,` and seven numbers or twelve"
abbrev pub source_by : Network → List ℕ → Effect
source_by n v = ground (source_number n (source_of v)) (after_source n (source_of v))

abbrev pub source_effect : Network → List ℕ → Effect
source_effect n rest = numbered source_count_ok (source_by n) n (collected (fields rest))

-- "`close`"
abbrev pub close_effect : Network → Effect
close_effect n = ground (close_number n) (after_close n)

-- "`withdraw,PLACE`"
abbrev pub withdraw_by : Network → List ℕ → Effect
withdraw_by n v = ground (withdraw_number n (get_or v 0 0)) (after_withdraw n (get_or v 0 0))

abbrev pub withdraw_effect : Network → List ℕ → Effect
withdraw_effect n rest = numbered (exactly 1) (withdraw_by n) n (collected (fields rest))

-- "`replace,PLACE,` and seven numbers or twelve": the record stands behind the place
abbrev pub replace_count_ok : ℕ → Bool
replace_count_ok count = eqb count (short_source_fields + 1) || eqb count (source_fields + 1)

unfoldable pub record_behind : List ℕ → Source
record_behind v = source_of (drop 1 v)

abbrev pub replace_by : Network → List ℕ → Effect
replace_by n v = ground (replace_number n (get_or v 0 0) (record_behind v)) (after_replace n (get_or v 0 0) (record_behind v))

abbrev pub replace_effect : Network → List ℕ → Effect
replace_effect n rest = numbered replace_count_ok (replace_by n) n (collected (fields rest))

-- "`reopen`"
abbrev pub reopen_effect : Network → Effect
reopen_effect n = ground (reopen_number n) (after_reopen n)

-- "`query,BUS`"
abbrev pub query_by : Network → List ℕ → Effect
query_by n v = record { answer = found_line (found_given n (get_or v 0 0)); network = n }

abbrev pub query_effect : Network → List ℕ → Effect
query_effect n rest = numbered (exactly 1) (query_by n) n (collected (fields rest))

-- "`read,HEX`": "number and row"
abbrev pub read_by : Outcome → Effect
read_by o = record { answer = reading_line o.number o.row; network = o.network }

unfoldable pub read_effect : Network → List ℕ → Effect
read_effect n rest = cond (hex_pairs rest && leb (length rest) 140000) (read_by (read_of (hex_bytes rest))) (wrong Hex n)

-- "`write,ROOM`": "all ROOM lent bytes"; "each byte is 0x55 before the call"; "ROOM is at most 70,000"
unfoldable pub write_into : Network → ℕ → Effect
write_into n room = record { answer = written_line (write_number n room) (write_length n room) (after_write n (replicate room filler)); network = n }

abbrev pub write_by : Network → List ℕ → Effect
write_by n v = cond (leb (get_or v 0 0) 70000) (write_into n (get_or v 0 0)) (wrong Room n)

abbrev pub write_effect : Network → List ℕ → Effect
write_effect n rest = numbered (exactly 1) (write_by n) n (collected (fields rest))

-- "`breaking,BUS,DELAY,ROOM`": "all ROOM lent numbers"; "each number is 7 before the call"; "ROOM is at most 1,100"
unfoldable pub break_into : Network → ℕ → ℕ → ℕ → Effect
break_into n bus delay room =
    let number = breaking_number n bus delay room in
    record { answer = broken_line number (figure_after number (figure_at n bus delay)) (table_after number (table_of (part_at n bus delay) n.sources) (replicate room table_filler)); network = n }

abbrev pub breaking_by : Network → List ℕ → Effect
breaking_by n v = cond (leb (get_or v 2 0) 1100) (break_into n (get_or v 0 0) (get_or v 1 0) (get_or v 2 0)) (wrong Room n)

abbrev pub breaking_effect : Network → List ℕ → Effect
breaking_effect n rest = numbered (exactly 3) (breaking_by n) n (collected (fields rest))

-- "`report,ROOM`": "all ROOM lent numbers"; "each number is 7 before the call"; "ROOM is at most 1,000"
unfoldable pub report_into : Network → ℕ → Effect
report_into n room =
    let number = report_number n room in
    record { answer = report_line number (table_after number (reported n) (replicate room table_filler)); network = n }

abbrev pub report_by : Network → List ℕ → Effect
report_by n v = cond (leb (get_or v 0 0) 1000) (report_into n (get_or v 0 0)) (wrong Room n)

abbrev pub report_effect : Network → List ℕ → Effect
report_effect n rest = numbered (exactly 1) (report_by n) n (collected (fields rest))

-- the bytes of the words, each with its comma but `close` and `reopen`
abbrev pub start_word : List ℕ
start_word = 115 ∷ 116 ∷ 97 ∷ 114 ∷ 116 ∷ 44 ∷ []

abbrev pub bus_word : List ℕ
bus_word = 98 ∷ 117 ∷ 115 ∷ 44 ∷ []

abbrev pub source_word : List ℕ
source_word = 115 ∷ 111 ∷ 117 ∷ 114 ∷ 99 ∷ 101 ∷ 44 ∷ []

abbrev pub close_word : List ℕ
close_word = 99 ∷ 108 ∷ 111 ∷ 115 ∷ 101 ∷ []

abbrev pub query_word : List ℕ
query_word = 113 ∷ 117 ∷ 101 ∷ 114 ∷ 121 ∷ 44 ∷ []

abbrev pub read_word : List ℕ
read_word = 114 ∷ 101 ∷ 97 ∷ 100 ∷ 44 ∷ []

abbrev pub write_word : List ℕ
write_word = 119 ∷ 114 ∷ 105 ∷ 116 ∷ 101 ∷ 44 ∷ []

abbrev pub breaking_word : List ℕ
breaking_word = 98 ∷ 114 ∷ 101 ∷ 97 ∷ 107 ∷ 105 ∷ 110 ∷ 103 ∷ 44 ∷ []

abbrev pub report_word : List ℕ
report_word = 114 ∷ 101 ∷ 112 ∷ 111 ∷ 114 ∷ 116 ∷ 44 ∷ []

abbrev pub withdraw_word : List ℕ
withdraw_word = 119 ∷ 105 ∷ 116 ∷ 104 ∷ 100 ∷ 114 ∷ 97 ∷ 119 ∷ 44 ∷ []

abbrev pub replace_word : List ℕ
replace_word = 114 ∷ 101 ∷ 112 ∷ 108 ∷ 97 ∷ 99 ∷ 101 ∷ 44 ∷ []

abbrev pub reopen_word : List ℕ
reopen_word = 114 ∷ 101 ∷ 111 ∷ 112 ∷ 101 ∷ 110 ∷ []

-- THE EFFECT OF A LINE: by the word that it begins with, and what stands behind that
abbrev pub behind : List ℕ → List ℕ → List ℕ
behind word line = drop (length word) line

unfoldable pub call_effect : Network → List ℕ → Effect
call_effect n line =
    cond (begins_with start_word line) (start_effect n (behind start_word line))
    (cond (begins_with bus_word line) (bus_effect n (behind bus_word line))
    (cond (begins_with source_word line) (source_effect n (behind source_word line))
    (cond (is_word close_word line) (close_effect n)
    (cond (begins_with query_word line) (query_effect n (behind query_word line))
    (cond (begins_with read_word line) (read_effect n (behind read_word line))
    (cond (begins_with write_word line) (write_effect n (behind write_word line))
    (cond (begins_with breaking_word line) (breaking_effect n (behind breaking_word line))
    (cond (begins_with report_word line) (report_effect n (behind report_word line))
    (cond (begins_with withdraw_word line) (withdraw_effect n (behind withdraw_word line))
    (cond (begins_with replace_word line) (replace_effect n (behind replace_word line))
    (cond (is_word reopen_word line) (reopen_effect n)
    (wrong Unknown n))))))))))))

-- "an input line has at most 140,000 bytes"
unfoldable pub line_effect : Network → List ℕ → Effect
line_effect n line = cond (ltb 140000 (length line)) (wrong Long n) (call_effect n line)
