-- Order 1's sentences on reading what was written, as theorems about lists of calls and a buffer of 65,536 bytes; and a study of one bus
-- and one source for which they hold. Assumes nothing.
use Rattle.std.specs.Prelude.{ℕ, ◌≡◌, refl, true, List, [], ◌∷◌, length, take, drop}
use Rattle.std.proofs.Common.{sym, ◌∙◌, arith}
use Rattle.std.proofs.Math.Seq.{take-append_seam}
use Rattle.network.specs.Records.{branch_ok}
use Rattle.network.specs.SourceKinds.{ranges_ok, fields_ok}
use Rattle.network.specs.Network.{along}
use Rattle.network.specs.Grounds.{depth_ok, bus_record_number, bus_number_in, after_bus_in, source_record_number, source_number_in, after_source_in, close_number, after_close, Call, starting, adding_bus, adding_source, closing, run}
use Rattle.reader.specs.File.{accepted_as, bus_of, source_of, read_of}
use Rattle.writer.specs.Text.{text_of}
use Rattle.writer.specs.Writing.{write_number, write_length, after_write}
use Rattle.writer.specs.ReadBack.{ReadBackPromise}
use Rattle.writer.specs.laws.ReadBackLaw.{promised}
use Rattle.writer.specs.laws.WriteCases.{write_accepted}

-- whatever calls made a closed study, and a buffer as long as the longest file that is read
module _ (cs : List Call) (closed : (run cs).closed ≡ true) (buffer : List ℕ) (room : length buffer ≡ 65536) where
  -- what the clause `promise` of `write` says of what it gives
  kept : ReadBackPromise (run cs) (length buffer) (write_number (run cs) (length buffer)) (write_length (run cs) (length buffer)) (after_write (run cs) buffer)
  kept = promised (run cs) buffer _ _ _ refl refl refl

  -- the buffer is never too short
  pub longest_fits : write_number (run cs) (length buffer) ≡ 0
  longest_fits = (kept cs refl).enough closed (omega (arith, room))

  -- "Reading that text yields the same study."
  pub reads_the_same : read_of (take (write_length (run cs) (length buffer)) (after_write (run cs) buffer)) ≡ accepted_as (run cs)
  reads_the_same = (kept cs refl).same longest_fits

  -- "Two closed studies with the same text are the same study."
  pub same_text_same_study : (ds : List Call) → (run ds).closed ≡ true → text_of (run ds) ≡ text_of (run cs) → run ds ≡ run cs
  same_text_same_study ds d e =
      let l = write_accepted (run cs) buffer longest_fits in
      (kept cs refl).alone longest_fits ds d (e ∙ sym (rw (l.0, l.1) (take-append_seam (text_of (run cs)) (drop (length (text_of (run cs))) buffer))))

-- ---- tolerance 6, a bus at 400 V and its feeder of 5,000 kVA
abbrev few : List Call
few = starting 6 ∷ adding_bus (bus_of (0 ∷ 400 ∷ 0 ∷ 0 ∷ 0 ∷ 0 ∷ 0 ∷ 0 ∷ 1 ∷ 2 ∷ [])) ∷ adding_source (source_of (1 ∷ 0 ∷ 5000 ∷ 10 ∷ [])) ∷ closing ∷ []

-- these calls make a closed study
pub few_closed : (run few).closed ≡ true
unfolding run after_bus_in bus_number_in bus_record_number branch_ok depth_ok along after_source_in source_number_in source_record_number ranges_ok fields_ok after_close close_number
few_closed = refl

-- and it is read back from every buffer of 65,536 bytes
pub few_read : (buffer : List ℕ) → length buffer ≡ 65536 → read_of (take (write_length (run few) (length buffer)) (after_write (run few) buffer)) ≡ accepted_as (run few)
few_read buffer room = reads_the_same few few_closed buffer room
