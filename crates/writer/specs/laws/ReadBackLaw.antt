-- Whatever gives what Writing defines keeps the promise of ReadBack.
use Rattle.std.specs.Prelude.{◌≡◌, true, List, ℕ, length, take, drop}
use Rattle.std.proofs.Common.{sym, ◌∙◌, arith}
use Rattle.std.proofs.Math.Seq.{take-append_seam}
use Rattle.network.specs.Network.{Network}
use Rattle.network.specs.laws.Rebuilt.{Rebuilt, run_rebuilt}
use Rattle.writer.specs.Text.{text_of}
use Rattle.writer.specs.Writing.{write_number, write_length, after_write}
use Rattle.writer.specs.ReadBack.{ReadBackPromise}
use Rattle.writer.specs.laws.TextFits.{text_fits}
use Rattle.writer.specs.laws.TextRead.{written_read, same_text}
use Rattle.writer.specs.laws.WriteCases.{no_ground, write_closed, write_accepted}

-- the bytes up to the length reported are the text
text_there : (n : Network) (buffer : List ℕ) (size : ℕ) (after : List ℕ)
    → write_number n (length buffer) ≡ 0 → size ≡ write_length n (length buffer) → after ≡ after_write n buffer → take size after ≡ text_of n
text_there n buffer size after free q v =
    let l = write_accepted n buffer free in
    rw (q ∙ l.0, v ∙ l.1) (take-append_seam (text_of n) (drop (length (text_of n)) buffer))

pub promised : (n : Network) (buffer : List ℕ) (number size : ℕ) (after : List ℕ)
    → number ≡ write_number n (length buffer) → size ≡ write_length n (length buffer) → after ≡ after_write n buffer
    → ReadBackPromise n (length buffer) number size after
promised n buffer number size after p q v cs e =
    let r : Rebuilt n = rw e (run_rebuilt cs) in
    let there : number ≡ 0 → take size after ≡ text_of n = λ z. text_there n buffer size after (sym p ∙ z) q v in
    let closed : number ≡ 0 → n.closed ≡ true = λ z. write_closed n (length buffer) (sym p ∙ z) in
    record {
      same = λ z. rw (there z) (written_read r (closed z));
      alone = λ z ds d t. same_text (run_rebuilt ds) r d (closed z) (t ∙ there z);
      enough = λ c h. p ∙ no_ground n (length buffer) c (omega (arith, text_fits r));
    }
