-- THE PROMISE of writing, by document 02, order 1: whatever calls made the study, refused ones among them, the reader takes its text for
-- this study and for no other. A study is the same where its tolerance, its buses, its sources and its being closed are.
use Rattle.std.specs.Prelude.{◌≡◌, true, List, ℕ, ◌≤◌, take}
use Rattle.network.specs.Network.{Network}
use Rattle.network.specs.Grounds.{Call, run}
use Rattle.reader.specs.File.{max_bytes, accepted_as, read_of}
use Rattle.writer.specs.Text.{text_of}

-- of what a call gives: its number, the length reported, and the buffer after it
pub record ReadBack (n : Network) (room number size : ℕ) (after : List ℕ) : Type 0 where
  -- "Reading that text yields the same study."
  pub same : number ≡ 0 → read_of (take size after) ≡ accepted_as n
  -- "Two closed studies with the same text are the same study."
  pub alone : number ≡ 0 → (ds : List Call) → (run ds).closed ≡ true → text_of (run ds) ≡ take size after → run ds ≡ n
  -- a buffer as long as the longest file that is read is never too short
  pub enough : n.closed ≡ true → max_bytes ≤ room → number ≡ 0

abbrev pub ReadBackPromise : Network → ℕ → ℕ → ℕ → List ℕ → Type 0
ReadBackPromise n room number size after = (cs : List Call) → n ≡ run cs → ReadBack n room number size after
