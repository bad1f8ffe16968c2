-- What C is given back of a study that is written again and again into one buffer.
use Rattle.std.specs.Prelude.{◌≡◌, List, ℕ, zero, suc, ◌+◌, length}
use Rattle.std.proofs.Common.{add-one}
use Rattle.network.specs.Network.{Network}
use Rattle.writer.specs.Writing.{write_length, after_write}

-- the buffer after k writings, and the length that the last of them reported, 0 where there was none
unfoldable pub written_times : Network → List ℕ → ℕ → List ℕ × ℕ
written_times n buffer zero = (buffer, 0)
written_times n buffer (suc k) = (after_write n (written_times n buffer k).0, write_length n (length (written_times n buffer k).0))

pub written_more : (n : Network) (buffer : List ℕ) (k : ℕ)
    → written_times n buffer (k + 1) ≡ (after_write n (written_times n buffer k).0, write_length n (length (written_times n buffer k).0))
unfolding written_times
written_more n buffer k = rw add-one
