-- What a turn of `put` does, by whether the line has room.
use Rattle.std.proofs.Common.{◌≡◌, ℕ, suc, ◌+◌, ◌<◌, ◌≤◌, List, length, get_or, drop, set, sym, ap, add-one, drop-cons}
use Rattle.printing.specs.Line.{Line, room, after_text}
use Rattle.printing.specs.laws.Line.{byte_put, byte_left_out}

module _ (line : List ℕ) (at : ℕ) (bytes : List ℕ) (i : ℕ) (h : i < length bytes) where
  pub next_put : at < room → after_text (set line at (get_or bytes i 0), at + 1) (drop (i + 1) bytes) ≡ after_text (line, at) (drop i bytes)
  unfolding after_text
  next_put p = rw (add-one i, drop-cons bytes i 0 h) (ap (λ (l : Line). after_text l (drop (suc i) bytes)) (sym (byte_put line at (get_or bytes i 0) p)))

  pub next_left_out : room ≤ at → after_text (line, at) (drop (i + 1) bytes) ≡ after_text (line, at) (drop i bytes)
  unfolding after_text
  next_left_out p = rw (add-one i, drop-cons bytes i 0 h) (ap (λ (l : Line). after_text l (drop (suc i) bytes)) (sym (byte_left_out line at (get_or bytes i 0) p)))
