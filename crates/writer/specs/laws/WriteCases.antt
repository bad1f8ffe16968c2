-- The three cases of writing: not closed, too short a buffer, accepted.
use Rattle.std.specs.Prelude.{◌≡◌, true, false, List, ◌++◌, ℕ, ◌≤◌, ◌<◌, length, drop}
use Rattle.std.proofs.Common.{le-leb, leb-true, eq-eqb, ne_eqb}
use Rattle.std.proofs.lemmas.Bool.{lt-leb}
use Rattle.std.proofs.Math.Path.{refl}
use Rattle.network.specs.Network.{Network}
use Rattle.network.specs.laws.Acceptance.{ground}
use Rattle.writer.specs.Text.{text_of}
use Rattle.writer.specs.Writing.{write_grounds, write_number, write_length, after_write}

module _ (n : Network) (room : ℕ) where
  pub open_number : n.closed ≡ false → write_number n room ≡ 22
  unfolding write_number
  open_number c = rw c

  pub short_number : n.closed ≡ true → room < length (text_of n) → write_number n room ≡ 30
  unfolding write_number
  short_number c h = rw (lt-leb (length (text_of n)) room h, c)

  pub no_ground : n.closed ≡ true → length (text_of n) ≤ room → write_number n room ≡ 0
  unfolding write_number
  no_ground c h = rw (le-leb (length (text_of n)) room h, c)

  -- what an accepted call shows
  pub write_closed : write_number n room ≡ 0 → n.closed ≡ true
  unfolding write_number
  write_closed e = ground (write_grounds n room) 22 refl e

  pub write_room : write_number n room ≡ 0 → length (text_of n) ≤ room
  unfolding write_number
  write_room e = leb-true (length (text_of n)) room (ground (write_grounds n room) 30 refl e)

module _ (n : Network) (buffer : List ℕ) where
  pub write_refused : (write_number n (length buffer) ≡ 0 → ⊥) → (write_length n (length buffer) ≡ 0) × (after_write n buffer ≡ buffer)
  unfolding write_length after_write
  write_refused h = let t = ne_eqb (write_number n (length buffer)) 0 h in (rw t, rw t)

  pub write_accepted : write_number n (length buffer) ≡ 0
      → (write_length n (length buffer) ≡ length (text_of n)) × (after_write n buffer ≡ text_of n ++ drop (length (text_of n)) buffer)
  unfolding write_length after_write
  write_accepted e = let t = eq-eqb (write_number n (length buffer)) 0 e in (rw t, rw t)
