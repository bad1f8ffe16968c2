-- A line that text is put into.
use Rattle.std.specs.Prelude.{ℕ, ◌+◌, cond, List, [], ◌∷◌, nat_lt, slice_set}

-- its bytes, and the place where the next goes
abbrev pub Line : Type 0
Line = List ℕ × ℕ

-- how many bytes it has
abbrev pub room : ℕ
room = 256

-- a byte goes to the place, and the next behind it; where there is no room it is left out
abbrev pub after_byte : Line → ℕ → Line
after_byte l b = cond (nat_lt l.1 room) (slice_set l.0 l.1 b, l.1 + 1) l

-- the bytes of a text, one after the other
unfoldable pub after_text : Line → List ℕ → Line
after_text l [] = l
after_text l (b ∷ bs) = after_text (after_byte l b) bs
