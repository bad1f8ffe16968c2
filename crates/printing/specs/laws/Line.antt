-- Text put into a line: one after another, and that the line then holds a text that fits it. Assumes nothing.
use Rattle.std.specs.Prelude.{◌≡◌, ℕ, ◌+◌, ◌<◌, ◌≤◌, List, [], ◌∷◌, ◌++◌, length, take, slice_set, refl}
use Rattle.std.proofs.Common.{arith, add-one, ap, sym, ◌∙◌, append_assoc, append-nil, length-set, take-suc-set, lt-ltb, le-ltb}
use Rattle.printing.specs.Line.{room, after_byte, Line, after_text}

module _ (line : List ℕ) (at b : ℕ) where
  pub byte_put : at < room → after_byte (line, at) b ≡ (slice_set line at b, at + 1)
  byte_put h = rw (lt-ltb at room h)

  pub byte_left_out : room ≤ at → after_byte (line, at) b ≡ (line, at)
  byte_left_out h = rw (le-ltb at room h)

-- a text after another
pub after_append : (l : Line) (xs ys : List ℕ) → after_text l (xs ++ ys) ≡ after_text (after_text l xs) ys
unfolding after_text
after_append l [] ys = refl
after_append l (x ∷ xs) ys = after_append (after_byte l x) xs ys

-- the same by steps: a text puts l to m, and another m to n
pub after_both : (l m : Line) (xs ys : List ℕ) {n : Line} → after_text l xs ≡ m → after_text m ys ≡ n → after_text l (xs ++ ys) ≡ n
after_both l m xs ys p q = after_append l xs ys ∙ ap (λ (k : Line). after_text k ys) p ∙ q

-- where there is room, the line holds up to the place after a text what it held before it, and then the text
up_to_place : (line : List ℕ) (at : ℕ) (text : List ℕ) → length line ≡ room → at + length text ≤ room
    → take (after_text (line, at) text).1 (after_text (line, at) text).0 ≡ take at line ++ text
unfolding after_text
up_to_place line at [] e h = sym (append-nil (take at line))
up_to_place line at (b ∷ bs) e h =
    let put : after_text (line, at) (b ∷ bs) ≡ after_text (slice_set line at b, at + 1) bs = ap (λ (l : Line). after_text l bs) (byte_put line at b (omega arith)) in
    let p : at < length line = omega arith in
    let more = up_to_place (slice_set line at b) (at + 1) bs (length-set line at b ∙ e) (omega arith) in
    rw put (more ∙ rw (add-one, take-suc-set line at b p, append_assoc))

-- a text that starts the line and fits it is what the line holds up to the place after it
pub first_is_text : (line text : List ℕ) {after : List ℕ} {end : ℕ} → length line ≡ room → length text ≤ room
    → after_text (line, 0) text ≡ (after, end) → take end after ≡ text
first_is_text line text e h put = ap (λ (l : Line). take l.1 l.0) (sym put) ∙ up_to_place line 0 text e (omega arith)
