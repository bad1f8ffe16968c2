-- Laws of lines: a byte that is left of a block, one byte more of a word, one pair of digits more, and that the digits which an answer has
-- are read as their bytes. Assumes nothing.
use Rattle.std.specs.Prelude.{ℕ, zero, suc, ◌+◌, ◌*◌, ◌-◌, ◌/◌, ◌%◌, ◌≤◌, ◌<◌, Bool, ◌&&◌, List, [], ◌∷◌, ◌++◌, ltb, eqb, length, take, drop, set, get_or}
use Rattle.std.proofs.Common.{sym, ◌∙◌, ap, ap₂, arith, div-add-mod', mod-lt, drop_of_length-le, drop-cons, take-suc-set, ltb-true, ltb-false, eq-eqb, ne_eqb, lt-ltb, le-ltb, le-leb}
use Rattle.std.proofs.lemmas.Bool.{lt-leb}
use Rattle.std.proofs.Math.Path.{◌≡◌, refl}
use Rattle.std.proofs.Math.Bool.{true, false, cond}
use Rattle.std.proofs.Math.Seq.{append_snoc}
use Rattle.network.specs.Records.{in_range}
use Rattle.network.specs.laws.Tests.{by_test}
use Rattle.console.specs.declared.hex.Decoded.TheVariants.{Bytes, Broken}
use Rattle.console.specs.declared.input.Cursor.{Cursor}
use Rattle.console.specs.declared.input.Step.{Step}
use Rattle.console.specs.Answers.{hex_digit, hex_text}
use Rattle.console.specs.Lines.{byte_left, step_at, begins_with, hex_value, hex_pairs, hex_bytes, decoded_of}

append_nil : (l : List ℕ) → l ++ [] ≡ l
append_nil [] = refl
append_nil (x ∷ l) = ap (λ (r : List ℕ). x ∷ r) (append_nil l)

-- ---- the bytes of a block
pub byte_left_law : (c : Cursor) → c.at < c.filled → c.at < 4096 → byte_left c ≡ true
unfolding byte_left
byte_left_law c h l = rw (lt-ltb c.at c.filled h, lt-ltb c.at 4096 l)

pub past_filled : (c : Cursor) → c.filled ≤ c.at → byte_left c ≡ false
unfolding byte_left
past_filled c h = rw (le-ltb c.at c.filled h)

pub past_block : (c : Cursor) → 4096 ≤ c.at → byte_left c ≡ false
unfolding byte_left
past_block c h = by_test (ltb c.at c.filled) (λ t. rw (t, le-ltb c.at 4096 h)) (λ t. rw t)

-- a byte of a block that holds some is not the input's end
pub step_held : (block : List ℕ) (at filled : ℕ) → 0 < filled
    → ◌≡◌ {A = Step} (record { ended = false; byte = get_or block at 0; cursor = record { at = at + 1; filled = filled } }) (step_at block at filled)
unfolding step_at
step_held block at filled h = rw (ne_eqb filled 0 (λ e. omega arith))

-- ---- words
-- a line that is shorter does not begin with the word
pub begins_short : (word line : List ℕ) → length line < length word → begins_with word line ≡ false
begins_short [] line h = absurd (omega arith)
begins_short (w ∷ word) [] h = refl
begins_short (w ∷ word) (x ∷ line) h = rw (begins_short word line (omega arith)) (go (eqb x w))
  where
    go : (t : Bool) → t && false ≡ false
    go true = refl
    go false = refl

-- the bytes at place i are alike, or they are not
module _ (word line : List ℕ) (i d : ℕ) (l : i < length word) (m : i < length line) where
  pub begins_next : get_or line i d ≡ get_or word i d → begins_with (drop i word) (drop i line) ≡ begins_with (drop (i + 1) word) (drop (i + 1) line)
  begins_next e = let s : i + 1 ≡ suc i = omega arith in rw (drop-cons word i d l, drop-cons line i d m, s, eq-eqb (get_or line i d) (get_or word i d) e)

  pub begins_other : (get_or line i d ≡ get_or word i d → ⊥) → begins_with (drop i word) (drop i line) ≡ false
  begins_other h = rw (drop-cons word i d l, drop-cons line i d m, ne_eqb (get_or line i d) (get_or word i d) h)

pub begins_all : (word line : List ℕ) (i : ℕ) → length word ≤ i → begins_with (drop i word) (drop i line) ≡ true
begins_all word line i h = rw (drop_of_length-le word {i = i} h)

-- ---- a digit
inside : (first last x : ℕ) → first ≤ x → x ≤ last → in_range x first last ≡ true
inside first last x h k = rw (le-leb first x h, le-leb x last k)

before : (first last x : ℕ) → x < first → in_range x first last ≡ false
before first last x h = rw (lt-leb first x h)

past : (first last x : ℕ) → first ≤ x → last < x → in_range x first last ≡ false
past first last x h k = rw (le-leb first x h, lt-leb x last k)

pub digit_number : (x : ℕ) → 48 ≤ x → x ≤ 57 → x - 48 ≡ hex_value x
unfolding hex_value
digit_number x h k = rw (inside 48 57 x h k)

pub digit_capital : (x : ℕ) → 65 ≤ x → x ≤ 70 → x - 55 ≡ hex_value x
unfolding hex_value
digit_capital x h k = rw (past 48 57 x (omega arith) (omega arith), inside 65 70 x h k)

pub digit_small : (x : ℕ) → 97 ≤ x → x ≤ 102 → x - 87 ≡ hex_value x
unfolding hex_value
digit_small x h k = rw (past 48 57 x (omega arith) (omega arith), past 65 70 x (omega arith) (omega arith), inside 97 102 x h k)

pub none_below : (x : ℕ) → x < 48 → 16 ≡ hex_value x
unfolding hex_value
none_below x h = rw (before 48 57 x h, before 65 70 x (omega arith), before 97 102 x (omega arith))

pub none_before_capitals : (x : ℕ) → 57 < x → x < 65 → 16 ≡ hex_value x
unfolding hex_value
none_before_capitals x h k = rw (past 48 57 x (omega arith) h, before 65 70 x k, before 97 102 x (omega arith))

pub none_before_small : (x : ℕ) → 70 < x → x < 97 → 16 ≡ hex_value x
unfolding hex_value
none_before_small x h k = rw (past 48 57 x (omega arith) (omega arith), past 65 70 x (omega arith) h, before 97 102 x k)

pub none_above : (x : ℕ) → 102 < x → 16 ≡ hex_value x
unfolding hex_value
none_above x h = rw (past 48 57 x (omega arith) (omega arith), past 65 70 x (omega arith) (omega arith), past 97 102 x (omega arith) h)

-- ---- digits: one pair more, at place k
module _ (digits : List ℕ) (k d : ℕ) (l : k + 1 < length digits) where
  parted : drop k digits ≡ get_or digits k d ∷ get_or digits (k + 1) d ∷ drop (k + 1 + 1) digits
  parted =
      let s : k + 1 ≡ suc k = omega arith in
      let t : k + 1 + 1 ≡ suc (k + 1) = omega arith in
      drop-cons digits k d (omega arith) ∙ rw (t, ← drop-cons digits (k + 1) d l, s)

  pub pairs_next : hex_value (get_or digits k d) < 16 → hex_value (get_or digits (k + 1) d) < 16 → hex_pairs (drop k digits) ≡ hex_pairs (drop (k + 1 + 1) digits)
  pairs_next h m = rw (parted, lt-ltb (hex_value (get_or digits k d)) 16 h, lt-ltb (hex_value (get_or digits (k + 1) d)) 16 m)

  pub pairs_high : 16 ≤ hex_value (get_or digits k d) → hex_pairs (drop k digits) ≡ false
  pairs_high h = rw (parted, le-ltb (hex_value (get_or digits k d)) 16 h)

  pub pairs_low : hex_value (get_or digits k d) < 16 → 16 ≤ hex_value (get_or digits (k + 1) d) → hex_pairs (drop k digits) ≡ false
  pairs_low h m = rw (parted, lt-ltb (hex_value (get_or digits k d)) 16 h, le-ltb (hex_value (get_or digits (k + 1) d)) 16 m)

  pub bytes_next : hex_bytes (drop k digits) ≡ (16 * hex_value (get_or digits k d) + hex_value (get_or digits (k + 1) d)) ∷ hex_bytes (drop (k + 1 + 1) digits)
  bytes_next = rw parted

-- an odd number of digits is not in pairs
pub pairs_odd : (digits : List ℕ) (n : ℕ) → length digits ≡ n + n + 1 → hex_pairs digits ≡ false
pairs_odd [] n e = absurd (omega arith)
pairs_odd (x ∷ []) n e = refl
pairs_odd (x ∷ y ∷ rest) zero e = absurd (omega arith)
pairs_odd (x ∷ y ∷ rest) (suc n) e = rw (pairs_odd rest n (omega arith)) (go (ltb (hex_value x) 16 && ltb (hex_value y) 16))
  where
    go : (t : Bool) → t && false ≡ false
    go true = refl
    go false = refl

-- one pair is decoded
module _ (digits : List ℕ) (i : ℕ) (l : i + i + 1 < length digits) where
  pub decoded_more : hex_value (get_or digits (i + i) 0) < 16 → hex_value (get_or digits (i + i + 1) 0) < 16 → hex_pairs (drop (i + i) digits) ≡ hex_pairs (drop (i + 1 + (i + 1)) digits)
  decoded_more h k = let s : i + 1 + (i + 1) ≡ i + i + 1 + 1 = omega arith in rw s (pairs_next digits (i + i) 0 l h k)

  pub decoded_byte : (text : List ℕ) (p : ℕ) → i < length text → p ≡ 16 * hex_value (get_or digits (i + i) 0) + hex_value (get_or digits (i + i + 1) 0)
      → take (i + 1) (set text i p) ++ hex_bytes (drop (i + 1 + (i + 1)) digits) ≡ take i text ++ hex_bytes (drop (i + i) digits)
  decoded_byte text p m e =
      let s : i + 1 + (i + 1) ≡ i + i + 1 + 1 = omega arith in
      let u : i + 1 ≡ suc i = omega arith in
      ap₂ (λ (x : List ℕ) (k : ℕ). x ++ hex_bytes (drop k digits)) (ap (λ (k : ℕ). take k (set text i p)) u ∙ take-suc-set text i p m) s
      ∙ append_snoc (take i text) p (hex_bytes (drop (i + i + 1 + 1) digits))
      ∙ ap (λ (x : List ℕ). take i text ++ x) (ap (λ (b : ℕ). b ∷ hex_bytes (drop (i + i + 1 + 1) digits)) e ∙ sym (bytes_next digits (i + i) 0 l))

-- ---- what is decoded: broken digits, too many of them, and all of them
module _ {X : Type 0} (digits : List ℕ) where
  pub decoded_broken : hex_pairs digits ≡ false → (Broken ≡ decoded_of digits) × (hex_pairs digits ≡ true → length digits ≤ 140000 → X)
  unfolding decoded_of
  decoded_broken e = (rw e, λ h l. let c : ◌≡◌ {A = ℕ} 0 1 = cc in absurd (omega arith))

  pub decoded_long : 140000 < length digits → (Broken ≡ decoded_of digits) × (hex_pairs digits ≡ true → length digits ≤ 140000 → X)
  unfolding decoded_of
  decoded_long h = (rw (lt-leb (length digits) 140000 h) (go (hex_pairs digits)), λ p l. absurd (omega arith))
    where
      go : (t : Bool) → Broken ≡ cond (t && false) (Bytes (length digits / 2)) Broken
      go true = refl
      go false = refl

module _ (digits : List ℕ) (n i : ℕ) (e : n ≡ length digits / 2) (w : n + n ≡ length digits) (l : n ≤ 70000) (k : i ≡ n) where
  ended : drop (i + i) digits ≡ []
  ended = drop_of_length-le digits {i = i + i} (omega arith)

  pub decoded_whole : hex_pairs digits ≡ hex_pairs (drop (i + i) digits) → Bytes n ≡ decoded_of digits
  unfolding decoded_of
  decoded_whole q = let p : hex_pairs digits ≡ true = rw ended at q in rw (p, le-leb (length digits) 140000 (omega arith), e)

  pub decoded_bytes : (text : List ℕ) → take i text ++ hex_bytes (drop (i + i) digits) ≡ hex_bytes digits → take (length digits / 2) text ≡ hex_bytes digits
  decoded_bytes text r = let b : take i text ++ [] ≡ hex_bytes digits = rw ended at r in rw (← e, ← k) (sym (append_nil (take i text)) ∙ b)

-- ---- THE DIGITS OF AN ANSWER ARE READ AS ITS BYTES: what `write` answers is what `read` takes
half_back : (h : ℕ) → h < 16 → hex_value (hex_digit h) ≡ h
unfolding hex_digit
half_back h l = go (ltb h 10) refl
  where
    go : (t : Bool) → ltb h 10 ≡ t → hex_value (cond t (48 + h) (87 + h)) ≡ h
    go true e = let m = ltb-true h 10 e in let z : 48 + h - 48 ≡ h = omega arith in sym (digit_number (48 + h) (omega arith) (omega arith)) ∙ z
    go false e = let m = ltb-false h 10 e in let z : 87 + h - 87 ≡ h = omega arith in sym (digit_small (87 + h) (omega arith) (omega arith)) ∙ z

pub hex_back : (bytes : List ℕ) → ((i : ℕ) → i < length bytes → get_or bytes i 0 < 256) → (hex_pairs (hex_text bytes) ≡ true) × (hex_bytes (hex_text bytes) ≡ bytes)
unfolding hex_text
hex_back [] h = (refl, refl)
hex_back (b ∷ bytes) h =
    let l : b < 256 = h 0 (omega arith) in
    let r = hex_back bytes (λ i m. h (suc i) (omega arith)) in
    let q = div-add-mod' b 16 in
    let low : b % 16 < 16 = mod-lt b (omega arith) in
    let high : b / 16 < 16 = omega arith in
    let e : 16 * (b / 16) + b % 16 ≡ b = omega arith in
    rw (half_back (b / 16) high, half_back (b % 16) low, lt-ltb (b / 16) 16 high, lt-ltb (b % 16) 16 low, e, r.1) (r.0, refl)
