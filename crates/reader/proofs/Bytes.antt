-- What the byte at a place says of the bytes from there on: of a line end, a comma, a digit.
use Rattle.std.specs.Prelude.{◌≡◌, true, false, ◌&&◌, List, [], ◌∷◌, ℕ, suc, ◌+◌, ◌*◌, ◌-◌, ◌^◌, ◌≤◌, ◌<◌, eqb, length, drop, get_or}
use Rattle.std.proofs.Common.{arith, add-one, lt-ltb, le-ltb, le-leb, drop_of_length-le, drop-cons}
use Rattle.std.proofs.lemmas.Bool.{lt-leb}
use Rattle.network.specs.laws.Tests.{by_test}
use Rattle.reader.specs.declared.Number.TheVariants.{Value, Broken}
use Rattle.reader.specs.File.{cr, lf, comma, digit0, digit9, digits, digits_value, value_of}
use Rattle.reader.specs.Stretches.{at_crlf, at_comma}

module _ (l : List ℕ) (i : ℕ) (h : i < length l) where
  pub crlf_last : length l ≤ i + 1 → at_crlf (drop i l) ≡ false
  crlf_last e =
      let k : length l ≤ suc i = omega arith in
      rw (drop-cons l i 0 h, drop_of_length-le l k)

  pub crlf_next : i + 1 < length l → at_crlf (drop i l) ≡ (eqb (get_or l i 0) cr && eqb (get_or l (i + 1) 0) lf)
  crlf_next e =
      let k : suc i < length l = omega arith in
      rw (drop-cons l i 0 h, drop-cons l (suc i) 0 k, add-one i)

  pub comma_here : at_comma (drop i l) ≡ eqb (get_or l i 0) comma
  comma_here = rw (drop-cons l i 0 h)

  -- a byte that is no digit
  pub digits_low : get_or l i 0 < digit0 → digits (drop i l) ≡ false
  digits_low e = rw (drop-cons l i 0 h, lt-leb digit0 (get_or l i 0) e)

  pub digits_high : digit9 < get_or l i 0 → digits (drop i l) ≡ false
  digits_high e = rw (drop-cons l i 0 h, le-leb digit0 (get_or l i 0) (omega arith), lt-leb (get_or l i 0) digit9 e)

  pub digits_more : digit0 ≤ get_or l i 0 → get_or l i 0 ≤ digit9 → digits (drop i l) ≡ digits (drop (i + 1) l)
  digits_more p q = rw (add-one i, drop-cons l i 0 h, le-leb digit0 (get_or l i 0) p, le-leb (get_or l i 0) digit9 q)

  pub decimal_more : (n : ℕ) → digits_value n (drop i l) ≡ digits_value (10 * n + (get_or l i 0 - digit0)) (drop (i + 1) l)
  decimal_more n = rw (add-one i, drop-cons l i 0 h)

-- further digits do not lower a number
pub decimal_least : (n : ℕ) (l : List ℕ) → n ≤ digits_value n l
decimal_least n [] = omega arith
decimal_least n (b ∷ bs) = omega (arith, decimal_least (10 * n + (b - digit0)) bs)

-- the three outcomes of reading digits
pub value_other : (f : List ℕ) → digits f ≡ false → value_of f ≡ Broken
unfolding value_of
value_other f e = rw e

pub value_large : (f : List ℕ) → 2 ^ 32 ≤ digits_value 0 f → value_of f ≡ Broken
unfolding value_of
value_large f h = by_test (digits f) (λ t. rw (t, le-ltb (digits_value 0 f) (2 ^ 32) h)) (λ t. rw t)

pub value_small : (f : List ℕ) (n : ℕ) → digits f ≡ true → digits_value 0 f ≡ n → n < 2 ^ 32 → value_of f ≡ Value n
unfolding value_of
value_small f n t e h = rw (t, e, lt-ltb n (2 ^ 32) h)
