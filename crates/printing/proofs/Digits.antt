-- The digits that `io::decimal` gives are those of `decimal`.
use Rattle.std.proofs.Common.{◌≡◌, ℕ, zero, suc, ◌+◌, ◌-◌, ◌*◌, ◌/◌, ◌%◌, ◌^◌, ◌<◌, ◌≤◌, leb, List, [], ◌∷◌, ◌++◌, ap, mod-lt, mod-eq_of_lt, div-lt_iff_lt-mul, pow-suc, le-div_iff_mul-le, arith, le-ltb, lt-ltb, leb-false, leb-true}
use Rattle.std.proofs.Math.Nat.{one-le-pow, pow-le-pow_right}
use Rattle.network.specs.laws.Tests.{by_test}
use Rattle.io.specs.Digits.{last_digits, hex_digit_ascii, IsDigitCount}
use Rattle.printing.specs.Printed.{digits_of, decimal}

glyph_digit : (n : ℕ) → hex_digit_ascii (n % 10) ≡ 48 + n % 10
glyph_digit n = rw (lt-ltb (n % 10) 10 (mod-lt n (omega arith)))

module _ (n k : ℕ) (f : IsDigitCount 10 1 n (suc (suc k))) where
  least : 10 ^ k * 10 ≤ n
  least =
      let one_less : suc (suc k) - 1 ≡ suc k = omega arith in
      rw (one_less, pow-suc 10 k) at (f.2 (omega arith))

  -- a number without its last digit takes one digit less
  fewer : IsDigitCount 10 1 (n / 10) (suc k)
  fewer =
      let one_less : suc k - 1 ≡ k = omega arith in (
        omega arith,
        (div-lt_iff_lt-mul {k = 10} {x = n} {y = 10 ^ suc k} (omega arith)).1 (rw (pow-suc 10 (suc k)) at f.1),
        λ h. rw one_less ((le-div_iff_mul-le {k = 10} {x = 10 ^ k} {y = n} (omega arith)).1 least),
      )

same : (most k n : ℕ) → k ≤ most → IsDigitCount 10 1 n k → last_digits 10 k n ≡ digits_of most n
same most zero n h f = absurd (omega (arith, f.0))
same zero (suc k) n h f = absurd (omega arith)
same (suc most) (suc zero) n h f = rw (lt-ltb n 10 f.1, glyph_digit n, mod-eq_of_lt {n = n} {m = 10} f.1)
same (suc most) (suc (suc k)) n h f =
    let ten : 10 ≤ n = omega (arith, least n k f, one-le-pow k 10 (omega arith)) in
    rw (le-ltb n 10 ten, glyph_digit n) (ap (λ (l : List ℕ). l ++ ((48 + n % 10) ∷ [])) (same most (suc k) (n / 10) (omega arith) (fewer n k f)))

-- a number below 10^20 has at most twenty digits
twenty : (k n : ℕ) → n < 10 ^ 20 → IsDigitCount 10 1 n k → k ≤ 20
twenty k n h f =
    by_test (leb k 20) (λ t. leb-true k 20 t)
    (λ t.
    let more = leb-false k 20 t in
    absurd (omega (arith, f.2 (omega arith), pow-le-pow_right {n = 10} (omega arith) {i = 20} {j = k - 1} (omega arith))))

pub decimal_digits : (k n : ℕ) → n < 2 ^ 64 → IsDigitCount 10 1 n k → last_digits 10 k n ≡ decimal n
unfolding decimal
decimal_digits k n h f = same 20 k n (twenty k n (omega arith) f) f
