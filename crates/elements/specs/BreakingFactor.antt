-- Document 02, order 3: the factor μ of a generator, by the minimum delay of the breaker and the generator's q.
use Rattle.std.specs.Prelude.{ℕ, zero, suc, ◌+◌, ◌*◌, min, Bool, cond, ◌||◌, leb, ltb, eqb}
use Rattle.enclosure.specs.Fraction.{Fraction}
use Rattle.elements.specs.Factors.{t_over, t_under, ceiling}

-- "a minimum delay: 20, 50, 100 or 250 ms"
abbrev pub delay_ok : ℕ → Bool
delay_ok delay = eqb delay 20 || eqb delay 50 || eqb delay 100 || eqb delay 250

-- base + height·e^(−decay·q), each in hundredths
pub record Formula : Type 0 where
  pub base : ℕ
  pub height : ℕ
  pub decay : ℕ

abbrev pub formula : ℕ → ℕ → ℕ → Formula
formula base height decay = record { base = base; height = height; decay = decay }

-- "0.84 + 0.26·e^(−0.26q), 0.71 + 0.51·e^(−0.30q), 0.62 + 0.72·e^(−0.32q), 0.56 + 0.94·e^(−0.38q)".
-- The last for any other delay, which is refused
unfoldable pub formula_of : ℕ → Formula
formula_of delay =
    cond (eqb delay 20) (formula 84 26 26)
    (cond (eqb delay 50) (formula 71 51 30)
    (cond (eqb delay 100) (formula 62 72 32)
    (formula 56 94 38)))

-- "in thousandths rounded up", "at most 1", "e^(−y) meaning 1/T(y)": of q = i/10
abbrev pub formula_at : Formula → ℕ → ℕ
formula_at m i = min 1000 (10 * m.base + ceiling (10 * m.height * t_under 1000) (t_over (m.decay * i) 1000))

-- "μ comes from a table per delay", an entry for each tenth of q. Entry 20 is that of q above 2; those before it are 1 and no q reads them
unfoldable pub mu_of : ℕ → ℕ → ℕ
mu_of delay i = cond (ltb i 20) 1000 (formula_at (formula_of delay) i)

-- the greatest number up to k that passes a test, 0 where none does
abbrev pub greatest : (ℕ → Bool) → ℕ → ℕ
greatest test zero = 0
greatest test (suc k) = cond (test (suc k)) (suc k) (greatest test k)

-- "q in tenths rounded down, 100 and above as 100", by the square of q
unfoldable pub tenths_of : Fraction → ℕ
tenths_of q² = greatest (λ i. leb (i * i * q².under) (100 * q².top)) 100

-- μ in thousandths, by the square of q: "1 for q up to 2 before any rounding"
unfoldable pub mu_at : ℕ → Fraction → ℕ
mu_at delay q² = cond (leb q².top (4 * q².under)) 1000 (mu_of delay (tenths_of q²))
