-- How long what is printed can be, and worked numbers. Assumes nothing.
use Rattle.std.specs.Prelude.{◌≡◌, ℕ, zero, suc, ◌+◌, ◌/◌, ◌%◌, ◌≤◌, List, [], ◌∷◌, ◌++◌, length, nat_lt, refl}
use Rattle.std.proofs.Common.{arith, length-append}
use Rattle.network.specs.declared.query.Amperes.{Amperes}
use Rattle.network.specs.declared.query.Verdict.{Verdict}
use Rattle.network.specs.Network.{Network, bus_at}
use Rattle.network.specs.Demand.{Figures, judged}
use Rattle.network.specs.laws.Tests.{by_test}
use Rattle.printing.specs.Printed.{decimal, next_text, digits_of, amperes_text, whole_of, letter_text}

-- the verdict's excess or margin as a whole number, 0 where it is close; and at bus b of a network (`amount_printed` in WholePrinted)
abbrev pub amount_on : Figures → ℕ → ℕ → ℕ
amount_on = judged (λ excess. excess) (λ margin. margin) 0

abbrev pub amount_at : Network → ℕ → Figures → ℕ
amount_at n b f = amount_on f (bus_at n.buses b).rating (bus_at n.buses b).peak_rating

-- 0 and 7,698
worked : (decimal 0 ≡ 48 ∷ []) × (decimal 7698 ≡ 55 ∷ 54 ∷ 57 ∷ 56 ∷ [])
unfolding decimal
worked = (refl, refl)

-- six whole numbers in their place: what the amperes are printed as where they are these numbers (`amperes_printed` in WholePrinted)
unfoldable pub figures_text : Figures → List ℕ
figures_text f =
    next_text f.lower
    ++ next_text f.upper
    ++ next_text f.converters_lower
    ++ next_text f.converters_upper
    ++ next_text f.peak
    ++ next_text f.converters_peak

-- ---- lengths, so that a row is seen to fit a line
digits_length : (k n : ℕ) → length (digits_of k n) ≤ k
digits_length zero n = omega arith
digits_length (suc k) n =
    by_test (nat_lt n 10)
    (λ t. rw t (omega arith))
    (λ t. rw t (omega (arith, length-append (digits_of k (n / 10)) ((48 + n % 10) ∷ []), digits_length k (n / 10))))

pub decimal_length : (n : ℕ) → length (decimal n) ≤ 20
unfolding decimal
decimal_length n = digits_length 20 n

pub next_length : (n : ℕ) → length (next_text n) ≤ 21
unfolding next_text
next_length n = omega (arith, decimal_length n)

pub amperes_length : (a : Amperes) → length (amperes_text a) ≤ 126
unfolding amperes_text
amperes_length a =
    simp length-append
    (omega (
      arith,
      next_length (whole_of a.lower.0),
      next_length (whole_of a.upper.0),
      next_length (whole_of a.converters_lower.0),
      next_length (whole_of a.converters_upper.0),
      next_length (whole_of a.peak.0),
      next_length (whole_of a.converters_peak.0),
    ))

pub letter_length : (v : Verdict) → length (letter_text v) ≡ 2
unfolding letter_text
letter_length v = refl
