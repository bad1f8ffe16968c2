-- What is printed of numbers, amperes and verdicts. The sentences are those of document 01, "The file": "prints per bus, from 0 up:
-- its number, the six amperes as plain decimal integers, W, O or C (within, over, close), comma separated, CRLF".
use Rattle.std.specs.Prelude.{ℕ, zero, suc, ◌+◌, ◌/◌, ◌%◌, true, false, cond, List, [], ◌∷◌, ◌++◌, pos, nat_lt, Float}
use Rattle.std.specs.Float.{fin}
use Rattle.std.specs.Float.Ieee.{lt, to_unsigned}
use Rattle.network.specs.declared.query.Amperes.{Amperes}
use Rattle.network.specs.declared.query.Verdict.{Verdict}
use Rattle.network.specs.declared.query.Verdict.TheVariants.{Within, Over, Close}
use Rattle.network.specs.Demand.{letter_of}

-- "the six amperes as plain decimal integers": x without its fraction, 0 where that is no number of 64 bits
abbrev pub whole_of : Float → ℕ
whole_of x = cond (lt (fin true 1 (pos 0)) x) (cond (lt x (fin false 1 (pos 64))) (to_unsigned 64 x) 0) 0

-- a verdict's own amperes, margin or excess, 0 for close
abbrev pub amount_of : Verdict → Float
amount_of (Within x) = x
amount_of (Over x) = x
amount_of Close = fin false 0 (pos 0)

-- ---- text, as a list of bytes
-- the digits of a number of at most k digits, the first of them not 0 unless it is the only one
abbrev pub digits_of : ℕ → ℕ → List ℕ
digits_of zero n = []
digits_of (suc k) n = cond (nat_lt n 10) ((48 + n) ∷ []) (digits_of k (n / 10) ++ ((48 + n % 10) ∷ []))

-- "plain decimal integers"; a number of 64 bits has at most twenty digits
unfoldable pub decimal : ℕ → List ℕ
decimal n = digits_of 20 n

abbrev pub separator : ℕ
separator = 44

-- "comma separated": a number that follows others
unfoldable pub next_text : ℕ → List ℕ
next_text n = separator ∷ decimal n

-- "the six amperes"
unfoldable pub amperes_text : Amperes → List ℕ
amperes_text a =
    next_text (whole_of a.lower.0)
    ++ next_text (whole_of a.upper.0)
    ++ next_text (whole_of a.converters_lower.0)
    ++ next_text (whole_of a.converters_upper.0)
    ++ next_text (whole_of a.peak.0)
    ++ next_text (whole_of a.converters_peak.0)

-- "W, O or C"
unfoldable pub letter_text : Verdict → List ℕ
letter_text v = separator ∷ letter_of v ∷ []
