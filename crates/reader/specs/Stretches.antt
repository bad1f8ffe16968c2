-- The stretch of bytes up to a place that a test finds: a row up to its CRLF, a field up to its comma. What comes after it.
use Rattle.std.specs.Prelude.{Bool, false, cond, ◌&&◌, List, [], ◌∷◌, ℕ, suc, eqb, take}
use Rattle.reader.specs.File.{cr, lf, comma}

-- whether the bytes begin with CRLF, and whether with a comma
abbrev pub at_crlf : List ℕ → Bool
at_crlf [] = false
at_crlf (b ∷ []) = false
at_crlf (b ∷ c ∷ bs) = eqb b cr && eqb c lf

abbrev pub at_comma : List ℕ → Bool
at_comma [] = false
at_comma (b ∷ bs) = eqb b comma

-- how many bytes stand before the first place that the test finds
abbrev pub before : (List ℕ → Bool) → List ℕ → ℕ
before stop [] = 0
before stop (b ∷ bs) = cond (stop (b ∷ bs)) 0 (suc (before stop bs))

-- those bytes
abbrev pub stretch : (List ℕ → Bool) → List ℕ → List ℕ
stretch stop l = take (before stop l) l
