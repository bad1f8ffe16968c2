-- The numbers of a row, collected field by field: what holds at each place where a field begins, and what that gives at the end.
use Rattle.std.specs.Prelude.{◌≡◌, true, false, List, [], ◌∷◌, ℕ, ◌+◌, ◌≤◌, ◌<◌, length, drop, set, replicate}
use Rattle.std.proofs.Common.{◌∙◌, arith, le-leb, length-set, length-drop}
use Rattle.std.proofs.Math.Dec.{leb-zero}
use Rattle.std.proofs.lemmas.Bool.{lt-leb}
use Rattle.std.proofs.lemmas.List.{length-replicate}
use Rattle.reader.specs.declared.Number.TheVariants.{Value, Broken}
use Rattle.reader.specs.File.{most_fields, fields, number_of}
use Rattle.reader.specs.Stretches.{at_comma, stretch}
use Rattle.reader.specs.laws.Stretches.{before_le, fields_from, from_step, length_stretch}
use Rattle.reader.specs.Collected.{counted, collect, collected}

pub record Progress (row values : List ℕ) (count at : ℕ) : Type 0 where
  pub place : at ≤ length row + 1
  pub few : count ≤ most_fields
  pub whole : length values ≡ most_fields
  pub left : collect (fields_from row at) count values ≡ collected (fields row)

pub begun : (row : List ℕ) → Progress row (replicate most_fields 0) 0 0
begun row = record { place = omega arith; few = omega arith; whole = length-replicate {A = ℕ} most_fields 0; left = rw (leb-zero (length row)) }

module _ {row values : List ℕ} {count at : ℕ} (p : Progress row values count at) where
  -- after the last field
  pub done : length row < at → counted true count values ≡ collected (fields row)
  done h = let none : fields_from row at ≡ [] = rw (lt-leb at (length row) h) in rw none at p.left

  -- at a field
  module _ (h : at ≤ length row) (part : List ℕ) (e : part ≡ stretch at_comma (drop at row)) where
    rest : fields_from row at ≡ part ∷ fields_from row (at + length part + 1)
    rest = rw (e, length_stretch at_comma (drop at row)) (from_step row at h)

    pub inside_row : at + length part ≤ length row
    inside_row = rw (e, length_stretch at_comma (drop at row)) (omega (arith, before_le at_comma (drop at row), length-drop at row))

    pub broken : number_of part ≡ Broken → counted false count values ≡ collected (fields row)
    broken n = rw (rest, n) at p.left

    pub full : (n : ℕ) → number_of part ≡ Value n → most_fields ≤ count → counted false count values ≡ collected (fields row)
    full n v k = rw (rest, v, le-leb most_fields count k) at p.left

    pub more : (n : ℕ) → number_of part ≡ Value n → count < most_fields → Progress row (set values count n) (count + 1) (at + length part + 1)
    more n v k = record {
      place = omega (arith, inside_row);
      few = omega arith;
      whole = length-set values count n ∙ p.whole;
      left = rw (rest, v, lt-leb most_fields count k) at p.left;
    }
