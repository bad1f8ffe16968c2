-- THE ANSWER TO `breaking`: the decimals of an accepted call are those of the whole numbers that keep order 3, the figure and each source's
-- two bounds in source order, and behind these stand the numbers as they were lent. Assumes nothing.
use Rattle.std.specs.Prelude.{◌≡◌, drop, get_or, Float, ℕ, zero, suc, ◌+◌, ◌*◌, ◌^◌, ◌≤◌, ◌<◌, List, [], ◌∷◌, ◌++◌}
use Rattle.std.proofs.Common.{sym, ◌∙◌, take-append-drop, drop-cons, append-nil, arith}
use Rattle.std.proofs.Math.Path.{refl, ap}
use Rattle.std.proofs.Math.ListN.{length, take}
use Rattle.std.proofs.Math.Seq.{take-add}
use Rattle.std.specs.Float.{nan}
use Rattle.enclosure.specs.Exact.{of_nat}
use Rattle.network.specs.Network.{Network}
use Rattle.printing.specs.Printed.{whole_of, decimal, next_text}
use Rattle.printing.specs.laws.WholePrinted.{whole_printed}
use Rattle.breaking.specs.Promise.{BreakingHolds}
use Rattle.reader.specs.File.{lf}
use Rattle.console.specs.Answers.{broken_head, numbers_text, broken_line}
use Rattle.console.specs.laws.Answers.{numbers_both}

-- the bounds of the first sources, a lower and an upper each
unfoldable pub bounds_text : (ℕ → ℕ) → (ℕ → ℕ) → ℕ → List ℕ
bounds_text lower upper zero = []
bounds_text lower upper (suc j) = bounds_text lower upper j ++ (next_text (lower j) ++ next_text (upper j))

two_whole : (a b : ℕ) → a ≤ 2 ^ 53 → b ≤ 2 ^ 53 → numbers_text (of_nat a ∷ of_nat b ∷ []) ≡ next_text a ++ next_text b
unfolding numbers_text
two_whole a b h k = rw (whole_printed a h, whole_printed b k, append-nil)

two_at : (table : List Float) (i : ℕ) → suc i < length table → take 2 (drop i table) ≡ get_or table i nan ∷ get_or table (i + 1) nan ∷ []
two_at table i h = let s : i + 1 ≡ suc i = omega arith in rw (s, drop-cons table i nan (omega arith), drop-cons table (suc i) nan h)

module _ (n : Network) (b delay : ℕ) (lent table : List Float) (figure : Float) (h : BreakingHolds n b delay lent table figure) (room : 2 * length n.sources ≤ length lent) where
  first_bounds : (k : ℕ) → k ≤ length n.sources → numbers_text (take (2 * k) table) ≡ bounds_text h.lower h.upper k
  unfolding numbers_text bounds_text
  first_bounds zero l = refl
  first_bounds (suc k) l =
      let m = h.numbers k (omega arith) in
      let t : 2 * suc k ≡ 2 * k + 2 = omega arith in
      let long : length table ≡ length lent = h.beyond.0 in
      let low = m.0 in
      let high = m.1 in
      let two : take 2 (drop (2 * k) table) ≡ of_nat (h.lower k) ∷ of_nat (h.upper k) ∷ [] = two_at table (2 * k) (omega arith) ∙ rw (low, high) in
      ap numbers_text (ap (λ (i : ℕ). take i table) t ∙ take-add (2 * k) 2 table)
      ∙ numbers_both (take (2 * k) table) (take 2 (drop (2 * k) table))
      ∙ rw (two, two_whole (h.lower k) (h.upper k) (omega arith) (omega arith), first_bounds k (omega arith))

  -- what `breaking` promises of an accepted call
  pub breaking_line_holds : broken_line 0 figure table
      ≡ (decimal 0 ++ next_text h.amperes) ++ (bounds_text h.lower h.upper (length n.sources) ++ numbers_text (drop (2 * length n.sources) lent)) ++ (lf ∷ [])
  unfolding broken_line broken_head
  breaking_line_holds =
      let m = 2 * length n.sources in
      let w = h.figure_whole in
      let number : whole_of figure ≡ h.amperes = ap whole_of w.0 ∙ whole_printed h.amperes (omega arith) in
      let all = ap numbers_text (sym (take-append-drop m table)) ∙ numbers_both (take m table) (drop m table) in
      rw (number, all, first_bounds (length n.sources) (omega arith), h.beyond.1)
