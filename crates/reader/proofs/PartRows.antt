-- A part of the rows behind the first: its rows as additions, one more of them, and what additions and the rows behind them come to.
use Rattle.std.specs.Prelude.{◌≡◌, refl, false, cond, List, [], ◌∷◌, ◌++◌, ℕ, ◌+◌, ◌-◌, ◌<◌, eqb, length, take, drop}
use Rattle.std.proofs.Common.{sym, ◌∙◌, ap, subst, arith, ne_eqb}
use Rattle.network.specs.declared.additions.Entry.{Entry}
use Rattle.network.specs.Network.{Network}
use Rattle.network.specs.Additions.{addition_number, after_addition, AddedNetwork, added_from}
use Rattle.network.specs.laws.Tests.{by_test, never}
use Rattle.reader.specs.declared.Row.{Row}
use Rattle.reader.specs.declared.Row.TheVariants.{Start, WithBus, WithSource, Malformed}
use Rattle.reader.specs.declared.parts.RowEntry.{RowEntry}
use Rattle.reader.specs.declared.parts.RowEntry.TheVariants.{Record, Nothing}
use Rattle.reader.specs.File.{rows, row_of, row_number, after_row, Outcome, refused_at, read_from_in, read_from}
use Rattle.reader.specs.Stretches.{at_crlf, before}
use Rattle.reader.specs.Parts.{entry_of, Following, added_then}
use Rattle.reader.specs.laws.RowLetters.{Begins, row_begins}
use Rattle.reader.proofs.Taking.{next}

-- ---- a row behind the first: it adds a record, or it breaks the form
abbrev row_then : Following → ℕ → Network → RowEntry → Outcome
row_then follow i n (Record a) = added_then follow i n (a ∷ [])
row_then follow i n Nothing = refused_at 16 (i + 1)

module _ (text : List ℕ) (at end : ℕ) (h : at < length text) (e : end ≡ at + before at_crlf (drop at text)) where
  abbrev Behind : Following
  Behind i n = read_from i n (rows (drop (end + 2) text))

  said_then : (said : Row) → Begins false (take (end - at) (drop at text)) said → (i : ℕ) (n : Network)
      → cond (eqb (row_number n said) 0) (read_from (i + 1) (after_row n said) (rows (drop (end + 2) text))) (refused_at (row_number n said) (i + 1)) ≡ row_then Behind i n (entry_of said)
  said_then (Start t) b i n = never b.0
  said_then (WithBus x) b i n = refl
  said_then (WithSource x) b i n = refl
  said_then Malformed b i n = refl

  row_then_law : (said : Row) → said ≡ row_of false (take (end - at) (drop at text)) → (i : ℕ) (n : Network) → 0 < i → read_from i n (rows (drop at text)) ≡ row_then Behind i n (entry_of said)
  unfolding read_from_in
  row_then_law said s i n p =
      rw (next text at end h e, ne_eqb i 0 (λ z. omega (arith, z)), ← s)
      (said_then said (subst (Begins false (take (end - at) (drop at text))) (sym s) (row_begins false (take (end - at) (drop at text)))) i n)

  module _ (said : Row) (s : said ≡ row_of false (take (end - at) (drop at text))) where
    pub row_adds : (a : Entry) → entry_of said ≡ Record a → (i : ℕ) (n : Network) → 0 < i → read_from i n (rows (drop at text)) ≡ added_then Behind i n (a ∷ [])
    row_adds a q i n p = row_then_law said s i n p ∙ ap (row_then Behind i n) q

    pub row_malformed : entry_of said ≡ Nothing → (i : ℕ) (n : Network) → 0 < i → read_from i n (rows (drop at text)) ≡ refused_at 16 (i + 1)
    row_malformed q i n p = row_then_law said s i n p ∙ ap (row_then Behind i n) q

-- ---- additions and what follows them, by what the additions come to
abbrev followed : Following → ℕ → AddedNetwork → Outcome
followed follow i a = cond (eqb a.number 0) (follow (i + a.accepted) a.network) (refused_at a.number (i + a.accepted + 1))

module _ (follow : Following) where
  -- one more at the end
  pub then_more : (i : ℕ) (n : Network) (es : List Entry) (e : Entry) → added_then (λ j m. added_then follow j m (e ∷ [])) i n es ≡ added_then follow i n (es ++ (e ∷ []))
  then_more i n [] e = refl
  then_more i n (a ∷ es) e = ap (λ (o : Outcome). cond (eqb (addition_number n a.addition) 0) o (refused_at (addition_number n a.addition) (i + 1))) (then_more (i + 1) (after_addition n a.addition) es e)

  -- what follows them said otherwise
  pub then_same : (other : Following) → ((i : ℕ) (n : Network) → 0 < i → follow i n ≡ other i n) → (i : ℕ) (n : Network) (es : List Entry) → 0 < i → added_then follow i n es ≡ added_then other i n es
  then_same other h i n [] p = h i n p
  then_same other h i n (a ∷ es) p =
      ap (λ (o : Outcome). cond (eqb (addition_number n a.addition) 0) o (refused_at (addition_number n a.addition) (i + 1))) (then_same other h (i + 1) (after_addition n a.addition) es (omega arith))

  -- by what they come to
  pub then_followed : (i j : ℕ) (n : Network) (es : List Entry) → added_then follow (i + j) n es ≡ followed follow i (added_from j n es)
  unfolding added_from
  then_followed i j n [] = refl
  then_followed i j n (a ∷ es) =
      by_test (eqb (addition_number n a.addition) 0)
      (λ t. let k : i + j + 1 ≡ i + (j + 1) = omega arith in rw (t, k) (then_followed i (j + 1) (after_addition n a.addition) es))
      (λ t. rw (t, t))

  -- and by the answer of a call that adds them: one is refused, or all are accepted
  module _ (i : ℕ) (n : Network) (es : List Entry) (a : AddedNetwork) (e : a ≡ added_from 0 n es) where
    come_to : added_then follow i n es ≡ followed follow i a
    come_to = let none : i + 0 ≡ i = omega arith in rw e (rw none at (then_followed i 0 n es))

    pub additions_refused : (a.number ≡ 0 → ⊥) → added_then follow i n es ≡ refused_at a.number (i + a.accepted + 1)
    additions_refused h = come_to ∙ rw (ne_eqb a.number 0 h)

    pub additions_accepted : a.number ≡ 0 → added_then follow i n es ≡ follow (i + a.accepted) a.network
    additions_accepted z = come_to ∙ rw z
