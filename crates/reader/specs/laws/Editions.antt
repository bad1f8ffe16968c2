-- A FILE AND TWO EDITIONS of the program: what the smaller accepts the larger reads as it does; what only the larger accepts, the smaller
-- refuses with 23 or 24 at the first row that it has no room for. Assumes nothing.
use Rattle.std.specs.Prelude.{ℕ, ◌+◌, ◌≤◌, ◌<◌, Bool, true, false, not, cond, ◌||◌, ltb, eqb, length, get_or, List, [], ◌∷◌, ◌++◌}
use Rattle.std.proofs.Common.{◌∙◌, ap₂, subst, arith, le_trans, length-append, ltb-true, ltb-false, lt-ltb, le-ltb, eqb-true, ne_eqb}
use Rattle.std.proofs.lemmas.Bool.{eqb-false}
use Rattle.std.proofs.Math.Path.{◌≡◌, refl, sym, ap}
use Rattle.network.specs.declared.study.Bus.{Bus}
use Rattle.network.specs.declared.study.Source.{Source}
use Rattle.network.specs.Network.{Network, Limits}
use Rattle.network.specs.Records.{in_range}
use Rattle.network.specs.Grounds.{first, bus_grounds, bus_number_in, after_bus_in, source_grounds, source_number_in, after_source_in, empty_network}
use Rattle.network.specs.laws.Tests.{by_test}
use Rattle.reader.specs.declared.Row.{Row}
use Rattle.reader.specs.declared.Row.TheVariants.{Start, WithBus, WithSource, Malformed}
use Rattle.reader.specs.File.{max_bytes, letter_s, letter_b, letter_p, rows, row_of, row_number_in, after_row_in, Outcome, refused_at, read_from_in, read_in}
use Rattle.reader.specs.laws.RowLetters.{Begins, row_begins}
use Rattle.reader.specs.Editions.{lettered, too_many_buses, too_many, surplus_after, full_after, first_surplus, met_at, OldEdition}

-- M has room for as many records as L at least
pub record Raised (L M : Limits) : Type 0 where
  pub buses : L.buses ≤ M.buses
  pub sources : L.sources ≤ M.sources

-- ---- one record, tried by two editions
-- a call is tried for its state, for room, and then for its record
in_turn : (state room : Bool) (number full shut : ℕ) → 0 < full → 0 < shut → cond state (cond room number full) shut ≡ 0
    → (state ≡ true) × ((room ≡ true) × (number ≡ 0))
in_turn true true x k l p q e = (refl, (refl, e))
in_turn true false x k l p q e = absurd (omega arith)
in_turn false r x k l p q e = absurd (omega arith)

bus_turn : (L : Limits) (n : Network) (b : Bus) → bus_number_in L n b ≡ 0
    → (not n.closed ≡ true) × ((ltb (length n.buses) L.buses ≡ true) × (first (bus_grounds (n.buses ++ (b ∷ [])) (length n.buses)) ≡ 0))
unfolding bus_number_in
bus_turn L n b e = in_turn (not n.closed) (ltb (length n.buses) L.buses) (first (bus_grounds (n.buses ++ (b ∷ [])) (length n.buses))) 23 21 (omega arith) (omega arith) e

source_turn : (L : Limits) (n : Network) (p : Source) → source_number_in L n p ≡ 0
    → (not n.closed ≡ true) × ((ltb (length n.sources) L.sources ≡ true) × (first (source_grounds n.buses (length n.sources) p) ≡ 0))
unfolding source_number_in
source_turn L n p e = in_turn (not n.closed) (ltb (length n.sources) L.sources) (first (source_grounds n.buses (length n.sources) p)) 24 21 (omega arith) (omega arith) e

bus_room : (L : Limits) (n : Network) (b : Bus) → bus_number_in L n b ≡ 0 → length n.buses < L.buses
bus_room L n b e = ltb-true (length n.buses) L.buses (bus_turn L n b e).1.0

source_room : (L : Limits) (n : Network) (p : Source) → source_number_in L n p ≡ 0 → length n.sources < L.sources
source_room L n p e = ltb-true (length n.sources) L.sources (source_turn L n p e).1.0

-- what M accepts
module _ (L M : Limits) (n : Network) where
  -- with room in L
  bus_also : (b : Bus) → bus_number_in M n b ≡ 0 → length n.buses < L.buses → bus_number_in L n b ≡ 0
  unfolding bus_number_in
  bus_also b e h = let t = bus_turn M n b e in rw (t.0, lt-ltb (length n.buses) L.buses h) t.1.1

  source_also : (p : Source) → source_number_in M n p ≡ 0 → length n.sources < L.sources → source_number_in L n p ≡ 0
  unfolding source_number_in
  source_also p e h = let t = source_turn M n p e in rw (t.0, lt-ltb (length n.sources) L.sources h) t.1.1

  -- without
  bus_full : (b : Bus) → bus_number_in M n b ≡ 0 → L.buses ≤ length n.buses → bus_number_in L n b ≡ 23
  unfolding bus_number_in
  bus_full b e h = rw ((bus_turn M n b e).0, le-ltb (length n.buses) L.buses h)

  source_full : (p : Source) → source_number_in M n p ≡ 0 → L.sources ≤ length n.sources → source_number_in L n p ≡ 24
  unfolding source_number_in
  source_full p e h = rw ((source_turn M n p e).0, le-ltb (length n.sources) L.sources h)

  -- both editions leave the same network where both accept
  row_after : (said : Row) → row_number_in L n said ≡ 0 → row_number_in M n said ≡ 0 → after_row_in M n said ≡ after_row_in L n said
  unfolding after_bus_in after_source_in
  row_after (Start t) e f = refl
  row_after (WithBus b) e f = rw (e, f)
  row_after (WithSource p) e f = rw (e, f)
  row_after Malformed e f = refl

-- a larger edition accepts what a smaller one accepts
row_raised : (L M : Limits) → Raised L M → (n : Network) (said : Row) → row_number_in L n said ≡ 0 → row_number_in M n said ≡ 0
row_raised L M h n (Start t) e = e
row_raised L M h n (WithBus b) e = bus_also M L n b e (le_trans (bus_room L n b e) h.buses)
row_raised L M h n (WithSource p) e = source_also M L n p e (le_trans (source_room L n p e) h.sources)
row_raised L M h n Malformed e = e

-- ---- reading row by row
module _ (L : Limits) (i : ℕ) (n : Network) (r : List ℕ) (rs : List (List ℕ)) (said : Row) (is : row_of (eqb i 0) r ≡ said) where
  -- what an accepted text shows of its first row
  row_taken : (read_from_in L i n (r ∷ rs)).number ≡ 0 → row_number_in L n said ≡ 0
  unfolding read_from_in
  row_taken e =
      by_test (eqb (row_number_in L n said) 0)
      (λ t. eqb-true (row_number_in L n said) 0 t)
      (λ t. rw (is, t) at e)

  go_on : row_number_in L n said ≡ 0 → read_from_in L i n (r ∷ rs) ≡ read_from_in L (i + 1) (after_row_in L n said) rs
  unfolding read_from_in
  go_on e = rw (is, e)

  stop : (k : ℕ) → row_number_in L n said ≡ k → (k ≡ 0 → ⊥) → read_from_in L i n (r ∷ rs) ≡ refused_at k (i + 1)
  unfolding read_from_in
  stop k e h = rw (is, e, ne_eqb k 0 h)

-- ---- A FILE THAT THE SMALLER EDITION ACCEPTS READS AS BEFORE
module _ (L M : Limits) (raised : Raised L M) where
  rows_as_before : (i : ℕ) (n : Network) (rs : List (List ℕ)) → (read_from_in L i n rs).number ≡ 0 → read_from_in M i n rs ≡ read_from_in L i n rs
  unfolding read_from_in
  rows_as_before i n [] e = refl
  rows_as_before i n (r ∷ rs) e =
      let said = row_of (eqb i 0) r in
      let a = row_taken L i n r rs said refl e in
      let b = row_raised L M raised n said a in
      let s = row_after L M n said a b in
      let g = go_on L i n r rs said refl a in
      let rest = rows_as_before (i + 1) (after_row_in L n said) rs (subst (λ (o : Outcome). o.number ≡ 0) g e) in
      go_on M i n r rs said refl b ∙ ap (λ (m : Network). read_from_in M (i + 1) m rs) s ∙ rest ∙ sym g

  as_before_law : (text : List ℕ) → (read_in L text).number ≡ 0 → read_in M text ≡ read_in L text
  unfolding read_in
  as_before_law text e =
      by_test (in_range (length text) 1 max_bytes)
      (λ t. rw t (rows_as_before 0 empty_network (rows text) (rw t at e)))
      (λ t. rw t)

-- ---- one row more
lettered_more : (letter : ℕ) (before : List (List ℕ)) (r : List ℕ) → lettered letter (before ++ (r ∷ [])) ≡ lettered letter before + cond (eqb (get_or r 0 0) letter) 1 0
lettered_more letter [] r = omega arith
lettered_more letter (s ∷ before) r = omega (arith, lettered_more letter before r)

lettered_most : (letter : ℕ) (before : List (List ℕ)) → lettered letter before ≤ length before
lettered_most letter [] = omega arith
lettered_most letter (s ∷ before) = go (eqb (get_or s 0 0) letter) (lettered_most letter before)
  where
    go : (t : Bool) → lettered letter before ≤ length before → cond t 1 0 + lettered letter before ≤ length (s ∷ before)
    go true h = omega arith
    go false h = omega arith

-- the rows so far, whose records the edition has room for
record Counted (L : Limits) (n : Network) (before : List (List ℕ)) : Type 0 where
  pub buses : lettered letter_b before ≡ length n.buses
  pub sources : lettered letter_p before ≡ length n.sources
  pub buses_fit : length n.buses ≤ L.buses
  pub sources_fit : length n.sources ≤ L.sources

module _ (L : Limits) (n : Network) where
  bus_after : (b : Bus) → bus_number_in L n b ≡ 0 → ((after_bus_in L n b).buses ≡ n.buses ++ (b ∷ [])) × ((after_bus_in L n b).sources ≡ n.sources)
  unfolding after_bus_in
  bus_after b e = rw e (refl, refl)

  source_after : (p : Source) → source_number_in L n p ≡ 0 → ((after_source_in L n p).buses ≡ n.buses) × ((after_source_in L n p).sources ≡ n.sources ++ (p ∷ []))
  unfolding after_source_in
  source_after p e = rw e (refl, refl)

  module _ (before : List (List ℕ)) (r : List ℕ) where
    start_counted : (t : ℕ) → length before ≡ 0 → get_or r 0 0 ≡ letter_s → Counted L (after_row_in L n (Start t)) (before ++ (r ∷ []))
    start_counted t z e = record {
      buses = lettered_more letter_b before r ∙ rw e (omega (arith, lettered_most letter_b before));
      sources = lettered_more letter_p before r ∙ rw e (omega (arith, lettered_most letter_p before));
      buses_fit = omega arith;
      sources_fit = omega arith;
    }

    module _ (c : Counted L n before) where
      bus_counted : (b : Bus) → bus_number_in L n b ≡ 0 → length n.buses < L.buses → get_or r 0 0 ≡ letter_b → Counted L (after_row_in L n (WithBus b)) (before ++ (r ∷ []))
      bus_counted b z l e =
          let s = bus_after b z in
          rw (s.0, s.1)
          (record {
            buses = lettered_more letter_b before r ∙ rw e (omega (arith, c.buses, length-append n.buses (b ∷ [])));
            sources = lettered_more letter_p before r ∙ rw e (omega (arith, c.sources));
            buses_fit = omega (arith, length-append n.buses (b ∷ []));
            sources_fit = c.sources_fit;
          })

      source_counted : (p : Source) → source_number_in L n p ≡ 0 → length n.sources < L.sources → get_or r 0 0 ≡ letter_p → Counted L (after_row_in L n (WithSource p)) (before ++ (r ∷ []))
      source_counted p z l e =
          let s = source_after p z in
          rw (s.0, s.1)
          (record {
            buses = lettered_more letter_b before r ∙ rw e (omega (arith, c.buses));
            sources = lettered_more letter_p before r ∙ rw e (omega (arith, c.sources, length-append n.sources (p ∷ [])));
            buses_fit = c.buses_fit;
            sources_fit = omega (arith, length-append n.sources (p ∷ []));
          })

      buses_over : L.buses ≤ length n.buses → get_or r 0 0 ≡ letter_b → too_many_buses L (before ++ (r ∷ [])) ≡ true
      buses_over l e = rw (lettered_more letter_b before r, e, lt-ltb L.buses (lettered letter_b before + 1) (omega (arith, c.buses)))

      -- a row of a source is none of the buses
      buses_not_over : get_or r 0 0 ≡ letter_p → too_many_buses L (before ++ (r ∷ [])) ≡ false
      buses_not_over e = rw (lettered_more letter_b before r, e) (le-ltb L.buses (lettered letter_b before + 0) (omega (arith, c.buses, c.buses_fit)))

      sources_over : L.sources ≤ length n.sources → get_or r 0 0 ≡ letter_p → too_many L (before ++ (r ∷ [])) ≡ true
      sources_over l e = or_true (ltb L.buses (lettered letter_b (before ++ (r ∷ [])))) (ltb L.sources (lettered letter_p (before ++ (r ∷ [])))) (rw (lettered_more letter_p before r, e) (lt-ltb L.sources (lettered letter_p before + 1) (omega (arith, c.sources))))
        where
          or_true : (a b : Bool) → b ≡ true → a || b ≡ true
          or_true true b h = refl
          or_true false b h = h

      none_over : too_many L before ≡ false
      none_over = rw (le-ltb L.buses (lettered letter_b before) (omega (arith, c.buses, c.buses_fit)), le-ltb L.sources (lettered letter_p before) (omega (arith, c.sources, c.sources_fit)))

-- before the first row
none_counted : (L : Limits) → Counted L empty_network []
none_counted L = record { buses = refl; sources = refl; buses_fit = omega arith; sources_fit = omega arith }

-- behind an accepted row
row_counted : (L : Limits) (i : ℕ) (n : Network) (before : List (List ℕ)) (r : List ℕ) → i ≡ length before → Counted L n before
    → (said : Row) → Begins (eqb i 0) r said → row_number_in L n said ≡ 0 → Counted L (after_row_in L n said) (before ++ (r ∷ []))
row_counted L i n before r at c (Start t) q e = start_counted L n before r t (omega (arith, eqb-true i 0 q.0)) q.1
row_counted L i n before r at c (WithBus b) q e = bus_counted L n before r c b e (bus_room L n b e) q.1
row_counted L i n before r at c (WithSource p) q e = source_counted L n before r c p e (source_room L n p e) q.1
row_counted L i n before r at c Malformed q e = absurd (omega arith)

-- ---- a file that an edition accepts has no surplus row for it
rows_enough : (L : Limits) (i : ℕ) (n : Network) (before rs : List (List ℕ)) → i ≡ length before → Counted L n before → (read_from_in L i n rs).number ≡ 0 → surplus_after L before rs ≡ 0
rows_enough L i n before [] at c e = refl
rows_enough L i n before (r ∷ rs) at c e =
    let said = row_of (eqb i 0) r in
    let a = row_taken L i n r rs said refl e in
    let more = row_counted L i n before r at c said (row_begins (eqb i 0) r) a in
    rw (none_over L (after_row_in L n said) (before ++ (r ∷ [])) r more)
    (rows_enough L (i + 1) (after_row_in L n said) (before ++ (r ∷ [])) rs (omega (arith, length-append before (r ∷ []))) more (subst (λ (o : Outcome). o.number ≡ 0) (go_on L i n r rs said refl a) e))

no_surplus : (L : Limits) (text : List ℕ) → (read_in L text).number ≡ 0 → first_surplus L text ≡ 0
unfolding read_in
no_surplus L text e =
    by_test (in_range (length text) 1 max_bytes)
    (λ t. rows_enough L 0 empty_network [] (rows text) refl (none_counted L) (rw t at e))
    (λ t. let z : ◌≡◌ {A = ℕ} 16 0 = rw t at e in absurd (omega arith))

-- ---- A LARGER FILE THAT ANOTHER EDITION ACCEPTS IS REFUSED AT ITS FIRST SURPLUS ROW
-- the rows behind others are met at the first that is too many
abbrev Met : Limits → ℕ → Network → List (List ℕ) → List (List ℕ) → Type 0
Met L i n before rs = (read_from_in L i n rs ≡ refused_at (full_after L before rs) (surplus_after L before rs)) × (0 < surplus_after L before rs)

-- a row, and the rows behind it
module _ (L M : Limits) (i : ℕ) (n : Network) (before : List (List ℕ)) (r : List ℕ) (rs : List (List ℕ)) (at : i ≡ length before) (c : Counted L n before)
    (a : (read_from_in M i n (r ∷ rs)).number ≡ 0) (h : (read_from_in L i n (r ∷ rs)).number ≡ 0 → ⊥)
    (rest : (m : Network) → Counted L m (before ++ (r ∷ [])) → (read_from_in M (i + 1) m rs).number ≡ 0 → ((read_from_in L (i + 1) m rs).number ≡ 0 → ⊥)
    → Met L (i + 1) m (before ++ (r ∷ [])) rs) where
  abbrev Here : Type 0
  Here = Met L i n before (r ∷ rs)

  module _ (said : Row) (is : row_of (eqb i 0) r ≡ said) (q : Begins (eqb i 0) r said) where
    both_accept : row_number_in L n said ≡ 0 → row_number_in M n said ≡ 0 → Here
    both_accept x y =
        let more = row_counted L i n before r at c said q x in
        let g = go_on L i n r rs said is x in
        let f = go_on M i n r rs said is y ∙ ap (λ (m : Network). read_from_in M (i + 1) m rs) (row_after L M n said x y) in
        rw (g, none_over L (after_row_in L n said) (before ++ (r ∷ [])) r more)
        (rest (after_row_in L n said) more (subst (λ (o : Outcome). o.number ≡ 0) f a) (λ z. h (subst (λ (o : Outcome). o.number ≡ 0) (sym g) z)))

    one_refuses : (k : ℕ) → row_number_in L n said ≡ k → (k ≡ 0 → ⊥) → too_many L (before ++ (r ∷ [])) ≡ true → k ≡ cond (too_many_buses L (before ++ (r ∷ []))) 23 24 → Here
    one_refuses k x z t w = rw (stop L i n r rs said is k x z, t) (ap₂ refused_at w (omega arith), omega arith)

  row_met : (said : Row) → row_of (eqb i 0) r ≡ said → Begins (eqb i 0) r said → Here
  row_met (Start t) is q = let y = row_taken M i n r rs (Start t) is a in both_accept (Start t) is q y y
  row_met (WithBus b) is q =
      let y = row_taken M i n r rs (WithBus b) is a in
      by_test (ltb (length n.buses) L.buses)
      (λ t. both_accept (WithBus b) is q (bus_also L M n b y (ltb-true _ _ t)) y)
      (λ t.
      let l = ltb-false (length n.buses) L.buses t in
      one_refuses (WithBus b) is q 23 (bus_full L M n b y l) (λ z. omega arith) (rw (buses_over L n before r c l q.1)) (rw (buses_over L n before r c l q.1)))
  row_met (WithSource p) is q =
      let y = row_taken M i n r rs (WithSource p) is a in
      by_test (ltb (length n.sources) L.sources)
      (λ t. both_accept (WithSource p) is q (source_also L M n p y (ltb-true _ _ t)) y)
      (λ t.
      let l = ltb-false (length n.sources) L.sources t in
      one_refuses (WithSource p) is q 24 (source_full L M n p y l) (λ z. omega arith) (sources_over L n before r c l q.1) (rw (buses_not_over L n before r c q.1)))
  row_met Malformed is q = let z : ◌≡◌ {A = ℕ} 16 0 = row_taken M i n r rs Malformed is a in absurd (omega arith)

module _ (L M : Limits) where
  end_met : (i : ℕ) (n : Network) → (read_from_in M i n []).number ≡ 0 → (read_from_in L i n []).number ≡ 0
  unfolding read_from_in
  end_met i n e = e

  rows_met : (i : ℕ) (n : Network) (before rs : List (List ℕ)) → i ≡ length before → Counted L n before → (read_from_in M i n rs).number ≡ 0 → ((read_from_in L i n rs).number ≡ 0 → ⊥)
      → Met L i n before rs
  rows_met i n before [] at c a h = absurd (h (end_met i n a))
  rows_met i n before (r ∷ rs) at c a h =
      row_met L M i n before r rs at c a h (λ m. rows_met (i + 1) m (before ++ (r ∷ [])) rs (omega (arith, length-append before (r ∷ [])))) (row_of (eqb i 0) r) refl (row_begins (eqb i 0) r)

  surplus : (text : List ℕ) → (read_in M text).number ≡ 0 → ((read_in L text).number ≡ 0 → ⊥) → (read_in L text ≡ met_at L text) × (0 < first_surplus L text)
  unfolding read_in
  surplus text a h =
      by_test (in_range (length text) 1 max_bytes)
      (λ t. rw t (rows_met 0 empty_network [] (rows text) refl (none_counted L) (rw t at a) (rw t at h)))
      (λ t. let z : ◌≡◌ {A = ℕ} 16 0 = rw t at a in absurd (omega arith))

-- THE OLD EDITION, of limits that the new one raises
pub old_edition : (L M : Limits) → Raised L M → (text : List ℕ) → OldEdition L text (read_in M text)
old_edition L M raised text = record {
  as_before = as_before_law L M raised text;
  larger = λ a h. (surplus L M text a (λ e. omega (arith, no_surplus L text e))).0;
  other = λ a z.
      by_test (eqb (read_in L text).number 0)
      (λ t. eqb-true (read_in L text).number 0 t)
      (λ t. absurd (omega (arith, (surplus L M text a (eqb-false (read_in L text).number 0 t)).1)));
}
