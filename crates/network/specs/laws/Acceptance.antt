-- Laws of the grounds: what an accepted call has passed, and that the number of a record does not depend on later records.
use Rattle.std.specs.Prelude.{◌≡◌, Bool, true, false, cond, ◌&&◌, List, [], ◌∷◌, ◌++◌, ℕ, ◌≤◌, ◌<◌, ltb, eqb, length}
use Rattle.std.proofs.Math.Path.{refl}
use Rattle.std.proofs.Common.{sym, ◌∙◌, arith, ltb-true, eqb-true, lt-ltb, eq-eqb, ne_eqb}
use Rattle.std.proofs.lemmas.Bool.{eqb-false, not-true}
use Rattle.network.specs.declared.study.Bus.{Bus}
use Rattle.network.specs.declared.study.Source.{Source}
use Rattle.network.specs.Network.{Network, bus_at, any_branch, if_transformer}
use Rattle.tree.specs.Limits.{max_buses, max_sources}
use Rattle.network.specs.Grounds.{Ground, first, parent_ok, depth_ok, bus_record_number, add_bus_grounds, bus_number_in, bus_number, source_record_number, add_source_grounds, source_number_in, source_number, place_ok, withdraw_grounds, withdraw_number, after_withdraw, replace_grounds, replace_number, after_replace, close_grounds, close_number}
use Rattle.network.specs.laws.Tests.{by_test, both_true, at_zero_law, past_zero}
use Rattle.network.specs.laws.Ways.{Same, way_same}

-- ---- a list of grounds whose numbers are not 0 gives 0 only where every test is passed; a law asks for a test by its number, so that a
-- ground more changes no law but its own
abbrev pub numbered : List Ground → Bool
numbered [] = true
numbered (g ∷ gs) = ltb 0 g.number && numbered gs

-- the test that is listed with the number k; where there is none, nothing has to be passed
abbrev pub test_of : List Ground → ℕ → Bool
test_of [] k = true
test_of (g ∷ gs) k = cond (eqb g.number k) g.ok (test_of gs k)

pub ground : (gs : List Ground) (k : ℕ) → numbered gs ≡ true → first gs ≡ 0 → test_of gs k ≡ true
ground [] k n e = refl
ground (g ∷ gs) k n e =
    let h = both_true (ltb 0 g.number) (numbered gs) n in
    by_test g.ok
    (λ t. by_test (eqb g.number k) (λ u. rw u t) (λ u. rw u (ground gs k h.1 (rw t at e))))
    (λ t. absurd (omega (arith, ltb-true 0 g.number h.0, rw t at e)))

-- ---- buses
-- an accepted parent is at most the bus itself
pub parent_le : (i : ℕ) (b : Bus) → parent_ok i b ≡ true → b.parent ≤ i
parent_le i b e =
    by_test (eqb i 0)
    (λ t. omega (arith, eqb-true b.parent 0 (at_zero_law i (eqb b.parent 0) (ltb b.parent i) e (eqb-true i 0 t))))
    (λ t. omega (arith, ltb-true b.parent i (past_zero i (eqb b.parent 0) (ltb b.parent i) e (omega (arith, eqb-false i 0 t)))))

depth_ok_same : (l m : List Bus) (i : ℕ) → Same l m i → depth_ok l i ≡ depth_ok m i
unfolding depth_ok
depth_ok_same l m i s = rw (way_same any_branch l m i s, way_same if_transformer l m i s)

-- the number of a record goes by the records up to its own
pub bus_record_same : (l m : List Bus) (i : ℕ) → Same l m i → bus_record_number l i ≡ bus_record_number m i
unfolding bus_record_number
bus_record_same l m i s =
    by_test (parent_ok i (bus_at m i))
    (λ t. rw (s i (omega arith), s (bus_at m i).parent (parent_le i (bus_at m i) t), depth_ok_same l m i s))
    (λ t. rw (s i (omega arith), t))

-- an open network with room tries the record as its next bus
pub bus_number_open : (n : Network) (b : Bus) → n.closed ≡ false → length n.buses < max_buses → bus_number n b ≡ bus_record_number (n.buses ++ (b ∷ [])) (length n.buses)
unfolding bus_number_in bus_record_number
bus_number_open n b o h = rw (o, lt-ltb (length n.buses) max_buses h)

-- an accepted record found the network open and with room
bus_open : (n : Network) (b : Bus) → bus_number n b ≡ 0 → n.closed ≡ false
unfolding bus_number_in
bus_open n b e = not-true n.closed (ground (add_bus_grounds n b) 21 refl e)

pub bus_room : (n : Network) (b : Bus) → bus_number n b ≡ 0 → length n.buses < max_buses
unfolding bus_number_in
bus_room n b e = ltb-true (length n.buses) max_buses (ground (add_bus_grounds n b) 23 refl e)

-- and passes the grounds in the input as the next bus
pub bus_accepted : (n : Network) (b : Bus) → bus_number n b ≡ 0 → bus_record_number (n.buses ++ (b ∷ [])) (length n.buses) ≡ 0
bus_accepted n b e = sym (bus_number_open n b (bus_open n b e) (bus_room n b e)) ∙ e

-- ---- sources
pub source_number_open : (n : Network) (p : Source) → n.closed ≡ false → length n.sources < max_sources → source_number n p ≡ source_record_number n.buses (length n.sources) p
unfolding source_number_in source_record_number
source_number_open n p o h = rw (o, lt-ltb (length n.sources) max_sources h)

source_open : (n : Network) (p : Source) → source_number n p ≡ 0 → n.closed ≡ false
unfolding source_number_in
source_open n p e = not-true n.closed (ground (add_source_grounds n p) 21 refl e)

pub source_room : (n : Network) (p : Source) → source_number n p ≡ 0 → length n.sources < max_sources
unfolding source_number_in
source_room n p e = ltb-true (length n.sources) max_sources (ground (add_source_grounds n p) 24 refl e)

pub source_accepted : (n : Network) (p : Source) → source_number n p ≡ 0 → source_record_number n.buses (length n.sources) p ≡ 0
source_accepted n p e = sym (source_number_open n p (source_open n p e) (source_room n p e)) ∙ e

-- ---- withdrawing and replacing
-- a place that holds a source and is not the first
module _ (n : Network) (j : ℕ) where
  pub ok_place : place_ok n j ≡ true → (0 < j) × (j < length n.sources)
  ok_place e =
      let h = both_true (ltb 0 j) (ltb j (length n.sources)) e in
      (ltb-true 0 j h.0, ltb-true j (length n.sources) h.1)

  pub withdraw_none : place_ok n j ≡ false → (34 ≡ withdraw_number n j) × (n ≡ after_withdraw n j)
  unfolding withdraw_number after_withdraw
  withdraw_none e = (rw e, rw e)

  pub withdraw_there : place_ok n j ≡ true → 0 ≡ withdraw_number n j
  unfolding withdraw_number
  withdraw_there e = rw e

  pub withdraw_behind : withdraw_number n j ≡ 0 → 0 < j
  unfolding withdraw_number
  withdraw_behind e = (ok_place (ground (withdraw_grounds n j) 34 refl e)).0

  module _ (p : Source) where
    pub replace_none : place_ok n j ≡ false → (34 ≡ replace_number n j p) × (n ≡ after_replace n j p)
    unfolding replace_number after_replace
    replace_none e = (rw e, rw e)

    -- the record is tried at the place
    pub replace_number_there : place_ok n j ≡ true → replace_number n j p ≡ source_record_number n.buses j p
    unfolding replace_number source_record_number
    replace_number_there e = rw e

    pub replace_there : replace_number n j p ≡ 0 → place_ok n j ≡ true
    unfolding replace_number
    replace_there e = ground (replace_grounds n j p) 34 refl e

    pub replace_behind : replace_number n j p ≡ 0 → 0 < j
    replace_behind e = (ok_place (replace_there e)).0

    pub replace_accepted : replace_number n j p ≡ 0 → source_record_number n.buses j p ≡ 0
    replace_accepted e = sym (replace_number_there (replace_there e)) ∙ e

-- ---- closing
pub close_fed : (n : Network) → close_number n ≡ 0 → 0 < length n.sources
unfolding close_number
close_fed n e = ltb-true 0 (length n.sources) (ground (close_grounds n) 25 refl e)

-- ---- the network after a call: as it was where the number is not 0
pub refused : {A : Type 0} (k : ℕ) (x y : A) → (k ≡ 0 → ⊥) → cond (eqb k 0) x y ≡ y
refused k x y h = rw (ne_eqb k 0 h)

pub granted : {A : Type 0} (k : ℕ) (x y : A) → k ≡ 0 → cond (eqb k 0) x y ≡ x
granted k x y h = rw (eq-eqb k 0 h)
