-- The number of the call by that of a query, as the code finds it. Assumes nothing.
use Rattle.std.specs.Prelude.{ℕ, ◌*◌, ◌≤◌, ◌≡◌, refl, Bool, true, false, cond, [], ◌∷◌, leb, ltb, eqb, length}
use Rattle.std.proofs.Common.{arith, ltb-true, ltb-false, le-leb, eqb-true}
use Rattle.std.proofs.lemmas.Bool.{lt-leb, eqb-false}
use Rattle.elements.specs.BreakingFactor.{delay_ok}
use Rattle.network.specs.Network.{Network}
use Rattle.network.specs.Grounds.{on, first}
use Rattle.network.specs.Query.{query_number}
use Rattle.breaking.specs.Breaking.{breaking_number}
use Rattle.breaking.specs.Doubles.{number_after}

-- the test of the room, from either side
room_test : (m room : ℕ) → leb m room ≡ cond (ltb room m) false true
room_test m room = go (ltb room m) refl
  where
    go : (t : Bool) → ltb room m ≡ t → leb m room ≡ cond t false true
    go true e = lt-leb m room (omega (arith, ltb-true room m e))
    go false e = le-leb m room (omega (arith, ltb-false room m e))

in_order : (a b c t : Bool)
    → cond (eqb (first (on a 22 ∷ on b 15 ∷ [])) 0) (cond c (cond t 30 0) 31) (first (on a 22 ∷ on b 15 ∷ []))
    ≡ first (on a 22 ∷ on b 15 ∷ on c 31 ∷ on (cond t false true) 30 ∷ [])
in_order false b c t = refl
in_order true false c t = refl
in_order true true false t = refl
in_order true true true true = refl
in_order true true true false = refl

-- THE NUMBER: "22, 15, 31, 30"
pub number_in_order : (n : Network) (b delay room : ℕ) → number_after (query_number n b) delay (length n.sources) room ≡ breaking_number n b delay room
unfolding number_after query_number breaking_number
number_in_order n b delay room =
    rw (room_test (2 * length n.sources) room) (in_order n.closed (ltb b (length n.buses)) (delay_ok delay) (ltb room (2 * length n.sources)))

-- where it is 0, the query is accepted and there is room
pub accepted_room : (found delay total room : ℕ) → number_after found delay total room ≡ 0 → (found ≡ 0) × (2 * total ≤ room)
unfolding number_after
accepted_room found delay total room = go (eqb found 0) (delay_ok delay) (ltb room (2 * total)) refl refl
  where
    go : (s t u : Bool) → eqb found 0 ≡ s → ltb room (2 * total) ≡ u → cond s (cond t (cond u 30 0) 31) found ≡ 0 → (found ≡ 0) × (2 * total ≤ room)
    go true true true e f h = absurd (omega arith)
    go true true false e f h = (eqb-true found 0 e, ltb-false room (2 * total) f)
    go true false u e f h = absurd (omega arith)
    go false t u e f h = absurd (eqb-false found 0 e h)
