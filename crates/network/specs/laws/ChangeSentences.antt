-- Document 02, order 8, sentence by sentence, as theorems about the definitions of Grounds and PlainList; and a list of calls worked out.
-- Assumes nothing.
use Rattle.std.specs.Prelude.{◌≡◌, refl, Bool, true, false, List, [], ◌∷◌, map, ℕ, zero, suc, ◌+◌, ◌≤◌, ◌<◌, eqb, length, get_or}
use Rattle.std.proofs.Common.{sym, ◌∙◌, arith, get_or-set_same}
use Rattle.std.proofs.Math.Seq.{get_or-set_other}
use Rattle.tree.specs.Limits.{max_sources}
use Rattle.network.specs.declared.study.Source.{Source}
use Rattle.network.specs.Records.{branch_ok}
use Rattle.network.specs.SourceKinds.{ranges_ok, fields_ok}
use Rattle.network.specs.Network.{Network, removed, without_source, with_source_at, closed_as, blank_source, source_at, along}
use Rattle.network.specs.Grounds.{start_network, depth_ok, bus_record_number, bus_number_in, after_bus_in, source_record_number, source_number_in, source_number, after_source_in, place_ok, withdraw_number, after_withdraw, replace_number, after_replace, close_number, after_close, reopen_number, after_reopen, Call, empty_network, run}
use Rattle.network.specs.Grounds.Call.{starting, adding_bus, adding_source, withdrawing, replacing, closing, reopening}
use Rattle.network.specs.PlainList.{Answered, answered_from, plain_from}
use Rattle.network.specs.laws.Tests.{by_test}
use Rattle.network.specs.laws.Acceptance.{granted, ok_place, source_number_open, withdraw_there, replace_number_there, replace_there}
use Rattle.network.specs.laws.Rebuilt.{source_record_past, run_rebuilt}
use Rattle.network.specs.laws.PlainList.{plain_from_law}
use Rattle.network.specs.laws.Worked.{first, second, infeed, machine, solar}

-- ---- a list without the element at a place
removed_before : {X : Type 0} (l : List X) (j i : ℕ) (d : X) → i < j → get_or (removed j l) i d ≡ get_or l i d
removed_before [] j i d h = refl
removed_before (x ∷ l) zero i d h = absurd (omega arith)
removed_before (x ∷ l) (suc j) zero d h = refl
removed_before (x ∷ l) (suc j) (suc i) d h = removed_before l j i d (omega arith)

removed_past : {X : Type 0} (l : List X) (j i : ℕ) (d : X) → j ≤ i → get_or (removed j l) i d ≡ get_or l (suc i) d
removed_past [] j i d h = refl
removed_past (x ∷ l) zero i d h = refl
removed_past (x ∷ l) (suc j) zero d h = absurd (omega arith)
removed_past (x ∷ l) (suc j) (suc i) d h = removed_past l j i d (omega arith)

one_fewer : {X : Type 0} (l : List X) (j : ℕ) → j < length l → length (removed j l) + 1 ≡ length l
one_fewer [] j h = absurd (omega arith)
one_fewer (x ∷ l) zero h = omega arith
one_fewer (x ∷ l) (suc j) h = omega (arith, one_fewer l j (omega arith))

module _ (n : Network) (j : ℕ) where
  -- "A source can be withdrawn by its place, whereupon later sources move up one place in order": those before it stay
  pub later_move_up : withdraw_number n j ≡ 0 → (i : ℕ) → (i < j → source_at (after_withdraw n j).sources i ≡ source_at n.sources i) × (j ≤ i → source_at (after_withdraw n j).sources i ≡ source_at n.sources (suc i))
  unfolding after_withdraw
  later_move_up e i =
      rw (granted _ (without_source n j) n e)
      (λ h. removed_before n.sources j i blank_source h, λ h. removed_past n.sources j i blank_source h)

  -- "Withdrawing and replacing go by places from 0, in open and closed studies alike."
  pub withdrawn_alike : (c : Bool) → (withdraw_number (closed_as c n) j ≡ withdraw_number n j) × (after_withdraw (closed_as c n) j ≡ closed_as c (after_withdraw n j))
  unfolding withdraw_number after_withdraw
  withdrawn_alike c = (refl, by_test (place_ok n j) (λ t. rw t refl) (λ t. rw t refl))

  module _ (p : Source) where
    pub replaced_alike : (c : Bool) → (replace_number (closed_as c n) j p ≡ replace_number n j p) × (after_replace (closed_as c n) j p ≡ closed_as c (after_replace n j p))
    unfolding replace_number after_replace
    replaced_alike c = (refl, by_test (eqb (replace_number n j p) 0) (λ t. rw t refl) (λ t. rw t refl))

    -- "A new record for a place supersedes the old": the others stay
    pub supersedes : replace_number n j p ≡ 0 → (source_at (after_replace n j p).sources j ≡ p) × ((i : ℕ) → (i ≡ j → ⊥) → source_at (after_replace n j p).sources i ≡ source_at n.sources i)
    unfolding after_replace
    supersedes e =
        let h = ok_place n j (replace_there n j p e) in
        rw (granted _ (with_source_at n j p) n e)
        (get_or-set_same n.sources j p blank_source h.1, λ i d. get_or-set_other n.sources j i p blank_source d)

    -- "checked like an addition except for 21 and 24": alike if neither of the two is given
    pub like_an_addition : place_ok n j ≡ true → n.closed ≡ false → length n.sources < max_sources → replace_number n j p ≡ source_number n p
    like_an_addition ok o room =
        let h = ok_place n j ok in
        replace_number_there n j p ok ∙ source_record_past n.buses j (length n.sources) p h.0 (omega (arith, h.1)) ∙ sym (source_number_open n p o room)

-- "its space serves the next addition": that is tried by its record alone, like a replacement, however full the table was
pub space_serves : (cs : List Call) (j : ℕ) (p : Source) → place_ok (run cs) j ≡ true → (run cs).closed ≡ false → source_number (after_withdraw (run cs) j) p ≡ replace_number (run cs) j p
unfolding after_withdraw
space_serves cs j p ok o =
    let n = run cs in
    let h = ok_place n j ok in
    let fewer = one_fewer n.sources j h.1 in
    let room = (run_rebuilt cs).source_room in
    rw (granted _ (without_source n j) n (sym (withdraw_there n j ok)))
    (source_number_open (without_source n j) p o (omega arith) ∙ source_record_past n.buses (length (removed j n.sources)) j p (omega (arith, h.0, h.1)) h.0 ∙ sym (replace_number_there n j p ok))

-- "For every list of additions .., withdrawals, replacements, closings and reopenings from a started study, the sources equal those of the
-- plain list": a started study has none
pub from_a_started_study : (t : ℕ) (cs : List Call) → (run (starting t ∷ cs)).sources ≡ plain_from [] (answered_from (start_network t) cs)
unfolding run
from_a_started_study t cs = plain_from_law (start_network t) cs

-- ---- worked out, with the records of document 01's network of two buses
abbrev changes : List Call
changes =
    starting 10 ∷ adding_bus first ∷ adding_source infeed ∷ adding_bus second ∷ adding_source machine ∷ adding_source solar
    ∷ withdrawing 0 ∷ withdrawing 3 ∷ replacing 3 infeed ∷ replacing 1 infeed ∷ closing ∷ withdrawing 1 ∷ adding_source machine
    ∷ replacing 1 machine ∷ reopening ∷ reopening ∷ adding_source solar ∷ []

-- 34 at place 0 and behind the last, before the record's 14; 14 for a second feeder; 21 in the closed study, 22 in the open one
pub changes_numbers : map (λ (a : Answered). a.number) (answered_from empty_network changes) ≡ 0 ∷ 0 ∷ 0 ∷ 0 ∷ 0 ∷ 0 ∷ 34 ∷ 34 ∷ 34 ∷ 14 ∷ 0 ∷ 0 ∷ 21 ∷ 0 ∷ 0 ∷ 22 ∷ 0 ∷ []
unfolding after_bus_in bus_number_in bus_record_number branch_ok depth_ok along after_source_in source_number_in source_record_number ranges_ok fields_ok withdraw_number after_withdraw replace_number after_replace close_number after_close reopen_number after_reopen
changes_numbers = refl

-- the generator left, the converter moved up and gave its place to the generator, and another converter joined the end
pub changes_sources : (run changes).sources ≡ infeed ∷ machine ∷ solar ∷ []
unfolding run after_bus_in bus_number_in bus_record_number branch_ok depth_ok along after_source_in source_number_in source_record_number ranges_ok fields_ok withdraw_number after_withdraw replace_number after_replace close_number after_close reopen_number after_reopen
changes_sources = refl
