-- The records that are counted, as the first ones of the array that holds them.
use Rattle.std.specs.Prelude.{◌≡◌, refl, List, [], ◌∷◌, ◌++◌, ℕ, zero, suc, ◌+◌, ◌≤◌, ◌<◌, ltb, ◌&&◌, length, take, set, get_or}
use Rattle.std.proofs.Common.{sym, ap, arith, add-one, ltb-true, ltb-false, lt-ltb, le-ltb, length-take, take-suc-set, get_or-take}
use Rattle.std.proofs.Math.ListN.{get_or-eq_default}
use Rattle.network.specs.laws.Tests.{by_test}
use Rattle.network.specs.Network.{removed}
pub use Rattle.network.specs.laws.Arrays.{length_mapped}

-- as many records as are counted are the counted ones
pub counted_again : {X : Type 0} (n : ℕ) (l : List X) → take (length (take n l)) l ≡ take n l
counted_again zero l = refl
counted_again (suc n) [] = refl
counted_again (suc n) (x ∷ l) = ap (λ (r : List _). x ∷ r) (counted_again n l)

module _ {X : Type 0} (cap n : ℕ) (l : List X) (whole : length l ≡ cap) where
  -- a count below the capacity is the number of records, any other counts them all
  pub count_below : n < cap → length (take n l) ≡ n
  count_below h = omega (arith, length-take n l)

  pub count_full : cap ≤ n → length (take n l) ≡ cap
  count_full h = omega (arith, length-take n l)

  pub count_most : length (take n l) ≤ cap
  count_most = omega (arith, length-take n l)

  pub below_count : length (take n l) < cap → n < cap
  below_count h = omega (arith, length-take n l)

  -- a place that is counted is within the count and within the array, and the record there is the array's
  pub inside_count : (i : ℕ) → i < length (take n l) → i < n
  inside_count i h = omega (arith, length-take n l)

  pub inside_array : (i : ℕ) → i < length (take n l) → i < cap
  inside_array i h = omega (arith, length-take n l)

  pub read_counted : (i : ℕ) (d : X) → i < length (take n l) → get_or l i d ≡ get_or (take n l) i d
  read_counted i d h = sym (get_or-take n l i d (inside_count i h))

  -- the test whether a place is counted
  pub counted_test : (i : ℕ) → ltb i (length (take n l)) ≡ ltb i n && ltb i cap
  counted_test i =
      by_test (ltb i n)
      (λ t.
      by_test (ltb i cap)
      (λ u. rw (t, u) (lt-ltb i (length (take n l)) (omega (arith, length-take n l, ltb-true i n t, ltb-true i cap u))))
      (λ u. rw (t, u) (le-ltb i (length (take n l)) (omega (arith, length-take n l, ltb-false i cap u)))))
      (λ t. rw t (le-ltb i (length (take n l)) (omega (arith, length-take n l, ltb-false i n t))))

  -- past the count, and past the array, nothing is read
  pub past_count : (i : ℕ) (d : X) → n ≤ i → get_or (take n l) i d ≡ d
  past_count i d h = get_or-eq_default (take n l) d {n = i} (omega (arith, length-take n l))

  pub past_array : (i : ℕ) (d : X) → cap ≤ i → get_or (take n l) i d ≡ d
  past_array i d h = get_or-eq_default (take n l) d {n = i} (omega (arith, length-take n l))

  -- a record stored at the count is the next one
  pub appended : (x : X) → n < cap → take (n + 1) (set l n x) ≡ take n l ++ (x ∷ [])
  appended x h = rw add-one (take-suc-set l n x (omega arith))

  pub appended_same : (x d : X) → n < cap → (k : ℕ) → k ≤ n → get_or (take n l ++ (x ∷ [])) k d ≡ get_or (set l n x) k d
  appended_same x d h k p = rw (← appended x h) (get_or-take (n + 1) (set l n x) k d (omega arith))

-- ---- a record left out by moving those behind it up, one after the other
-- a store within the records that are counted
pub take_stored : {X : Type 0} (n : ℕ) (l : List X) (i : ℕ) (x : X) → take n (set l i x) ≡ set (take n l) i x
take_stored zero l i x = refl
take_stored (suc n) [] i x = refl
take_stored (suc n) (y ∷ l) zero x = refl
take_stored (suc n) (y ∷ l) (suc i) x = ap (λ (r : List _). y ∷ r) (take_stored n l i x)

-- if the record behind place i is copied to it, the place to leave out is the next one
pub removed_moved : {X : Type 0} (l : List X) (i : ℕ) (d : X) → suc i < length l → removed (suc i) (set l i (get_or l (suc i) d)) ≡ removed i l
removed_moved [] i d h = absurd (omega arith)
removed_moved (x ∷ []) i d h = absurd (omega arith)
removed_moved (x ∷ y ∷ l) zero d h = refl
removed_moved (x ∷ y ∷ l) (suc i) d h = ap (λ (r : List _). x ∷ r) (removed_moved (y ∷ l) i d (omega arith))

pub moved_up : {X : Type 0} (n : ℕ) (l : List X) (i : ℕ) (d : X) → i + 1 < n → n ≤ length l → removed (i + 1) (take n (set l i (get_or l (i + 1) d))) ≡ removed i (take n l)
moved_up n l i d h m =
    rw (add-one i, take_stored n l i (get_or l (suc i) d), ← get_or-take n l (suc i) d (omega arith))
    (removed_moved (take n l) i d (omega (arith, length-take n l)))

-- and left out at the end it is no longer counted
pub removed_last : {X : Type 0} (l : List X) (i : ℕ) → i < length l → removed i (take (suc i) l) ≡ take i l
removed_last [] i h = absurd (omega arith)
removed_last (x ∷ l) zero h = refl
removed_last (x ∷ l) (suc i) h = ap (λ (r : List _). x ∷ r) (removed_last l i (omega arith))
