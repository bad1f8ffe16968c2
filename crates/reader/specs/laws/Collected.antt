-- The numbers of a row as the reader collects them are those of its fields. Assumes nothing.
use Rattle.std.specs.Prelude.{◌≡◌, refl, true, ◌&&◌, List, [], ◌∷◌, ◌++◌, ℕ, ◌+◌, ◌≤◌, leb, ltb, length, take, set, replicate}
use Rattle.std.proofs.Common.{sym, ◌∙◌, append_assoc, append-nil, arith, add-one, leb-true, leb-false, le-leb, ltb-true, ltb-false, length-set, take-suc-set, get_or-set_other}
use Rattle.std.proofs.lemmas.Bool.{lt-leb}
use Rattle.std.proofs.lemmas.List.{length-replicate, get_or-replicate}
use Rattle.std.proofs.Math.ListN.{get_or-eq_default}
use Rattle.network.specs.laws.Tests.{by_test, never}
use Rattle.reader.specs.declared.Number.{Number}
use Rattle.reader.specs.declared.Number.TheVariants.{Value, Broken}
use Rattle.reader.specs.declared.Numbers.{Numbers}
use Rattle.reader.specs.File.{most_fields, number_of, all_numbers, amounts}
use Rattle.reader.specs.Collected.{Filled, collect, collected}

pub record Collected (fs : List (List ℕ)) (r : Numbers) : Type 0 where
  pub tested : r.ok ≡ (all_numbers fs && leb (length fs) most_fields)
  pub few : r.count ≤ most_fields
  pub same : r.ok ≡ true → take r.count r.values ≡ amounts fs
  pub filled : Filled r.count r.values

-- the same after `count` others
record After (fs : List (List ℕ)) (count : ℕ) (values : List ℕ) (r : Numbers) : Type 0 where
  pub tested : r.ok ≡ (all_numbers fs && leb (count + length fs) most_fields)
  pub few : r.count ≤ most_fields
  pub same : r.ok ≡ true → take r.count r.values ≡ take count values ++ amounts fs
  pub filled : Filled r.count r.values

-- one number more
filled_more : (count n : ℕ) (values : List ℕ) → Filled count values → Filled (count + 1) (set values count n)
filled_more count n values z i h = get_or-set_other values count i n 0 (λ e. omega arith) ∙ z i (omega arith)

after : (fs : List (List ℕ)) (count : ℕ) (values : List ℕ) → count ≤ most_fields → length values ≡ most_fields → Filled count values → After fs count values (collect fs count values)
after [] count values h w z = record {
  tested = sym (le-leb (count + 0) most_fields (omega arith));
  few = h;
  same = λ _. sym (append-nil (take count values));
  filled = z;
}
after (f ∷ fs) count values h w z = go (number_of f) refl (after fs (count + 1))
  where
    Later : Type 0
    Later = (v : List ℕ) → count + 1 ≤ most_fields → length v ≡ most_fields → Filled (count + 1) v → After fs (count + 1) v (collect fs (count + 1) v)

    go : (n : Number) → number_of f ≡ n → Later → After (f ∷ fs) count values (collect (f ∷ fs) count values)
    go Broken e later = rw e (record { tested = rw e; few = h; same = never; filled = z })
    go (Value n) e later =
        by_test (leb most_fields count)
        (λ t.
        let many = lt-leb (count + length (f ∷ fs)) most_fields (omega (arith, leb-true most_fields count t)) in
        rw (e, t) (record { tested = by_test (all_numbers fs) (λ s. rw (e, s, many)) (λ s. rw (e, s)); few = h; same = never; filled = z }))
        (λ t.
        let l = leb-false most_fields count t in
        let a = later (set values count n) (omega arith) (length-set values count n ∙ w) (filled_more count n values z) in
        let k : count + 1 + length fs ≡ count + length (f ∷ fs) = omega arith in
        rw (e, t)
        (record {
          tested = rw (e, ← k) a.tested;
          few = a.few;
          same = λ s. a.same s ∙ rw (e, add-one count, take-suc-set values count n (omega (arith, w)), append_assoc (take count values) (n ∷ []));
          filled = a.filled;
        }))

pub collected_law : (fs : List (List ℕ)) → Collected fs (collected fs)
collected_law fs =
    let a = after fs 0 (replicate most_fields 0) (omega arith) (length-replicate {A = ℕ} most_fields 0) zeros in
    let e : 0 + length fs ≡ length fs = omega arith in
    record { tested = rw e at a.tested; few = a.few; same = a.same; filled = a.filled }
  where
    zeros : Filled 0 (replicate most_fields 0)
    zeros i h =
        by_test (ltb i most_fields)
        (λ t. get_or-replicate most_fields i 0 0 (ltb-true i most_fields t))
        (λ t. get_or-eq_default (replicate most_fields 0) 0 {n = i} (omega (arith, ltb-false i most_fields t, length-replicate {A = ℕ} most_fields 0)))
