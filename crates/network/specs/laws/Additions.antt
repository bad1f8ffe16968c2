-- Additions made one after the other are the calls that they stand for.
use Rattle.std.specs.Prelude.{◌≡◌, refl, List, [], ◌∷◌, map, ℕ, suc, ◌+◌, ◌-◌, ◌≤◌, eqb, length, take}
use Rattle.std.proofs.Common.{sym, ◌∙◌, ap, arith}
use Rattle.network.specs.declared.additions.Addition.{Addition}
use Rattle.network.specs.declared.additions.Addition.TheVariants.{OfBus, OfSource}
use Rattle.network.specs.declared.additions.Entry.{Entry}
use Rattle.network.specs.Network.{Network}
use Rattle.network.specs.Grounds.{step, run_from}
use Rattle.network.specs.laws.Tests.{by_test}
use Rattle.network.specs.Additions.{addition_number, after_addition, adding_of, called, added_from}

step_adding : (n : Network) (a : Addition) → step n (adding_of a) ≡ after_addition n a
step_adding n (OfBus b) = refl
step_adding n (OfSource p) = refl

-- how many are accepted
pub added_least : (i : ℕ) (n : Network) (es : List Entry) → i ≤ (added_from i n es).accepted
unfolding added_from
added_least i n [] = omega arith
added_least i n (e ∷ es) =
    by_test (eqb (addition_number n e.addition) 0)
    (λ t. rw t (omega (arith, added_least (i + 1) (after_addition n e.addition) es)))
    (λ t. rw t (omega arith))

pub added_most : (i : ℕ) (n : Network) (es : List Entry) → (added_from i n es).accepted ≤ i + length es
unfolding added_from
added_most i n [] = omega arith
added_most i n (e ∷ es) =
    by_test (eqb (addition_number n e.addition) 0)
    (λ t. rw t (omega (arith, added_most (i + 1) (after_addition n e.addition) es)))
    (λ t. rw t (omega arith))

-- THE NETWORK AFTER ADDITIONS is the network after the calls of those that are accepted
pub added_run : (i : ℕ) (n : Network) (es : List Entry) → (added_from i n es).network ≡ run_from n (map called (take ((added_from i n es).accepted - i) es))
unfolding added_from
added_run i n [] = let z : i - i ≡ 0 = omega arith in rw z
added_run i n (e ∷ es) =
    let a = e.addition in
    by_test (eqb (addition_number n a) 0)
    (λ t.
    let m = fewer (added_from (i + 1) (after_addition n a) es).accepted i (added_least (i + 1) (after_addition n a) es) in
    rw (t, m)
    (added_run (i + 1) (after_addition n a) es
    ∙ ap (λ (x : Network). run_from x (map called (take ((added_from (i + 1) (after_addition n a) es).accepted - (i + 1)) es))) (sym (step_adding n a))))
    (λ t. let z : i - i ≡ 0 = omega arith in rw (t, z))
  where
    fewer : (k i : ℕ) → i + 1 ≤ k → k - i ≡ suc (k - (i + 1))
    fewer k i h = omega arith
