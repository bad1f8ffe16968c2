-- What a chain of branches costs: at each level a source joins, the sum is inverted, a branch impedance is added, the result is
-- referred by a ratio twice and inverted back. Assumes nothing.
use Rattle.std.specs.Prelude.{ℕ, zero, suc, ◌+◌, ◌*◌, ◌≤◌}
use Rattle.std.proofs.Common.{arith, mul-suc}
use Rattle.enclosure.specs.Exact.{Ops}
use Rattle.enclosure.specs.laws.Nearness.{Rules}

-- one level: y seen behind the branch, s the source that joins, z the branch, p/q the ratio
abbrev pub level : {A : Type 0} → Ops A → (s z : A) → (p q : ℕ) → A → A
level o s z p q y = o.inverse (o.scale p q (o.scale p q (o.add z (o.inverse (o.add y s)))))

abbrev pub chain : {A : Type 0} → Ops A → (s z : ℕ → A) → (p q : ℕ → ℕ) → ℕ → A
chain o s z p q zero = s 0
chain o s z p q (suc n) = level o (s (suc n)) (z n) (p n) (q n) (chain o s z p q n)

module _ {A B : Type 0} (o : Ops A) (o' : Ops B) (R : ℕ → A → B → Type 0) (Factor : ℕ → Type 0) (limit a v c : ℕ) (rules : Rules o o' R Factor limit a v c)
    (s z : ℕ → A) (s' z' : ℕ → B) (p q : ℕ → ℕ) (k : ℕ)
    (near-s : (i : ℕ) → R k (s i) (s' i)) (near-z : (i : ℕ) → R k (z i) (z' i)) (volts : (i : ℕ) → Factor (p i) × Factor (q i)) where
  -- A LEVEL COSTS two sums, two inversions and two scalings, however many lie before it
  pub chain_near : (n : ℕ) → k + (a + v + a + c + c + v) * n ≤ limit → R (k + (a + v + a + c + c + v) * n) (chain o s z p q n) (chain o' s' z' p q n)
  chain_near zero l = rules.more k _ _ _ (omega arith) (near-s 0)
  chain_near (suc n) l =
      let e = mul-suc (a + v + a + c + c + v) n in
      let j : ℕ = k + (a + v + a + c + c + v) * n in
      rules.more (j + a + v + a + c + c + v) _ _ _ (omega arith)
      (rules.near_inverse (j + a + v + a + c + c) _ _ (omega arith)
      (rules.near_scale (j + a + v + a + c) (p n) (q n) _ _ (volts n).0 (volts n).1 (omega arith)
      (rules.near_scale (j + a + v + a) (p n) (q n) _ _ (volts n).0 (volts n).1 (omega arith)
      (rules.near_add (j + a + v) _ _ _ _ (omega arith)
      (rules.more k _ _ _ (omega arith) (near-z n))
      (rules.near_inverse (j + a) _ _ (omega arith)
      (rules.near_add j _ _ _ _ (omega arith) (chain_near n (omega arith)) (rules.more k _ _ _ (omega arith) (near-s (suc n)))))))))

-- AN EXAMPLE of what a level costs; nothing rests on it. In f64, with 4 parts in 2 ^ 53 for a sum, 13 for an inverse and 8 for a scaling,
-- 37 levels of elements within 1,000 parts come to 2,850 parts. Demand 3 rests on the walk over the tree, `units` in the network's
-- Claim. WholeBounds proves the width for up to 1,000,000 parts
pub thirty_seven : 1000 + (4 + 13 + 4 + 8 + 8 + 13) * 37 ≤ 1000000
thirty_seven = omega arith
