-- Laws of the way from a bus to bus 0: one step of it, that records above it do not matter, and that columns of parents and kinds give
-- the same. Assumes nothing.
use Rattle.std.specs.Prelude.{◌≡◌, refl, Bool, true, false, List, ℕ, zero, suc, ◌+◌, ◌≤◌, ◌<◌, ltb, eqb}
use Rattle.std.proofs.Math.Path.{ap}
use Rattle.std.proofs.Math.Bool.{cond}
use Rattle.std.proofs.Common.{arith, lt-ltb}
use Rattle.tree.specs.Limits.{max_buses}
use Rattle.tree.specs.Grid.{toward}
use Rattle.tree.specs.laws.Toward.{toward_more, toward_end, toward_same}
use Rattle.sweep.specs.Points.{number_at}
use Rattle.sweep.specs.laws.Columns.{FilledTo}
use Rattle.network.specs.declared.study.Bus.{Bus}
use Rattle.network.specs.laws.Tests.{by_test}
use Rattle.network.specs.Network.{bus_at, along, way, any_branch, if_transformer, depth_of, transformers_of}

-- two lists with the same records up to bus i
abbrev pub Same : List Bus → List Bus → ℕ → Type 0
Same l m i = (k : ℕ) → k ≤ i → bus_at l k ≡ bus_at m k

module _ (weight : Bus → ℕ) where
  pub way_more : (l : List Bus) (i : ℕ) → (bus_at l i).parent < i → way weight l i ≡ way weight l (bus_at l i).parent + weight (bus_at l i)
  unfolding along
  way_more l = toward_more (λ j. (bus_at l j).parent) (λ j n. n + weight (bus_at l j)) 0

  -- the records above bus i do not matter
  pub way_same : (l m : List Bus) (i : ℕ) → Same l m i → way weight l i ≡ way weight m i
  unfolding along
  way_same l m i s =
      toward_same (λ j. (bus_at l j).parent) (λ j. (bus_at m j).parent) (λ j n. n + weight (bus_at l j)) (λ j n. n + weight (bus_at m j)) 0 (suc i)
      (λ k h. ap (λ (b : Bus). b.parent) (s k (omega arith))) (λ k n z h. ap (λ (b : Bus). n + weight b) (s k (omega arith))) i i (omega arith)

-- ---- the same from columns, as the code counts: w at each bus on the way from bus i to bus 0, p giving the parents
abbrev pub counted_by : (ℕ → ℕ) → (ℕ → ℕ) → ℕ → ℕ
counted_by p w i = toward p (λ k n. n + w k) 0 i i

module _ (p w : ℕ → ℕ) where
  pub counted_more : (i : ℕ) → p i < i → counted_by p w i ≡ counted_by p w (p i) + w i
  counted_more = toward_more p (λ k n. n + w k) 0

  pub counted_end : (i : ℕ) → i ≤ p i → counted_by p w i ≡ 0
  counted_end = toward_end p (λ k n. n + w k) 0

  toward_small : ((k : ℕ) → w k ≤ 1) → (f i : ℕ) → toward p (λ k n. n + w k) 0 f i ≤ f
  toward_small h zero i = omega arith
  toward_small h (suc f) i =
      by_test (ltb (p i) i) (λ t. rw t (omega (arith, toward_small h f (p i), h i))) (λ t. rw t (omega arith))

  pub counted_small : ((k : ℕ) → w k ≤ 1) → (i : ℕ) → counted_by p w i ≤ i
  counted_small h i = toward_small h i i

one_at_most : (t : Bool) → cond t 1 0 ≤ 1
one_at_most true = omega arith
one_at_most false = omega arith

pub transformer_small : (kind : ℕ) → cond (eqb kind 2) 1 0 ≤ 1
transformer_small kind = one_at_most (eqb kind 2)

-- columns that hold the first n records give the ways of these
module _ (l : List Bus) (parents kinds : List ℕ) (n : ℕ) (few : n ≤ max_buses)
    (hp : FilledTo 0 (λ k. (bus_at l k).parent) n parents) (hk : FilledTo 0 (λ k. (bus_at l k).kind) n kinds) where
  held : (f : ℕ → ℕ) (column : List ℕ) → FilledTo 0 f n column → (k : ℕ) → k < n → number_at column k ≡ f k
  held f column h k m = rw (lt-ltb k max_buses (omega arith), h.1 k (omega arith), lt-ltb k n m)

  pub depth_by_columns : (i : ℕ) → i < n → counted_by (number_at parents) (λ k. 1) i ≡ depth_of l i
  unfolding along
  depth_by_columns i m =
      toward_same (number_at parents) (λ k. (bus_at l k).parent) (λ k c. c + 1) (λ k c. c + any_branch (bus_at l k)) 0 n
      (held (λ k. (bus_at l k).parent) parents hp) (λ k c z b. refl) i i m

  pub transformers_by_columns : (i : ℕ) → i < n → counted_by (number_at parents) (λ k. cond (eqb (number_at kinds k) 2) 1 0) i ≡ transformers_of l i
  unfolding along
  transformers_by_columns i m =
      toward_same (number_at parents) (λ k. (bus_at l k).parent) (λ k c. c + cond (eqb (number_at kinds k) 2) 1 0) (λ k c. c + if_transformer (bus_at l k)) 0 n
      (held (λ k. (bus_at l k).parent) parents hp)
      (λ k c z b. ap (λ (x : ℕ). c + cond (eqb x 2) 1 0) (held (λ k. (bus_at l k).kind) kinds hk k b)) i i m
