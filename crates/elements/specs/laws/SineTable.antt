-- The constant table of 31 numbers is document 01's sine, by one test that is computed over the whole table. Assumes nothing.
use Rattle.std.specs.Prelude.{ℕ, ◌+◌, ◌-◌, ◌*◌, ◌≤◌, ◌<◌, ◌≡◌, List, [], ◌∷◌, get_or}
use Rattle.std.proofs.Common.{arith, mul-le-mul}
use Rattle.enclosure.specs.Exact.{root_of, root_up}
use Rattle.elements.specs.Factors.{sine_of}
use Rattle.elements.specs.laws.Factors.{sine_reaches, sine_least}
use Rattle.elements.specs.laws.EachBelow.{table_rule}

-- the table, for power factors from 0.70 to 1.00
abbrev pub sines : List ℕ
sines =
    7142 ∷ 7043 ∷ 6940 ∷ 6835 ∷ 6727 ∷ 6615 ∷ 6500 ∷ 6381 ∷ 6258 ∷ 6132 ∷ 6000 ∷ 5865 ∷ 5724 ∷ 5578 ∷ 5426 ∷ 5268 ∷ 5103 ∷ 4931 ∷ 4750 ∷ 4560 ∷ 4359 ∷
    4147 ∷ 3920 ∷ 3676 ∷ 3412 ∷ 3123 ∷ 2800 ∷ 2432 ∷ 1990 ∷ 1411 ∷ 0 ∷ []

-- ---- the rule
pub sines_rule : (i : ℕ) → i < 31 → get_or sines i 0 ≡ sine_of (70 + i)
unfolding sine_of root_up root_of
sines_rule = table_rule sines (λ i. sine_of (70 + i)) 31 tt

-- "the least s with s² ≥ 10⁸ − 10⁴·p²": of each entry, in these words
pub record LeastSine (p s : ℕ) : Type 0 where
  pub reaches : 100000000 ≤ s * s + 10000 * (p * p)
  pub least : (t : ℕ) → 100000000 ≤ t * t + 10000 * (p * p) → s ≤ t

pub sines_least : (p : ℕ) → 70 ≤ p → p ≤ 100 → LeastSine p (get_or sines (p - 70) 0)
sines_least p l h =
    let e : 70 + (p - 70) ≡ p = omega arith in
    rw (sines_rule (p - 70) (omega arith), e) (record { reaches = sine_reaches p; least = sine_least p })

-- from 100 on there is nothing under the root
pub sine_none : (p : ℕ) → 100 ≤ p → sine_of p ≡ 0
sine_none p h = omega (arith, sine_least p 0 (omega (arith, mul-le-mul h h)))
