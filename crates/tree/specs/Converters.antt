-- The converters' part by recursion from a bus towards bus 0, as the code calculates it. That it is `carried` of Grid is proved in
-- proofs/ConvertersByRoot.
use Rattle.std.specs.Prelude.{ℕ, zero, suc}
use Rattle.enclosure.specs.Exact.{Ops}
use Rattle.tree.specs.Grid.{toward, Grid, parent_of, upward, downward}

-- ---- the same by "recursion from a bus towards bus 0 for depth and rated ratios, bus number falling"
-- a current x at b, carried to bus 0
unfoldable pub to_root : {A : Type 0} → Ops A → Grid → ℕ → A → A
to_root o G b = toward (parent_of G) (λ i carry x. carry (upward o G i x)) (λ x. x) b b

-- a current x at bus 0, carried to b
unfoldable pub from_root : {A : Type 0} → Ops A → Grid → ℕ → A → A
from_root o G b x = toward (parent_of G) (downward o G) x b b

-- the currents of the buses below n, each carried to bus 0
abbrev pub gathered : {A : Type 0} → Ops A → (ℕ → A) → Grid → ℕ → A
gathered o c G zero = o.none
gathered o c G (suc n) = o.add (gathered o c G n) (to_root o G n (c n))

-- the converters' part at b by numbers of any kind, from the buses' currents
abbrev pub carried_by : {A : Type 0} → Ops A → (ℕ → A) → Grid → ℕ → A
carried_by o c G b = from_root o G b (gathered o c G G.count)
