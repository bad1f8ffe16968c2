-- A column: what stands at each bus, with a place for every bus that there is room for.
use Rattle.std.specs.Prelude.{ℕ, zero, suc, List, [], ◌∷◌}
use Rattle.tree.specs.Limits.{max_buses}

-- what f gives at n places, from i on
abbrev pub listed : {A : Type 0} → (ℕ → A) → ℕ → ℕ → List A
listed f i zero = []
listed f i (suc n) = f i ∷ listed f (suc i) n

-- what f gives at each place of a column
unfoldable pub column : {A : Type 0} → (ℕ → A) → List A
column f = listed f 0 max_buses
