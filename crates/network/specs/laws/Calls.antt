-- One list of calls after another. Assumes nothing.
use Rattle.std.specs.Prelude.{◌≡◌, refl, List, [], ◌∷◌, ◌++◌}
use Rattle.network.specs.Network.{Network}
use Rattle.network.specs.Grounds.{Call, run_from, step}

-- one list of calls after another
pub run_append : (n : Network) (a b : List Call) → run_from n (a ++ b) ≡ run_from (run_from n a) b
run_append n [] b = refl
run_append n (c ∷ a) b = run_append (step n c) a b
