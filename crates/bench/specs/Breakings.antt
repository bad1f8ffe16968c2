-- What C is given back of many breaking calls with one table: the table as the last one leaves it, and a figure that depends on each.
use Rattle.std.specs.Prelude.{◌≡◌, false, List, ℕ, zero, suc, ◌+◌, ◌%◌, pos, Float, length}
use Rattle.std.proofs.Common.{add-one}
use Rattle.std.specs.Float.{fin, binary64}
use Rattle.std.specs.Float.Ieee.{add}
use Rattle.network.specs.Network.{Network}
use Rattle.network.specs.Tables.{table_after}
use Rattle.breaking.specs.Breaking.{breaking_number, figure_after}
use Rattle.breaking.specs.Doubles.{part_at, table_of, figure_at}

-- one call: the table after it, and its figure
abbrev pub broken_table : Network → ℕ → ℕ → List Float → List Float
broken_table net b delay table = table_after (breaking_number net b delay (length table)) (table_of (part_at net b delay) net.sources) table

abbrev pub broken_figure : Network → ℕ → ℕ → List Float → Float
broken_figure net b delay table = figure_after (breaking_number net b delay (length table)) (figure_at net b delay)

-- k calls, going round over the buses 0 to n - 1: the table after them, and their figures added up in f64
unfoldable pub broken_times : Network → ℕ → ℕ → List Float → ℕ → List Float × Float
broken_times net n delay table zero = (table, fin false 0 (pos 0))
broken_times net n delay table (suc k) =
    (broken_table net (k % n) delay (broken_times net n delay table k).0, add binary64 (broken_times net n delay table k).1 (broken_figure net (k % n) delay (broken_times net n delay table k).0))

pub broken_more : (net : Network) (n delay : ℕ) (table : List Float) (k : ℕ)
    → broken_times net n delay table (k + 1) ≡ (broken_table net (k % n) delay (broken_times net n delay table k).0, add binary64 (broken_times net n delay table k).1 (broken_figure net (k % n) delay (broken_times net n delay table k).0))
unfolding broken_times
broken_more net n delay table k = rw add-one
