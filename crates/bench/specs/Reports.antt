-- What is given back of many reports into one table: the table as the last one leaves it, and a figure that depends on each.
use Rattle.std.specs.Prelude.{◌≡◌, false, List, [], ◌∷◌, ℕ, zero, suc, ◌+◌, pos, Float, length}
use Rattle.std.proofs.Common.{ap, ◌∙◌, add-one}
use Rattle.std.specs.Float.{fin, binary64}
use Rattle.std.specs.Float.Ieee.{add}
use Rattle.network.specs.Network.{Network}
use Rattle.network.specs.Report.{report_number, reported}
use Rattle.network.specs.Tables.{table_after}

-- the numbers of a table, added to a total in f64
unfoldable pub numbers_added : Float → List Float → Float
numbers_added total [] = total
numbers_added total (x ∷ numbers) = numbers_added (add binary64 total x) numbers

-- one report: the table after it
abbrev pub reported_table : Network → List Float → List Float
reported_table net table = table_after (report_number net (length table)) (reported net) table

-- k reports: the table after them, and the numbers of the table after each, added up
unfoldable pub reported_times : Network → List Float → ℕ → List Float × Float
reported_times net table zero = (table, fin false 0 (pos 0))
reported_times net table (suc k) =
    (reported_table net (reported_times net table k).0, numbers_added (reported_times net table k).1 (reported_table net (reported_times net table k).0))

-- one report more, of a network that is net: its number, the table after it, and the new total
pub reported_more : (net m : Network) → m ≡ net → (table : List Float) (k : ℕ) (before : List Float × Float) → reported_times net table k ≡ before
    → (number : ℕ) (after : List Float) (total : Float) → number ≡ report_number m (length before.0) → after ≡ table_after number (reported m) before.0 → total ≡ numbers_added before.1 after
    → reported_times net table (k + 1) ≡ (after, total)
unfolding reported_times
reported_more net m q table k before e number after total n t a =
    let u : after ≡ reported_table net before.0 = t ∙ ap (λ (j : ℕ). table_after j (reported m) before.0) n ∙ ap (λ (x : Network). reported_table x before.0) q in
    rw (add-one k, a, u) (ap (λ (p : List Float × Float). (reported_table net p.0, numbers_added p.1 (reported_table net p.0))) e)
