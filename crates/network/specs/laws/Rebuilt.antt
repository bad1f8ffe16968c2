-- Whatever calls made a network, refused ones among them, it has the invariant (`run_rebuilt`), from which every fact about its records
-- follows.
use Rattle.std.specs.Prelude.{◌≡◌, refl, true, false, cond, List, [], ◌∷◌, ℕ, eqb}
use Rattle.std.proofs.Common.{eqb-true}
use Rattle.network.specs.declared.study.Bus.{Bus}
use Rattle.network.specs.declared.study.Source.{Source}
use Rattle.network.specs.Network.{Network}
use Rattle.network.specs.Grounds.{empty_of, bus_number, after_bus_in, after_bus, source_number, after_source_in, after_source, withdraw_number, after_withdraw, replace_number, after_replace, close_number, after_close, reopen_number, after_reopen, Call, step, run_from, run}
use Rattle.network.specs.Grounds.Call.{starting, adding_bus, adding_source, withdrawing, replacing, closing, reopening, querying}
use Rattle.network.specs.laws.Tests.{by_test, never}
use Rattle.network.specs.laws.Acceptance.{bus_room, bus_accepted, source_room, source_accepted, withdraw_behind, replace_behind, replace_accepted, close_fed}
pub use Rattle.network.specs.laws.Invariant.{Rebuilt, AcceptedAt, SourcesAccepted, source_record_past, source_record, rebuilt_sources, rebuilt_appended}
use Rattle.network.specs.laws.Invariant.{rebuilt_empty, rebuilt_start, rebuilt_bus_more, rebuilt_closed_as}
use Rattle.network.specs.laws.SourcesChanged.{rebuilt_removed, rebuilt_rewritten}

-- if a call is refused, the network stays as it was
after : (k : ℕ) (x n : Network) → Rebuilt n → (k ≡ 0 → Rebuilt x) → Rebuilt (cond (eqb k 0) x n)
after k x n r h = by_test (eqb k 0) (λ t. rw t (h (eqb-true k 0 t))) (λ t. rw t r)

rebuilt_bus : (n : Network) (b : Bus) → Rebuilt n → Rebuilt (after_bus n b)
unfolding after_bus_in
rebuilt_bus n b r = after (bus_number n b) _ n r (λ e. rebuilt_bus_more r b (bus_room n b e) (bus_accepted n b e))

rebuilt_source : (n : Network) (p : Source) → Rebuilt n → Rebuilt (after_source n p)
unfolding after_source_in
rebuilt_source n p r = after (source_number n p) _ n r (λ e. rebuilt_appended r p (source_room n p e) (source_accepted n p e))

rebuilt_withdraw : (n : Network) (j : ℕ) → Rebuilt n → Rebuilt (after_withdraw n j)
unfolding after_withdraw
rebuilt_withdraw n j r = after (withdraw_number n j) _ n r (λ e. rebuilt_removed r j (withdraw_behind n j e))

rebuilt_replace : (n : Network) (j : ℕ) (p : Source) → Rebuilt n → Rebuilt (after_replace n j p)
unfolding after_replace
rebuilt_replace n j p r = after (replace_number n j p) _ n r (λ e. rebuilt_rewritten r j (replace_behind n j p e) p (replace_accepted n j p e))

rebuilt_close : (n : Network) → Rebuilt n → Rebuilt (after_close n)
unfolding after_close
rebuilt_close n r = after (close_number n) _ n r (λ e. rebuilt_closed_as r true (λ _. close_fed n e))

rebuilt_reopen : (n : Network) → Rebuilt n → Rebuilt (after_reopen n)
unfolding after_reopen
rebuilt_reopen n r = after (reopen_number n) _ n r (λ _. rebuilt_closed_as r false (λ c. never c))

rebuilt_step : (n : Network) (c : Call) → Rebuilt n → Rebuilt (step n c)
rebuilt_step n (starting t) r = rebuilt_start t
rebuilt_step n (adding_bus b) r = rebuilt_bus n b r
rebuilt_step n (adding_source p) r = rebuilt_source n p r
rebuilt_step n (withdrawing j) r = rebuilt_withdraw n j r
rebuilt_step n (replacing j p) r = rebuilt_replace n j p r
rebuilt_step n closing r = rebuilt_close n r
rebuilt_step n reopening r = rebuilt_reopen n r
rebuilt_step n (querying i) r = r

rebuilt_from : (n : Network) (cs : List Call) → Rebuilt n → Rebuilt (run_from n cs)
rebuilt_from n [] r = r
rebuilt_from n (c ∷ cs) r = rebuilt_from (step n c) cs (rebuilt_step n c r)

pub run_rebuilt : (cs : List Call) → Rebuilt (run cs)
unfolding run
run_rebuilt cs = rebuilt_from (empty_of 6) cs (rebuilt_empty 6 refl)
