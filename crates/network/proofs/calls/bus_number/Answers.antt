-- `bus_number` meets its contract. The array with the record at the count agrees with the list with the record at its end up to that
-- place, and the number of a record goes by nothing else (`bus_record_same`).
use Rattle.std.specs.Prelude.{◌≡◌, List, [], ◌∷◌, ◌++◌, ℕ, ◌<◌, length, take, set}
use Rattle.std.proofs.Common.{sym, ◌∙◌, ap, ap₂, arith, length-take, rules}
use Rattle.network.specs.declared.study.Bus.{Bus}
use Rattle.network.specs.Network.{network, blank}
use Rattle.tree.specs.Limits.{max_buses}
use Rattle.network.specs.Grounds.{bus_record_number, bus_number_in}
use Rattle.network.specs.laws.Acceptance.{bus_record_same, bus_number_open}
use Rattle.network.proofs.Lists.{length_mapped, count_below, count_full, appended_same}
use Rattle.network.proofs.calls.bus_number.Goals as goal
use Rattle.network.proofs.calls.bus_number.Goals.{Start}

pub returns-then-closed : goal.returns-then-closed
unfolding bus_number_in
returns-then-closed c = λ s closed buses count. rw (closed ∙ c.if-closed.true)

-- the length of the array that is the study's
whole : (c : Start) → length c.args.buses ≡ max_buses
whole c = search (rules, length_mapped)

pub returns-then-n-ge-BUSES : goal.returns-then-n-ge-BUSES
unfolding bus_number_in
returns-then-n-ge-BUSES c = λ s closed buses count.
    let h = ap length buses ∙ whole (goal.at.returns-then-n-ge-BUSES c).Start in
    rw (closed ∙ c.if-closed.false, count_full max_buses s.bus_count s.buses h (omega (arith, c.if-n-ge-BUSES.true)))

pub returns : goal.returns
returns c = λ s closed buses count.
    let a = c.args in
    let l = s.buses in
    let n = s.bus_count in
    let h = ap length buses ∙ whole (goal.at.returns c).Start in
    let few : n < max_buses = omega (arith, c.if-n-ge-BUSES.false) in
    let next = bus_number_open (network s) a.b (closed ∙ c.if-closed.false) (omega (arith, length-take n l)) in
    let same = bus_record_same (take n l ++ (a.b ∷ [])) (set l n a.b) n (appended_same max_buses n l h a.b blank few) in
    c.bus_record_number.ensures ∙ sym ((rw (count_below max_buses n l h few) at next) ∙ same ∙ ap₂ (λ (m : List Bus) (k : ℕ). bus_record_number (set m k a.b) k) buses count)
