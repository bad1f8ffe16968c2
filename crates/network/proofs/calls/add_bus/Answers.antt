-- `add_bus` meets its contract. An accepted record found room, and what is stored of it is the addition.
use Rattle.std.specs.Prelude.{◌≡◌, refl, ◌<◌, length}
use Rattle.std.proofs.Common.{sym, ◌∙◌, arith, rules}
use Rattle.tree.specs.Limits.{max_buses}
use Rattle.network.specs.Network.{network}
use Rattle.network.specs.Grounds.{bus_number, after_bus_in}
use Rattle.network.specs.laws.Acceptance.{refused}
use Rattle.network.proofs.Lists.{length_mapped}
use Rattle.network.proofs.Adding.{bus_fits, bus_stored}
use Rattle.network.proofs.calls.add_bus.Goals as goal
use Rattle.network.proofs.calls.add_bus.Goals.{After-bus_number-bus_ground, Else-bus_ground-ne0}

tried : (c : After-bus_number-bus_ground) → c.bus_number-bus_ground.result ≡ bus_number (network c.args.s) c.args.b
tried c = c.bus_number-bus_ground.ensures c.args.s refl refl refl

few : (c : Else-bus_ground-ne0) → c.args.s.bus_count < max_buses
few c =
    let a = c.args in
    let h : length a.s.buses ≡ max_buses = search (rules, length_mapped) in
    bus_fits a.s a.b h (sym ((let tried_here : c.bus_number-bus_ground.result ≡ bus_number (network c.args.s) c.args.b = c.bus_number-bus_ground.ensures c.args.s refl refl refl in tried_here)) ∙ c.if-bus_ground-ne0.false)

pub returns-then-bus_ground-ne0 : goal.returns-then-bus_ground-ne0
unfolding after_bus_in
returns-then-bus_ground-ne0 c =
    let e = tried (goal.at.returns-then-bus_ground-ne0 c).After-bus_number-bus_ground in
    record { number = e; kept = λ _. refl; network = sym (refused _ _ _ (λ z. c.if-bus_ground-ne0.true (e ∙ z))) }

pub bounds-next-n : goal.bounds-next-n
bounds-next-n c = few c

pub overflow_add-next : goal.overflow_add-next
overflow_add-next c = let k = few c in record { fits = omega arith }

pub returns : goal.returns
returns c =
    let a = c.args in
    let e = tried (goal.at.returns c).After-bus_number-bus_ground in
    let h : length a.s.buses ≡ max_buses = search (rules, length_mapped) in
    record { number = e; kept = λ z. absurd (z c.if-bus_ground-ne0.false); network = bus_stored a.s a.b h (sym e ∙ c.if-bus_ground-ne0.false) }

pub offset_bounds-next-n : goal.offset_bounds-next-n
offset_bounds-next-n c = let k = few c in record { fits = omega arith }
