-- `breaking` meets its contract: refused with nothing touched, or laid and added up.
use Rattle.std.specs.Prelude.{ℕ, ◌≡◌, refl, List, length, take, Float}
use Rattle.std.proofs.Common.{sym, ◌∙◌, arith, length-take, eq-eqb, ne_eqb, rules}
use Rattle.tree.specs.Limits.{max_sources}
use Rattle.network.specs.Network.{Network, network}
use Rattle.network.specs.laws.Arrays.{length_mapped}
use Rattle.network.specs.Tables.{table_after}
use Rattle.breaking.specs.Breaking.{breaking_number, figure_after}
use Rattle.breaking.specs.Doubles.{part_at, table_of, figure_at}
use Rattle.breaking.specs.Promise.{BreakingPromise}
use Rattle.breaking.specs.laws.Numbers.{number_in_order, accepted_room}
use Rattle.breaking.specs.laws.Tables.{part_of_few, steps_few}
use Rattle.breaking.specs.laws.Promise.{breaking_kept}
use Rattle.breaking.proofs.breaking.Goals as goal
use Rattle.breaking.proofs.breaking.Goals.{Start}

-- as many sources as there is room for
few : (c : Start) → length c.args.s.sources ≡ max_sources
few c = search (rules, length_mapped)

-- what the call gives, from its number, its figure and its table
given : (n : Network) (b delay number : ℕ) (figure : Float) (lent table : List Float) → number ≡ breaking_number n b delay (length lent) → figure ≡ figure_after number (figure_at n b delay)
    → table ≡ table_after number (table_of (part_at n b delay) n.sources) lent
    → (number ≡ breaking_number n b delay (length lent))
    × ((figure ≡ figure_after number (figure_at n b delay)) × ((table ≡ table_after number (table_of (part_at n b delay) n.sources) lent) × BreakingPromise n b delay lent table figure))
given n b delay number figure lent table e f t = (e, (f, (t, rw (t, f, e) (breaking_kept n b delay lent))))

pub number_after-number-requires : goal.number_after-number-requires
number_after-number-requires c =
    let h = few (goal.at.number_after-number-requires c).Start in
    omega (arith, c.source_total.ensures, length-take c.args.s.source_count c.args.s.sources)

pub returns-then-number-ne0 : goal.returns-then-number-ne0
unfolding figure_after table_after
returns-then-number-ne0 c =
    let a = c.args in
    let e : c.number_after-number.result ≡ breaking_number (network a.s) a.bus a.delay (length a.table.now) =
    c.number_after-number.ensures ∙ rw (c.query-found.ensures.number, c.source_total.ensures) (number_in_order (network a.s) a.bus a.delay (length a.table.now)) in
    let z = ne_eqb c.number_after-number.result 0 c.if-number-ne0.true in
    let r = given (network a.s) a.bus a.delay c.number_after-number.result c.rms_of.result.0 a.table.now a.table.now e (rw z c.rms_of.ensures) (rw z refl) in
    record { number = r.0; figure = r.1.0; table = r.1.1.0; promise = r.1.1.1 }

pub lay_shares-steps-requires : goal.lay_shares-steps-requires
lay_shares-steps-requires c =
    let h = (accepted_room _ _ _ _ (sym c.number_after-number.ensures ∙ c.if-number-ne0.false)).1 in
    rw (← c.source_total.ensures) h

pub amperes_up-requires : goal.amperes_up-requires
amperes_up-requires c =
    let w = c.lay_shares-steps in
    let h = few (goal.at.amperes_up-requires c).Start in
    let l = take c.args.s.source_count c.args.s.sources in
    let k = steps_few (part_at (network c.args.s) c.args.bus c.args.delay) (λ p. part_of_few _ _ _ _ _ _ p) 0 l in
    omega (arith, w.ensures.steps, length-take c.args.s.source_count c.args.s.sources)

pub returns : goal.returns
unfolding figure_after table_after figure_at
returns c =
    let a = c.args in
    let w = c.lay_shares-steps in
    let e : c.number_after-number.result ≡ breaking_number (network a.s) a.bus a.delay (length a.table.now) =
    c.number_after-number.ensures ∙ rw (c.query-found.ensures.number, c.source_total.ensures) (number_in_order (network a.s) a.bus a.delay (length a.table.now)) in
    let z = eq-eqb c.number_after-number.result 0 c.if-number-ne0.false in
    let r = given (network a.s) a.bus a.delay c.number_after-number.result c.add_rms-figure.result.0 a.table.now w.new.table e
    (rw z (c.add_rms-figure.ensures ∙ rw (c.rms_of-machines.ensures, c.amperes_up.ensures, w.ensures.steps, c.query-found.ensures.amperes))) (rw z w.ensures.table) in
    record { number = r.0; figure = r.1.0; table = r.1.1.0; promise = r.1.1.1 }
