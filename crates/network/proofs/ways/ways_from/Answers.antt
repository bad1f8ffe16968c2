-- `ways_from` gives the ways of Doubles: the equations of the functions that it calls, put together.
use Rattle.std.specs.Prelude.{◌≡◌, min, length, take}
use Rattle.std.proofs.Common.{ap, arith, length-take, rules}
use Rattle.tree.specs.Limits.{max_buses}
use Rattle.network.proofs.Lists.{length_mapped}
use Rattle.network.specs.Network.{network}
use Rattle.network.specs.Doubles.{crossings_by, ways_from}
use Rattle.network.specs.declared.columns.TreeColumns.{TreeColumns}
use Rattle.network.proofs.ways.ways_from.Goals as goal
use Rattle.network.proofs.ways.ways_from.Goals.{After-volts-1, Start}

pub branches-z-requires : goal.branches-z-requires
branches-z-requires c = ap (λ (t : TreeColumns). t.volts) c.tree_of-tree.ensures

whole : (c : Start) → length c.args.s.buses ≡ max_buses
whole c = search (rules, length_mapped)

-- the columns of the branches
crossed : (c : After-volts-1) → c.crossings_of-crossings.result ≡ crossings_by (network c.args.s)
unfolding crossings_by
crossed c =
    let x = c in
    let f = x in
    let r = f in
    let t = r in
    let k = t in
    let a = k in
    let h = (let whole_here : length a.args.s.buses ≡ max_buses = search (rules, length_mapped) in whole_here) in
    let l = take a.args.s.bus_count a.args.s.buses in
    let e : k.clamped-count.result ≡ length l = omega (arith, k.clamped-count.ensures, length-take a.args.s.bus_count a.args.s.buses) in
    let q : min k.clamped-count.result max_buses ≡ length l = omega (arith, e, length-take a.args.s.bus_count a.args.s.buses) in
    rw (x.crossings_of-crossings.ensures, f.sweep_down-falls.ensures, r.sweep_up-rises.ensures, r.standing_of-standing.ensures, r.branches-z.ensures, t.tree_of-tree.ensures, q)

pub returns : goal.returns
unfolding ways_from
returns c =
    let t = c in
    let k = t in
    let a = k in
    let h = whole (goal.at.returns c).Start in
    let l = take a.args.s.bus_count a.args.s.buses in
    let q : min k.clamped-count.result max_buses ≡ length l = omega (arith, k.clamped-count.ensures, length-take a.args.s.bus_count a.args.s.buses) in
    rw (c.reach_of-reach.ensures, crossed c, t.tree_of-tree.ensures, q)
