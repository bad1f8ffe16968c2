-- `board_of` makes the board of Doubles: the equations of the functions that it calls, put together.
use Rattle.std.specs.Prelude.{◌≡◌, min, length, take}
use Rattle.std.proofs.Common.{ap, arith, length-take, rules}
use Rattle.network.specs.declared.columns.TreeColumns.{TreeColumns}
use Rattle.tree.specs.Limits.{max_buses}
use Rattle.network.proofs.Lists.{length_mapped}
use Rattle.network.specs.Doubles.{board_of}
use Rattle.network.proofs.board.board_of.Goals as goal
use Rattle.network.proofs.board.board_of.Goals.{Start}

pub branches-z-requires : goal.branches-z-requires
branches-z-requires c = ap (λ (t : TreeColumns). t.volts) c.tree_of-tree.ensures

whole : (c : Start) → length c.args.buses ≡ max_buses
whole c = search (rules, length_mapped)

pub returns : goal.returns
unfolding board_of
returns c =
    let t = c in
    let k = t in
    let a = k.args in
    let h = whole (goal.at.returns c).Start in
    let e : k.clamped-count.result ≡ length (take a.n a.buses) = omega (arith, k.clamped-count.ensures, length-take a.n a.buses) in
    let q : min k.clamped-count.result max_buses ≡ length (take a.n a.buses) = omega (arith, e, length-take a.n a.buses) in
    rw (c.gathered_at_root-gathered.ensures, c.sweep_down-falls.ensures, c.sweep_up-rises.ensures, c.standing_of-standing.ensures, c.branches-z.ensures, t.tree_of-tree.ensures, q, e)
