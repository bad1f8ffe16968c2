use Rattle.std.specs.Prelude.{◌≡◌, refl, ◌≤◌, ◌<◌, length, take}
use Rattle.std.proofs.Common.{◌∙◌, ap, length-take, arith, rules}
use Rattle.tree.specs.Limits.{max_buses}
use Rattle.network.specs.Network.{blank}
use Rattle.network.specs.Grid.{above_of, below_of}
use Rattle.network.specs.Doubles.{tree_of}
use Rattle.network.proofs.Filling.{filled_none, filled_more, filled_column}
use Rattle.network.proofs.Lists.{length_mapped, read_counted}
use Rattle.network.proofs.columns.tree_of.Invariants.{nominal, parent}
use Rattle.network.proofs.columns.tree_of.Goals as goal

pub loop-i-init : goal.loop-i-init
unfolding above_of below_of
loop-i-init c =
    (omega arith, (filled_none parent blank 0 _ refl, (filled_none above_of blank 0 _ refl, (filled_none below_of blank 0 _ refl, filled_none nominal blank 0 _ refl))))

pub bounds-buses-i : goal.bounds-buses-i
bounds-buses-i c = omega arith

pub bounds-parents-i : goal.bounds-parents-i
bounds-parents-i c = omega arith

pub bounds-above-i : goal.bounds-above-i
bounds-above-i c = omega arith

pub bounds-below-i : goal.bounds-below-i
bounds-below-i c = omega arith

pub bounds-volts-i : goal.bounds-volts-i
bounds-volts-i c = omega arith

pub overflow_add-i : goal.overflow_add-i
overflow_add-i c = omega arith

pub loop-i-smaller : goal.loop-i-smaller
loop-i-smaller c = omega arith

pub loop-i-preserved : goal.loop-i-preserved
unfolding above_of below_of
loop-i-preserved c =
    let l = c.loop-i in
    let a = c.args in
    let h : length a.buses ≡ max_buses = search (rules, length_mapped) in
    let k = take a.n a.buses in
    let m : l.i < length k = omega (arith, length-take a.n a.buses) in
    let e = read_counted max_buses a.n a.buses h l.i blank m in
    let v = l.invariant.1 in (
      omega arith,
      (
        filled_more parent blank 0 k l.parents l.i _ m (omega arith) (ap parent e) v.0,
        (
          filled_more above_of blank 0 k l.above l.i _ m (omega arith) (c.rated_volts.ensures ∙ ap above_of e) v.1.0,
          (
            filled_more below_of blank 0 k l.below l.i _ m (omega arith) (c.rated_volts-in-loop-i.ensures ∙ ap below_of e) v.1.1.0,
            filled_more nominal blank 0 k l.volts l.i _ m (omega arith) (ap nominal e) v.1.1.1,
          ),
        ),
      ),
    )

pub returns : goal.returns
unfolding tree_of
returns c =
    let l = c.loop-i in
    let a = c.args in
    let k = take a.n a.buses in
    let m : length k ≤ l.i = omega (arith, length-take a.n a.buses) in
    let v = l.invariant.1 in
    rw (filled_column parent blank 0 k l.parents l.i m v.0, filled_column above_of blank 0 k l.above l.i m v.1.0, filled_column below_of blank 0 k l.below l.i m v.1.1.0, filled_column nominal blank 0 k l.volts l.i m v.1.1.1)
