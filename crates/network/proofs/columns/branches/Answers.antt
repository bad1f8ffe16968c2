use Rattle.std.specs.Prelude.{◌≡◌, refl, ◌≤◌, ◌<◌, length, take}
use Rattle.std.specs.Float.{nan}
use Rattle.std.proofs.Common.{sym, ◌∙◌, ap, length-take, arith, rules}
use Rattle.enclosure.specs.declared.Complex.{Complex}
use Rattle.network.specs.declared.study.Bus.{Bus}
use Rattle.tree.specs.Limits.{max_buses}
use Rattle.network.specs.Network.{bus_at, blank}
use Rattle.network.specs.Doubles.{branch_by, tree_of, branch_points}
use Rattle.network.specs.laws.Bridge.{number_all}
use Rattle.network.proofs.Filling.{filled_none, filled_more, filled_column}
use Rattle.network.proofs.Lists.{length_mapped, read_counted, count_most}
use Rattle.network.proofs.columns.branches.Invariants.{branch_of}
use Rattle.network.proofs.columns.branches.Goals as goal

pub loop-i-init : goal.loop-i-init
unfolding branch_by
loop-i-init c =
    let a = c.args in
    let f = branch_of a.tolerance (take a.n a.buses) in
    (omega arith, (filled_none (λ (b : Bus). (f b).re) blank nan _ refl, filled_none (λ (b : Bus). (f b).im) blank nan _ refl))

pub bounds-buses-i : goal.bounds-buses-i
bounds-buses-i c = omega arith

pub bounds-re-i : goal.bounds-re-i
bounds-re-i c = omega arith

pub bounds-im-i : goal.bounds-im-i
bounds-im-i c = omega arith

pub overflow_add-i : goal.overflow_add-i
overflow_add-i c = omega arith

pub loop-i-smaller : goal.loop-i-smaller
loop-i-smaller c = omega arith

pub loop-i-preserved : goal.loop-i-preserved
unfolding tree_of
loop-i-preserved c =
    let l = c.loop-i in
    let a = c.args in
    let h : length a.buses ≡ max_buses = search (rules, length_mapped) in
    let k = take a.n a.buses in
    let m : l.i < length k = omega (arith, length-take a.n a.buses) in
    let f = branch_of a.tolerance k in
    let b = bus_at a.buses l.i in
    let v : c.number_at-parent_volts.result ≡ (bus_at k b.parent).volts = c.number_at-parent_volts.ensures ∙ rw c.requires (number_all (λ (b : Bus). b.volts) k refl (count_most max_buses a.n a.buses h) b.parent) in
    let e : c.branch_impedance-z.result ≡ f (bus_at k l.i) = c.branch_impedance-z.ensures (bus_at k b.parent) (sym v) ∙ ap f (read_counted max_buses a.n a.buses h l.i blank m) in (
      omega arith,
      (
        filled_more (λ (b : Bus). (f b).re) blank nan k l.re l.i c.branch_impedance-z.result.re m (omega arith) (ap (λ (z : Complex). z.re) e) l.invariant.1.0,
        filled_more (λ (b : Bus). (f b).im) blank nan k l.im l.i c.branch_impedance-z.result.im m (omega arith) (ap (λ (z : Complex). z.im) e) l.invariant.1.1,
      ),
    )

pub returns : goal.returns
unfolding branch_points
returns c =
    let l = c.loop-i in
    let a = c.args in
    let k = take a.n a.buses in
    let m : length k ≤ l.i = omega (arith, length-take a.n a.buses) in
    let f = branch_of a.tolerance k in
    rw (filled_column (λ (b : Bus). (f b).re) blank nan k l.re l.i m l.invariant.1.0, filled_column (λ (b : Bus). (f b).im) blank nan k l.im l.i m l.invariant.1.1)
