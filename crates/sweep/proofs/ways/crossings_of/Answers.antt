use Rattle.std.specs.Prelude.{◌<◌, ◌≡◌, refl}
use Rattle.std.proofs.Common.{ap, arith}
use Rattle.enclosure.specs.Doubles.{unity}
use Rattle.tree.specs.Limits.{max_buses}
use Rattle.sweep.specs.declared.ways.Crossing.{Crossing}
use Rattle.sweep.specs.Crossings.{crossings_of}
use Rattle.sweep.specs.laws.Columns.{filled_to_none, filled_to_more, filled_to_column}
use Rattle.sweep.proofs.ways.crossings_of.Invariants.{branch_of}
use Rattle.sweep.proofs.ways.crossings_of.Goals as goal

pub loop-i-init : goal.loop-i-init
loop-i-init c =
    let a = c.args in
    let f = branch_of a.above.now a.below.now a.z_re.now a.z_im.now a.down_re.now a.down_im.now a.up_re.now a.up_im.now in (
      omega arith,
      (
        filled_to_none unity (λ k. (f k).divider_up) _ refl,
        (filled_to_none unity (λ k. (f k).divider_down) _ refl, (filled_to_none unity (λ k. (f k).ratio_up) _ refl, filled_to_none unity (λ k. (f k).ratio_down) _ refl)),
      ),
    )

pub bounds-divider_up-i : goal.bounds-divider_up-i
bounds-divider_up-i c = omega arith

pub bounds-divider_down-i : goal.bounds-divider_down-i
bounds-divider_down-i c = omega arith

pub bounds-ratio_up-i : goal.bounds-ratio_up-i
bounds-ratio_up-i c = omega arith

pub bounds-ratio_down-i : goal.bounds-ratio_down-i
bounds-ratio_down-i c = omega arith

pub overflow_add-i : goal.overflow_add-i
overflow_add-i c = omega arith

pub loop-i-smaller : goal.loop-i-smaller
loop-i-smaller c = omega arith

pub loop-i-preserved : goal.loop-i-preserved
loop-i-preserved c =
    let l = c.loop-i in
    let a = c.args in
    let f = branch_of a.above.now a.below.now a.z_re.now a.z_im.now a.down_re.now a.down_im.now a.up_re.now a.up_im.now in
    let e : c.crossing_at-c.result ≡ f l.i = rw (← c.point_at-z.ensures, ← c.point_at-down.ensures, ← c.point_at-up.ensures) c.crossing_at-c.ensures in
    let m : l.i < max_buses = omega arith in (
      omega arith,
      (
        filled_to_more unity (λ k. (f k).divider_up) l.divider_up l.i _ m (ap (λ (x : Crossing). x.divider_up) e) l.invariant.1.0,
        (
          filled_to_more unity (λ k. (f k).divider_down) l.divider_down l.i _ m (ap (λ (x : Crossing). x.divider_down) e) l.invariant.1.1.0,
          (
            filled_to_more unity (λ k. (f k).ratio_up) l.ratio_up l.i _ m (ap (λ (x : Crossing). x.ratio_up) e) l.invariant.1.1.1.0,
            filled_to_more unity (λ k. (f k).ratio_down) l.ratio_down l.i _ m (ap (λ (x : Crossing). x.ratio_down) e) l.invariant.1.1.1.1,
          ),
        ),
      ),
    )

pub returns : goal.returns
unfolding crossings_of
returns c =
    let l = c.loop-i in
    let a = c.args in
    let f = branch_of a.above.now a.below.now a.z_re.now a.z_im.now a.down_re.now a.down_im.now a.up_re.now a.up_im.now in
    let e : l.i ≡ c.clamped-m.result = omega arith in
    rw (← c.clamped-m.ensures, ← e)
    (rw (← filled_to_column unity (λ k. (f k).divider_up) l.divider_up l.i l.invariant.1.0, ← filled_to_column unity (λ k. (f k).divider_down) l.divider_down l.i l.invariant.1.1.0, ← filled_to_column unity (λ k. (f k).ratio_up) l.ratio_up l.i l.invariant.1.1.1.0, ← filled_to_column unity (λ k. (f k).ratio_down) l.ratio_down l.i l.invariant.1.1.1.1))
