use Rattle.std.specs.Prelude.{◌<◌, ◌≡◌, refl}
use Rattle.std.proofs.Common.{arith}
use Rattle.std.specs.Float.Ieee.{nan_bits}
use Rattle.enclosure.specs.Doubles.{unity, nought, faintest}
use Rattle.tree.specs.Limits.{max_buses}
use Rattle.tree.specs.Ways.{over_way}
use Rattle.sweep.specs.Points.{number_at}
use Rattle.sweep.specs.Crossings.{factor_at, reach_of}
use Rattle.sweep.specs.laws.Columns.{filled_to_none, filled_to_more, filled_to_column}
use Rattle.sweep.proofs.ways.reach_of.Goals as goal

pub float_from_bits-least : goal.float_from_bits-least
unfolding nan_bits
float_from_bits-least c = tt

pub loop-j-init : goal.loop-j-init
loop-j-init c =
    let a = c.args in (
      omega arith,
      (
        filled_to_none unity (over_way (number_at a.parents.now) (factor_at a.divider_up.now) (factor_at a.divider_down.now) faintest a.b) _ refl,
        filled_to_none unity (over_way (number_at a.parents.now) (factor_at a.ratio_up.now) (factor_at a.ratio_down.now) nought a.b) _ refl,
      ),
    )

pub bounds-dividers-j : goal.bounds-dividers-j
bounds-dividers-j c = omega arith

pub bounds-ratios-j : goal.bounds-ratios-j
bounds-ratios-j c = omega arith

pub overflow_add-j : goal.overflow_add-j
overflow_add-j c = omega arith

pub loop-j-smaller : goal.loop-j-smaller
loop-j-smaller c = omega arith

pub loop-j-preserved : goal.loop-j-preserved
loop-j-preserved c =
    let l = c.loop-j in
    let a = c.args in
    let m : l.j < max_buses = omega arith in (
      omega arith,
      (
        filled_to_more unity (over_way (number_at a.parents.now) (factor_at a.divider_up.now) (factor_at a.divider_down.now) faintest a.b) l.dividers l.j _ m c.over_way.ensures l.invariant.1.0,
        filled_to_more unity (over_way (number_at a.parents.now) (factor_at a.ratio_up.now) (factor_at a.ratio_down.now) nought a.b) l.ratios l.j _ m c.over_way-in-loop-j.ensures l.invariant.1.1,
      ),
    )

pub returns : goal.returns
unfolding reach_of
returns c =
    let l = c.loop-j in
    let a = c.args in
    let e : l.j ≡ c.clamped-m.result = omega arith in
    rw (← c.clamped-m.ensures, ← e)
    (rw (← filled_to_column unity (over_way (number_at a.parents.now) (factor_at a.divider_up.now) (factor_at a.divider_down.now) faintest a.b) l.dividers l.j l.invariant.1.0, ← filled_to_column unity (over_way (number_at a.parents.now) (factor_at a.ratio_up.now) (factor_at a.ratio_down.now) nought a.b) l.ratios l.j l.invariant.1.1))
