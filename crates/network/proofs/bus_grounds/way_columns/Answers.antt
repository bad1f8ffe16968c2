use Rattle.std.specs.Prelude.{◌≡◌, refl}
use Rattle.std.proofs.Common.{arith}
use Rattle.sweep.specs.laws.Columns.{filled_to_none, filled_to_more}
use Rattle.network.proofs.bus_grounds.way_columns.Goals as goal

pub loop-k-init : goal.loop-k-init
loop-k-init c = (omega arith, (filled_to_none 0 _ _ refl, filled_to_none 0 _ _ refl))

pub bounds-buses-k : goal.bounds-buses-k
bounds-buses-k c = omega arith

pub bounds-parents-k : goal.bounds-parents-k
bounds-parents-k c = omega arith

pub bounds-kinds-k : goal.bounds-kinds-k
bounds-kinds-k c = omega arith

pub overflow_add-k : goal.overflow_add-k
overflow_add-k c = omega arith

pub loop-k-smaller : goal.loop-k-smaller
loop-k-smaller c = omega arith

pub loop-k-preserved : goal.loop-k-preserved
loop-k-preserved c =
    let l = c.loop-k in
    (omega arith, (filled_to_more 0 _ l.parents l.k _ (omega arith) refl l.invariant.1.0, filled_to_more 0 _ l.kinds l.k _ (omega arith) refl l.invariant.1.1))

pub returns : goal.returns
returns c = let e : c.loop-k.k ≡ c.args.n = omega arith in record { parents = rw (← e) c.loop-k.invariant.1.0; kinds = rw (← e) c.loop-k.invariant.1.1 }
