use Rattle.std.proofs.Common.{refl, arith}
use Rattle.enclosure.specs.Exact.{root_of}
use Rattle.enclosure.specs.laws.Root.{root_more, root_same, quarter_below, square_fits}
use Rattle.enclosure.proofs.roots.+root_by_digits.Goals as goal

pub returns-then-x-eq0 : goal.returns-then-x-eq0
unfolding root_of
returns-then-x-eq0 t c = rw c.if-x-eq0.true refl

pub root_by_digits-r-requires : goal.root_by_digits-r-requires
root_by_digits-r-requires t c = (omega arith, tt)

pub overflow_mul-r : goal.overflow_mul-r
overflow_mul-r t c = record { fits = omega (arith, quarter_below c.args.x c.root_by_digits-r.result c.root_by_digits-r.ensures c.ranges.x.fits) }

pub overflow_add-r : goal.overflow_add-r
overflow_add-r t c = record { fits = omega (arith, quarter_below c.args.x c.root_by_digits-r.result c.root_by_digits-r.ensures c.ranges.x.fits) }

pub overflow_add-r-2 : goal.overflow_add-r-2
overflow_add-r-2 t c = record { fits = omega (arith, quarter_below c.args.x c.root_by_digits-r.result c.root_by_digits-r.ensures c.ranges.x.fits) }

pub overflow_mul-r-2 : goal.overflow_mul-r-2
overflow_mul-r-2 t c = record { fits = square_fits c.root_by_digits-r.result (quarter_below c.args.x c.root_by_digits-r.result c.root_by_digits-r.ensures c.ranges.x.fits) }

pub overflow_add-result : goal.overflow_add-result
overflow_add-result t c = record { fits = omega (arith, quarter_below c.args.x c.root_by_digits-r.result c.root_by_digits-r.ensures c.ranges.x.fits) }

pub returns-then-r-x : goal.returns-then-r-x
returns-then-r-x t c = root_more c.args.x c.root_by_digits-r.result c.root_by_digits-r.ensures c.if-r-x.true

pub returns-else-r-x : goal.returns-else-r-x
returns-else-r-x t c = root_same c.args.x c.root_by_digits-r.result c.root_by_digits-r.ensures c.if-r-x.false
