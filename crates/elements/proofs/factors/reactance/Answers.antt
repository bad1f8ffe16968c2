-- `elements::factors::reactance` meets its contract. A million times the product of two numbers of 16 bits fits 64.
-- Assumes nothing.
use Rattle.std.proofs.Common.{sym, arith, mul-le-mul, lt_of_le_of_lt, lit<, rules}
use Rattle.elements.specs.Factors.{ux_of}
use Rattle.elements.specs.laws.Factors.{ux_none, product_most, root_fits}
use Rattle.elements.proofs.factors.reactance.Goals as goal

pub returns-then-uk-ur : goal.returns-then-uk-ur
returns-then-uk-ur c = sym (ux_none c.args.uk c.args.ur c.if-uk-ur.true)

pub overflow_mul-k : goal.overflow_mul-k
overflow_mul-k c = record { fits = lt_of_le_of_lt (product_most (search rules) (search rules)) (lit< tt) }

pub overflow_mul-r : goal.overflow_mul-r
overflow_mul-r c = record { fits = lt_of_le_of_lt (product_most (search rules) (search rules)) (lit< tt) }

pub overflow_sub-k : goal.overflow_sub-k
overflow_sub-k c = mul-le-mul (search rules) (search rules)

pub overflow_mul-k-2 : goal.overflow_mul-k-2
overflow_mul-k-2 c = record { fits = omega (arith, product_most c.ranges.uk.fits c.ranges.uk.fits) }

pub overflow_cast-result : goal.overflow_cast-result
overflow_cast-result c =
    record { fits = root_fits c.root.ensures (omega (arith, product_most c.ranges.uk.fits c.ranges.uk.fits)) }

pub returns : goal.returns
unfolding ux_of
returns c = c.root.ensures
