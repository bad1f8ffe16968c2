-- `enclosure::size_below` computes its definition. Assumes nothing.
use Rattle.std.proofs.Common.{ℕ, ◌*◌, ◌^◌, ◌<◌, ◌≤◌, le_trans, le_of_lt, mul-le-mul, arith, lit≤, le→leb, rules}
use lib.Ieee.{in_float}
use Rattle.enclosure.specs.Doubles.{size_below}
use Rattle.enclosure.proofs.size_below.Goals as goal

small : (p m : ℕ) → p < 65536 → m < 2 ^ 32 → p * m ≤ 65536 * 2 ^ 32
small p m h k = mul-le-mul (le_of_lt h) (le_of_lt k)

pub overflow_mul-over : goal.overflow_mul-over
overflow_mul-over c = let h = small c.wide.result c.args.margin c.wide.ensures.1 (search rules) in record { fits = omega arith }

pub int_to_float-t : goal.int_to_float-t
unfolding in_float
int_to_float-t c = let b = c in le→leb _ (2 ^ 53) (le_trans (small b.wide.result b.args.margin b.wide.ensures.1 (search rules)) (lit≤ tt))

pub int_to_float-t-2 : goal.int_to_float-t-2
unfolding in_float
int_to_float-t-2 c = let h : c.wide-under.result < 65536 = c.wide-under.ensures.1 in le→leb (c.wide-under.result * 1073741824) (2 ^ 53) (omega arith)

pub returns : goal.returns
unfolding size_below
returns c = let b = c in rw (c.root_below.ensures, b.wide-under.ensures.0, b.wide.ensures.0)
