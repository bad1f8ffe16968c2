-- `drive` calculates its definition. Assumes nothing.
use Rattle.std.specs.Prelude.{ℕ, ◌*◌, ◌^◌, ◌≤◌, ◌<◌}
use Rattle.std.proofs.Common.{le_trans, le_of_lt, mul-le-mul, arith, lit≤, le→leb, rules}
use Rattle.std.specs.Float.Ieee.{in_float}
use Rattle.tree.specs.Ways.{drive_by}
use Rattle.elements.specs.laws.FactorSizes.{factor_c_sized}
use Rattle.breaking.proofs.parts.drive.Goals as goal

small : (c volts : ℕ) → c ≤ 110 → volts < 2 ^ 32 → c * volts ≤ 110 * 2 ^ 32
small c volts h k = mul-le-mul h (le_of_lt k)

pub overflow_mul-v : goal.overflow_mul-v
overflow_mul-v c = let h = small c.voltage_factor-c.result c.args.volts (rw c.voltage_factor-c.ensures (factor_c_sized _ _).1) (search rules) in record { fits = omega arith }

pub int_to_float-v : goal.int_to_float-v
unfolding in_float
int_to_float-v c = le→leb _ (2 ^ 53) (le_trans (small c.voltage_factor-c.result c.args.volts (rw c.voltage_factor-c.ensures (factor_c_sized _ _).1) (search rules)) (lit≤ tt))

pub returns : goal.returns
unfolding drive_by
returns c = rw c.voltage_factor-c.ensures
