-- `weigh` calculates its definition. Assumes nothing.
use Rattle.std.proofs.Common.{arith}
use Rattle.breaking.specs.laws.Tables.{weighed_few}
use Rattle.breaking.proofs.parts.weigh.Goals as goal

pub overflow_mul-result : goal.overflow_mul-result
overflow_mul-result c = let h = (weighed_few c.args.w c.args.steps c.requires.w_bound c.requires.steps_bound).0 in record { fits = omega arith }

pub overflow_add-result : goal.overflow_add-result
overflow_add-result c = let h = (weighed_few c.args.w c.args.steps c.requires.w_bound c.requires.steps_bound).0 in record { fits = omega arith }
