-- `elements::impedances::split` computes its definition. Assumes nothing.
use Rattle.std.proofs.Common.{arith, le-leb}
use Rattle.std.proofs.Math.Nat.{min-eq_left}
use Rattle.std.proofs.lemmas.Bool.{lt-leb}
use Rattle.elements.specs.laws.FactorSizes.{split_re_most, split_im_most}
use Rattle.elements.specs.Doubles.{split_by}
use Rattle.elements.proofs.impedances.split.Goals as goal

pub returns-then-rho-gt200 : goal.returns-then-rho-gt200
unfolding split_by
returns-then-rho-gt200 c = rw (c.nothing.ensures, lt-leb c.args.rho 200 c.if-rho-gt200.true)

pub overflow_mul-f : goal.overflow_mul-f
overflow_mul-f c = record { fits = rw (c.split_factor-f.ensures, min-eq_left c.if-rho-gt200.false) (omega (arith, split_re_most c.args.rho)) }

pub overflow_mul-f-2 : goal.overflow_mul-f-2
overflow_mul-f-2 c = record { fits = rw (c.split_factor-f.ensures, min-eq_left c.if-rho-gt200.false) (omega (arith, split_im_most c.args.rho)) }

pub returns : goal.returns
unfolding split_by
returns c = let s = c in rw (c.of.ensures, c.split_factor-f.ensures, min-eq_left s.if-rho-gt200.false, le-leb s.args.rho 200 s.if-rho-gt200.false)
