-- `elements::impedances::generator` computes its definition. Assumes nothing.
use Rattle.std.specs.Prelude.{max}
use Rattle.std.proofs.Common.{mul-le-mul, arith, le-leb}
use Rattle.std.proofs.lemmas.Bool.{lt-leb}
use Rattle.elements.specs.laws.FactorSizes.{saturation_most}
use Rattle.elements.specs.Doubles.{generator_by}
use Rattle.elements.proofs.impedances.generator.Goals as goal

pub returns-then-xd-gt100000 : goal.returns-then-xd-gt100000
unfolding generator_by
returns-then-xd-gt100000 c = rw (c.nothing.ensures, lt-leb c.args.xd 100000 c.if-xd-gt100000.true)

pub returns-then-rho-gt200 : goal.returns-then-rho-gt200
unfolding generator_by
returns-then-rho-gt200 c = let s = c in rw (c.nothing-then-rho-gt200.ensures, le-leb s.args.xd 100000 c.if-xd-gt100000.false, lt-leb s.args.rho 200 c.if-rho-gt200.true)

pub overflow_mul-xd : goal.overflow_mul-xd
overflow_mul-xd c = let s = c in record { fits = omega (arith, mul-le-mul c.if-xd-gt100000.false c.if-rho-gt200.false) }

pub overflow_mul-xd-3 : goal.overflow_mul-xd-3
overflow_mul-xd-3 c = record { fits = rw c.sine.ensures (omega (arith, saturation_most c.args.xd (max c.args.power_factor 70) c.if-xd-gt100000.false)) }

pub overflow_add-xd : goal.overflow_add-xd
overflow_add-xd c = record { fits = rw c.sine.ensures (omega (arith, saturation_most c.args.xd (max c.args.power_factor 70) c.if-xd-gt100000.false)) }

pub returns : goal.returns
unfolding generator_by
returns c = let s = c in rw (c.scale-2.ensures, c.sine.ensures, c.voltage_factor-c.ensures, c.scale-z.ensures, c.scale.ensures, c.of.ensures, le-leb s.args.xd 100000 s.if-xd-gt100000.false, le-leb s.args.rho 200 s.if-rho-gt200.false)
