-- `elements::impedances::transformer` computes its definition. Assumes nothing.
use Rattle.std.proofs.Common.{arith, le-leb}
use Rattle.std.proofs.lemmas.Bool.{lt-leb}
use Rattle.elements.specs.laws.FactorSizes.{factor_c_sized, ux_few}
use Rattle.elements.specs.Doubles.{transformer_by}
use Rattle.elements.proofs.impedances.transformer.Goals as goal

pub returns-then-uk-gt30000 : goal.returns-then-uk-gt30000
unfolding transformer_by
returns-then-uk-gt30000 c = rw (c.nothing.ensures, lt-leb c.args.uk 30000 c.if-uk-gt30000.true)

pub returns-then-uk-ur : goal.returns-then-uk-ur
unfolding transformer_by
returns-then-uk-ur c =
    let s = c in
    rw (c.nothing-then-uk-ur.ensures, le-leb s.args.uk 30000 c.if-uk-gt30000.false, lt-leb s.args.ur s.args.uk c.if-uk-ur.true)

pub overflow_cast-uk : goal.overflow_cast-uk
overflow_cast-uk c = record { fits = omega (arith, c.if-uk-gt30000.false) }

pub overflow_cast-ur : goal.overflow_cast-ur
overflow_cast-ur c = record { fits = omega (arith, c.if-uk-gt30000.false, c.if-uk-ur.false) }

pub overflow_mul-ur : goal.overflow_mul-ur
overflow_mul-ur c = record { fits = omega (arith, c.if-uk-gt30000.false, c.if-uk-ur.false) }

pub overflow_mul-c : goal.overflow_mul-c
overflow_mul-c c =
    let s = c in
    record { fits = rw c.voltage_factor-c.ensures (omega (arith, (factor_c_sized s.args.tolerance s.args.lower).1)) }

pub overflow_mul-ux : goal.overflow_mul-ux
overflow_mul-ux c =
    let s = c in
    record { fits = rw c.reactance-ux.ensures (omega (arith, ux_few s.args.uk s.args.ur c.if-uk-gt30000.false)) }

pub overflow_add-ux : goal.overflow_add-ux
overflow_add-ux c =
    let s = c in
    record { fits = rw c.reactance-ux.ensures (omega (arith, ux_few s.args.uk s.args.ur c.if-uk-gt30000.false)) }

pub returns : goal.returns
unfolding transformer_by
returns c =
    let s = c in
    rw (
      c.scale-2.ensures,
      c.scale-z.ensures,
      c.scale.ensures,
      c.of.ensures,
      c.voltage_factor-c.ensures,
      c.reactance-ux.ensures,
      le-leb s.args.uk 30000 c.if-uk-gt30000.false,
      le-leb s.args.ur s.args.uk c.if-uk-ur.false,
    )
