-- `elements::impedances::station_unit` computes its definition. Assumes nothing.
use Rattle.std.specs.Prelude.{ℕ, ◌+◌, ◌*◌, ◌^◌, ◌≤◌, max, min, ◌≡◌}
use Rattle.std.proofs.Common.{arith, le-leb}
use Rattle.std.proofs.Math.Nat.{min-eq_left}
use Rattle.std.proofs.lemmas.Bool.{lt-leb}
use Rattle.elements.specs.Factors.{factor_c, sine_of, ux_of}
use Rattle.elements.specs.Impedance.{apart}
use Rattle.elements.specs.laws.FactorSizes.{factor_c_sized, unit_saturation_most}
use Rattle.elements.specs.Doubles.{station_unit_by}
use Rattle.elements.proofs.impedances.station_unit.Goals as goal

-- K_S is of numbers that f64 has
factor-fits : (tolerance volts : ℕ) → min (factor_c tolerance volts) (2 ^ 53) ≡ factor_c tolerance volts
factor-fits tolerance volts = min-eq_left (omega (arith, (factor_c_sized tolerance volts).1))

saturation-fits : (xd uk u_r p : ℕ) → xd ≤ 100000 → uk ≤ 30000
    → min (1000000000000 + apart (1000 * xd) (ux_of uk u_r) * sine_of p) (2 ^ 53) ≡ 1000000000000 + apart (1000 * xd) (ux_of uk u_r) * sine_of p
saturation-fits xd uk u_r p h k = min-eq_left (omega (arith, unit_saturation_most xd uk u_r p h k))

pub returns-then-xd-gt100000 : goal.returns-then-xd-gt100000
unfolding station_unit_by
returns-then-xd-gt100000 c = rw (c.nothing.ensures, lt-leb c.args.xd 100000 c.if-xd-gt100000.true)

pub returns-then-uk-gt30000 : goal.returns-then-uk-gt30000
unfolding station_unit_by
returns-then-uk-gt30000 c =
    let s = c in
    rw (c.nothing-then-uk-gt30000.ensures, le-leb s.args.xd 100000 c.if-xd-gt100000.false, lt-leb s.args.uk 30000 c.if-uk-gt30000.true)

pub returns-then-uk-ur : goal.returns-then-uk-ur
unfolding station_unit_by
returns-then-uk-ur c =
    let s = c in
    rw (
      c.nothing-then-uk-ur.ensures,
      le-leb s.args.xd 100000 c.if-xd-gt100000.false,
      le-leb s.args.uk 30000 c.if-uk-gt30000.false,
      lt-leb s.args.ur s.args.uk c.if-uk-ur.true,
    )

pub overflow_cast-uk : goal.overflow_cast-uk
overflow_cast-uk c = record { fits = omega (arith, c.if-uk-gt30000.false) }

pub overflow_cast-ur : goal.overflow_cast-ur
overflow_cast-ur c = record { fits = omega (arith, c.if-uk-gt30000.false, c.if-uk-ur.false) }

pub overflow_mul-xd : goal.overflow_mul-xd
overflow_mul-xd c = record { fits = omega (arith, c.if-xd-gt100000.false) }

pub overflow_mul-ur : goal.overflow_mul-ur
overflow_mul-ur c = record { fits = omega (arith, c.if-uk-gt30000.false, c.if-uk-ur.false) }

pub returns : goal.returns
unfolding station_unit_by
returns c =
    let s = c in
    rw (
      c.scale_wide.ensures,
      c.saturation.ensures,
      c.voltage_factor-c.ensures,
      c.scale-z.ensures,
      c.scale-3.ensures,
      c.add-parts.ensures,
      c.scale-transformer_part.ensures,
      c.scale-2.ensures,
      c.of-2.ensures,
      c.scale-generator_part.ensures,
      c.scale.ensures,
      c.of.ensures,
      c.reactance-ux.ensures,
      factor-fits s.args.tolerance s.args.volts,
      saturation-fits s.args.xd s.args.uk s.args.ur (max s.args.power_factor 70) c.if-xd-gt100000.false c.if-uk-gt30000.false,
      le-leb s.args.xd 100000 c.if-xd-gt100000.false,
      le-leb s.args.uk 30000 c.if-uk-gt30000.false,
      le-leb s.args.ur s.args.uk c.if-uk-ur.false,
    )
