-- `elements::impedances::saturation` meets its contract: a sine is at most 10,000. Assumes nothing.
use Rattle.std.specs.Prelude.{ℕ, ◌*◌, ◌≤◌, ◌<◌, max, ◌≡◌}
use Rattle.std.proofs.Common.{arith, mul-le-mul}
use Rattle.elements.specs.Factors.{sine_of}
use Rattle.elements.specs.Impedance.{apart}
use Rattle.elements.specs.laws.Factors.{sine_most}
use Rattle.elements.proofs.impedances.saturation.Goals as goal

-- for any xd and ux of 32 bits
most : {xd ux d s : ℕ} (p : ℕ) → xd < 4294967296 → ux < 4294967296 → d ≡ apart (1000 * xd) ux → s ≡ sine_of (max p 70) → d * s ≤ 4294967296000 * 10000
most {xd} {ux} {d} {s} p h l e f =
    let m : d ≤ 4294967296000 = omega arith in
    let n : s ≤ 10000 = omega (arith, sine_most (max p 70)) in
    mul-le-mul m n

pub overflow_mul-xd : goal.overflow_mul-xd
overflow_mul-xd c = record { fits = omega (arith, c.ranges.xd.fits) }

pub overflow_mul-result : goal.overflow_mul-result
overflow_mul-result c = let s = c in record { fits = omega (arith, most s.args.power_factor s.ranges.xd.fits s.ranges.ux.fits c.difference-d.ensures c.sine.ensures) }

pub overflow_add-result : goal.overflow_add-result
overflow_add-result c = let s = c in record { fits = omega (arith, most s.args.power_factor s.ranges.xd.fits s.ranges.ux.fits c.difference-d.ensures c.sine.ensures) }

pub returns : goal.returns
returns c = rw (c.sine.ensures, c.difference-d.ensures)
