-- Whole bounds stay at most 2 ^ 53, whatever they bound.
use Rattle.std.specs.Prelude.{Bool, true, false, cond, ℕ, ◌+◌, ◌^◌, ◌≤◌}
use Rattle.std.proofs.Common.{arith}
use Rattle.enclosure.specs.declared.Complex.{Complex}
use Rattle.enclosure.specs.Doubles.{empty, size_below, lower_of, upper_of}
use Rattle.enclosure.specs.laws.Climb.{size_small}
use Rattle.elements.specs.Doubles.{machine_peak_by, converter_peak_by}

cond_most : (t : Bool) (n m : ℕ) → n ≤ m → cond t 0 n ≤ m
cond_most true n m h = omega arith
cond_most false n m h = h

pub lower_most : (p q : ℕ) (z : Complex) → lower_of p q z ≤ 2 ^ 53
unfolding lower_of
lower_most p q z = cond_most (empty z) (size_below 1073741823 p q z) (2 ^ 53) (omega (arith, size_small 1073741823 p q z))

pub upper_most : (p q : ℕ) (z : Complex) → upper_of p q z ≤ 2 ^ 53
unfolding upper_of
upper_most p q z = cond_most (empty z) (size_below 1073741825 p q z + 1) (2 ^ 53) (omega (arith, size_small 1073741825 p q z))

pub machine_peak_most : (c volts : ℕ) (y : Complex) → machine_peak_by c volts y ≤ 2 ^ 53
unfolding machine_peak_by
machine_peak_most c volts y = upper_most 2 3 _

pub converter_peak_most : (x : Complex) → converter_peak_by x ≤ 2 ^ 53
unfolding converter_peak_by
converter_peak_most x = upper_most 2 1 _
