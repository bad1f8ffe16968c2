-- `enclosure::roots::guess` is safe: what is turned into bits is no NaN, what bits are turned into is none, and what is cut is in range.
-- Assumes nothing.
use Rattle.std.proofs.Common.{◌≡◌, ℕ, ◌/◌, ◌%◌, ◌<◌, true, not, T, sym, subst, true≢false, arith, ne_eqb}
use lib.Ieee.{Float, nan, inf, fin, binary64, of_bits, neg, le, is_nan, nan_bits}
use Rattle.enclosure.proofs.roots.guess.Goals as goal

no_nan : (a m : Float) → le a m ≡ true → T (not (is_nan m))
unfolding le is_nan
no_nan nan nan h = absurd (true≢false (sym h))
no_nan (inf s) nan h = absurd (true≢false (sym h))
no_nan (fin s n e) nan h = absurd (true≢false (sym h))
no_nan a (inf s) h = tt
no_nan a (fin s n e) h = tt

-- the exponent's field is not all ones
no-nan-bits : (b : ℕ) → b < 0x7FF0_0000_0000_0000 → T (not (nan_bits binary64 b))
unfolding nan_bits
no-nan-bits b h = rw (ne_eqb (b % 0x8000_0000_0000_0000 / 0x10_0000_0000_0000) 2047 (omega arith)) tt

pub float_to_bits-bits : goal.float_to_bits-bits
float_to_bits-bits c = no_nan (of_bits binary64 0x3FF0_0000_0000_0000) c.args.m c.if-m.true

pub float_from_bits-x : goal.float_from_bits-x
float_from_bits-x c = no-nan-bits _ (omega arith)

pub truncating_f64_to_u64-requires : goal.truncating_f64_to_u64-requires
unfolding of_bits neg
truncating_f64_to_u64-requires c = record { lower_bound = subst T (sym c.if-w.true) tt; upper_bound = subst T (sym c.if-w-2.true) tt }
