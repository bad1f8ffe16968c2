-- What C is given back of many queries: one figure that depends on each of them.
use Rattle.std.specs.Prelude.{◌≡◌, ℕ, zero, suc, ◌+◌, ◌%◌, false, pos, Float}
use Rattle.std.proofs.Common.{add-one}
use Rattle.std.specs.Float.{fin, binary64}
use Rattle.std.specs.Float.Ieee.{add}
use Rattle.network.specs.declared.query.Amperes.{Amperes}
use Rattle.network.specs.Network.{Network}
use Rattle.network.specs.Query.{amperes_given}

-- the six figures of an answer, added up in f64
abbrev pub sum_of : Amperes → Float
sum_of a = add binary64 (add binary64 (add binary64 (add binary64 (add binary64 a.lower.0 a.upper.0) a.peak.0) a.converters_lower.0) a.converters_upper.0) a.converters_peak.0

-- those that k queries give, going round over the buses 0 to n - 1
unfoldable pub sums_of : Network → ℕ → ℕ → Float
sums_of net n zero = fin false 0 (pos 0)
sums_of net n (suc k) = add binary64 (sums_of net n k) (sum_of (amperes_given net (k % n)))

pub sums_more : (net : Network) (n k : ℕ) → sums_of net n (k + 1) ≡ add binary64 (sums_of net n k) (sum_of (amperes_given net (k % n)))
unfolding sums_of
sums_more net n k = rw add-one
