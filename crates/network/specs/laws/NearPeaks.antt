-- Whatever gives the amperes that Query defines has peaks as near as NearPeaks says. Assumes nothing.
use Rattle.std.specs.Prelude.{ℕ, ◌<◌, ◌≡◌, true, length}
use Rattle.network.specs.declared.query.Found.{Found}
use Rattle.network.specs.Network.{Network}
use Rattle.network.specs.laws.Rebuilt.{Rebuilt, run_rebuilt}
use Rattle.network.specs.laws.AcceptedRecords.{closed_source}
use Rattle.network.specs.Query.{amperes_given}
use Rattle.network.specs.NearPeaks.{NearPeaks, NearPromise}
use Rattle.network.specs.laws.Claim.{near_peaks}
use Rattle.network.specs.laws.Promise.{amperes_given_law}

-- the amperes that Query defines keep it, for every closed network with the invariant
pub near_kept : {n : Network} → Rebuilt n → n.closed ≡ true → (b : ℕ) → b < length n.buses → NearPeaks n b (amperes_given n b)
near_kept {n} r c b l = rw (amperes_given_law n b c l) (near_peaks r (closed_source r c) b l)

-- and so whatever gives them keeps the promise
pub near_promised : (n : Network) (b : ℕ) (f : Found) → f.amperes ≡ amperes_given n b → NearPromise n b f
near_promised n b f e cs q c l = rw e (near_kept (rw q (run_rebuilt cs)) c b l)
