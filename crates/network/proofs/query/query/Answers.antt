-- `network::query::query` meets its contract: what Query defines keeps the promise. Assumes nothing.
use Rattle.std.specs.Prelude.{◌≡◌}
use Rattle.std.proofs.Common.{ap}
use Rattle.network.specs.declared.query.Found.{Found}
use Rattle.network.specs.Query.{query_number, amperes_given, verdict_given, found_given}
use Rattle.network.specs.Network.{network}
use Rattle.network.specs.laws.Promise.{promised}
use Rattle.network.specs.laws.NearPeaks.{near_promised}
use Rattle.network.proofs.query.query.Goals as goal

pub returns : goal.returns
unfolding found_given
returns c =
    let n = network c.args.s in
    let b = c.args.bus in
    let f = c.given.result in
    let e = c.given.ensures in
    let number : f.number ≡ query_number n b = ap (λ (r : Found). r.number) e in
    let amperes : f.amperes ≡ amperes_given n b = ap (λ (r : Found). r.amperes) e in
    let verdict : f.verdict ≡ verdict_given n b = ap (λ (r : Found). r.verdict) e in
    record { number = number; amperes = amperes; verdict = verdict; promise = promised n b f e; near = near_promised n b f amperes }
