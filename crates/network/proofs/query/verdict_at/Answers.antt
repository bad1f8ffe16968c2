-- `verdict_at` meets its contract: a rating of 32 bits is a whole number as f64.
use Rattle.std.specs.Prelude.{◌^◌, ◌≤◌}
use Rattle.std.proofs.Common.{◌∙◌, rules}
use Rattle.network.specs.laws.Verdict.{verdict_whole}
use Rattle.network.proofs.query.verdict_at.Goals as goal
use Rattle.network.proofs.query.verdict_at.Goals.{Start}

few : (c : Start) → (c.args.bus.rating ≤ 2 ^ 53) × (c.args.bus.peak_rating ≤ 2 ^ 53)
few c = (search rules, search rules)

pub returns : goal.returns
returns c =
    record { verdict = c.verdict_of.ensures; whole = λ g w. c.verdict_of.ensures ∙ verdict_whole c.args.a g w _ _ (few (goal.at.returns c).Start).0 (few (goal.at.returns c).Start).1 }
