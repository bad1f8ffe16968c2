-- `branch_impedance` meets its contract, by the branch kind.
use Rattle.std.proofs.Common.{ne_eqb, rules}
use Rattle.network.specs.Doubles.{branch_by}
use Rattle.network.proofs.records.branch_impedance.Goals as goal

pub returns-in-1 : goal.returns-in-1
unfolding branch_by
returns-in-1 c = λ parent e. rw c.in-1.is c.line.ensures

pub returns-in-2 : goal.returns-in-2
unfolding branch_by
returns-in-2 c = λ parent e. rw (c.in-2.is, e, ← c.lower_volts.ensures) c.transformer.ensures

pub returns-in_default : goal.returns-in_default
unfolding branch_by
returns-in_default c =
    λ parent e. rw (ne_eqb c.args.b.kind 1 (search rules), ne_eqb c.args.b.kind 2 (search rules)) c.nothing.ensures
