-- `branch_ok` meets its contract, kind by kind.
use Rattle.std.proofs.Common.{ne_eqb, rules}
use Rattle.network.specs.Records.{branch_ok}
use Rattle.network.proofs.bus_grounds.branch_ok.Goals as goal

pub returns-in-1 : goal.returns-in-1
unfolding branch_ok
returns-in-1 c = rw c.in-1.is c.line_ok.ensures

pub returns-in-2 : goal.returns-in-2
unfolding branch_ok
returns-in-2 c = rw c.in-2.is c.transformer_ok.ensures

pub returns-in_default : goal.returns-in_default
unfolding branch_ok
returns-in_default c = rw (ne_eqb c.args.b.kind 1 (search rules), ne_eqb c.args.b.kind 2 (search rules)) c.no_branch_ok.ensures
