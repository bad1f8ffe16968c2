-- `ranges_ok` meets its contract, kind by kind.
use Rattle.std.proofs.Common.{ne_eqb, rules}
use Rattle.network.specs.SourceKinds.{ranges_ok}
use Rattle.network.proofs.source_kinds.ranges_ok.Goals as goal

pub returns-in-1 : goal.returns-in-1
unfolding ranges_ok
returns-in-1 c = rw c.in-1.is c.feeder_ok.ensures

pub returns-in-2 : goal.returns-in-2
unfolding ranges_ok
returns-in-2 c = rw c.in-2.is c.generator_ok.ensures

pub returns-in-3 : goal.returns-in-3
unfolding ranges_ok
returns-in-3 c = rw c.in-3.is c.motor_ok.ensures

pub returns-in-5 : goal.returns-in-5
unfolding ranges_ok
returns-in-5 c = rw c.in-5.is c.unit_ok.ensures

pub returns-in_default : goal.returns-in_default
unfolding ranges_ok
returns-in_default c =
    rw (ne_eqb c.args.p.kind 1 (search rules), ne_eqb c.args.p.kind 2 (search rules), ne_eqb c.args.p.kind 3 (search rules), ne_eqb c.args.p.kind 5 (search rules)) c.converter_ok.ensures
