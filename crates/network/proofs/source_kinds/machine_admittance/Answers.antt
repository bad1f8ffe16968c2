-- `machine_admittance` meets its contract, by the source kind.
use Rattle.std.proofs.Common.{ne_eqb, rules}
use Rattle.network.specs.RoundedSourceKinds.{admittance_by}
use Rattle.network.proofs.source_kinds.machine_admittance.Goals as goal

pub returns-in-1 : goal.returns-in-1
unfolding admittance_by
returns-in-1 c = rw (c.in-1.is, ← c.feeder.ensures) c.inverse.ensures

pub returns-in-2 : goal.returns-in-2
unfolding admittance_by
returns-in-2 c = rw (c.in-2.is, ← c.generator.ensures) c.inverse-in-2.ensures

pub returns-in-3 : goal.returns-in-3
unfolding admittance_by
returns-in-3 c = rw (c.in-3.is, ← c.motor.ensures) c.inverse-in-3.ensures

pub returns-in-5 : goal.returns-in-5
unfolding admittance_by
returns-in-5 c = rw (c.in-5.is, ← c.unit_impedance.ensures) c.inverse-in-5.ensures

pub returns-in_default : goal.returns-in_default
unfolding admittance_by
returns-in_default c =
    rw (ne_eqb c.args.p.kind 1 (search rules), ne_eqb c.args.p.kind 2 (search rules), ne_eqb c.args.p.kind 3 (search rules), ne_eqb c.args.p.kind 5 (search rules)) c.nothing.ensures
