use Rattle.std.specs.Prelude.{◌/◌, ◌^◌}
use Rattle.std.proofs.Common.{arith, le→leb}
use Rattle.std.specs.Float.Ieee.{in_float}
use Rattle.breaking.specs.Doubles.{generator_part}
use Rattle.breaking.specs.laws.Tables.{mu_by_most}
use Rattle.breaking.proofs.parts.generator_part.Goals as goal

pub rated_steps-q-requires : goal.rated_steps-q-requires
rated_steps-q-requires c = record { volts_bound = c.volts_seen.ensures.1; kva_bound = c.kva_seen.ensures.1 }

pub int_to_float-result : goal.int_to_float-result
unfolding in_float
int_to_float-result c =
    le→leb (c.under_root-lower.result / 4096) (2 ^ 53) (omega (arith, c.under_root-lower.ensures, c.share_steps-r.ensures.few))

pub int_to_float-result-2 : goal.int_to_float-result-2
unfolding in_float
int_to_float-result-2 c =
    le→leb c.amperes_up-upper.result (2 ^ 53) (omega (arith, c.amperes_up-upper.ensures, c.share_steps-r.ensures.few))

pub weigh-requires : goal.weigh-requires
weigh-requires c = record { steps_bound = omega (arith, c.share_steps-r.ensures.few); w_bound = rw c.mu_of.ensures (mu_by_most _ _) }

pub returns : goal.returns
unfolding generator_part
returns c =
    rw (c.weigh.ensures, c.mu_of.ensures, c.amperes_up-upper.ensures, c.under_root-lower.ensures, c.rated_steps-q.ensures, c.kva_seen.ensures.0, c.volts_seen.ensures.0, c.share_steps-r.ensures.steps)
