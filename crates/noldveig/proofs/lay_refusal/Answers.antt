-- `noldveig::lay_refusal` meets its contract: the row fits a line, and is laid whole. Assumes nothing.
use Rattle.std.specs.Prelude.{length}
use Rattle.std.proofs.Common.{◌∙◌, ap, arith}
use Rattle.noldveig.specs.laws.Rows.{refusal_fits}
use Rattle.noldveig.proofs.lay_refusal.Goals as goal

pub lay-requires : goal.lay-requires
lay-requires c =
    let row = c.written.ensures ∙ c.put_refusal-end.ensures in
    omega (arith, ap length row, refusal_fits c.args.number c.args.row)

pub returns : goal.returns
returns c =
    let lay = c.lay in
    let row = c.written.ensures ∙ c.put_refusal-end.ensures in
    record { place = omega (arith, lay.ensures.place, ap length row, refusal_fits c.args.number c.args.row); text = lay.ensures.text ∙ row }
