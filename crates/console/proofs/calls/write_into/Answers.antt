-- `console::calls::write_into` meets its contract: the bytes that `write` is lent are filled. Assumes nothing.
use Rattle.std.specs.Prelude.{ℕ, length}
use Rattle.std.proofs.Common.{ap, ◌∙◌}
use Rattle.std.proofs.lemmas.List.{length-replicate}
use Rattle.network.specs.Network.{network}
use Rattle.writer.specs.Writing.{write_number, write_length, after_write}
use Rattle.console.specs.Answers.{filler}
use Rattle.console.proofs.calls.write_into.Goals as goal

pub returns : goal.returns
returns c =
    let n = network c.args.s in
    let filled = c.fill.ensures in
    let as_long = ap length filled ∙ length-replicate {A = ℕ} _ filler in
    let done = c.write.ensures in
    record { number = done.number ∙ ap (write_number n) as_long; length = done.length ∙ ap (write_length n) as_long; lent = done.buffer ∙ ap (after_write n) filled }
