-- `number_of` meets its contract, by whether the length is allowed.
use Rattle.std.proofs.Common.{sym, ◌∙◌}
use Rattle.reader.specs.File.{number_of}
use Rattle.reader.proofs.fields.number_of.Goals as goal

pub returns-then-length_ok : goal.returns-then-length_ok
unfolding number_of
returns-then-length_ok c = rw (sym c.length_ok.ensures ∙ c.if-length_ok.true) c.value.ensures

pub returns : goal.returns
unfolding number_of
returns c = rw (sym c.length_ok.ensures ∙ c.if-length_ok.false)
