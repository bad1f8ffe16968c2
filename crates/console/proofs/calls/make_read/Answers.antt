-- `console::calls::make_read` has its effect, where the digits are broken and where they are bytes. Assumes nothing.
use Rattle.std.specs.Prelude.{List, ℕ}
use Rattle.std.proofs.Common.{◌∙◌, sym, ap}
use Rattle.network.specs.Network.{network}
use Rattle.reader.specs.File.{read_of}
use Rattle.console.specs.Effects.{read_by}
use Rattle.console.specs.laws.EffectsLaw.{read_broken, read_bytes, read_parts}
use Rattle.console.proofs.calls.make_read.Goals as goal

pub returns-in_default : goal.returns-in_default
returns-in_default c =
    let a = c.args in
    λ table h. c.failed.ensures.effect _ ∙ read_broken (network a.s) a.rest.now (sym c.decode-decoded.ensures.result ∙ c.in_default.is)

pub returns : goal.returns
returns c =
    let a = c.args in
    let read = c.read-reading.ensures in
    let text_of = c.text_of.ensures in
    λ table h.
    read_parts _ _ _ _ read.number read.row read.network
    ∙ ap (λ (l : List ℕ). read_by (read_of l)) text_of
    ∙ read_bytes (network a.s) a.rest.now _ _ (sym c.decode-decoded.ensures.result ∙ c.in-Bytes.is) (λ p l. c.decode-decoded.ensures.bytes p l h)
