-- `console::parts::put_chunk` meets its contract: the bytes are those of the chunk, and there is room for their digits. Assumes nothing.
use Rattle.std.specs.Prelude.{List, ℕ, take}
use Rattle.std.proofs.Common.{ap, ◌∙◌}
use Rattle.printing.specs.laws.Line.{first_is_text}
use Rattle.console.specs.Answers.{chunk, chunk_of}
use Rattle.console.specs.laws.Answers.{chunk_fits}
use Rattle.console.proofs.parts.put_chunk.Goals as goal

pub returns : goal.returns
unfolding chunk_of
returns c =
    let of-chunk = c.part.ensures ∙ ap (λ (l : List ℕ). take chunk l) c.after.ensures in
    first_is_text _ _ c.requires.line_len (chunk_fits c.args.k c.args.bytes.now) (rw of-chunk at c.put_hex.ensures)
