-- `read` meets its contract: a text that is empty or too long is refused, any other is read row by row.
use Rattle.std.specs.Prelude.{◌≡◌, refl, List, ℕ, length}
use Rattle.std.proofs.Common.{ap, ◌∙◌, arith}
use Rattle.network.specs.Network.{network, here}
use Rattle.network.specs.Grounds.{run}
use Rattle.network.specs.laws.Tests.{in_range_law}
use Rattle.reader.specs.declared.Reading.{Reading}
use Rattle.reader.specs.File.{max_bytes, Outcome, outcome_of, read_in, read_of, calls_read}
use Rattle.reader.specs.Editions.{first_edition, OldEdition}
use Rattle.reader.specs.laws.Editions.{Raised, old_edition}
use Rattle.reader.specs.laws.FileAsCalls.{read_made}
use Rattle.reader.proofs.read.Goals as goal

-- this edition has room for more
raised : Raised first_edition here
raised = record { buses = omega arith; sources = omega arith }

parts : (r : Reading) (text : List ℕ) → outcome_of r ≡ read_of text
    → (r.number ≡ (read_of text).number)
    × ((r.row ≡ (read_of text).row)
    × ((network r.study ≡ (read_of text).network)
    × ((network r.study ≡ run (calls_read text)) × OldEdition first_edition text (outcome_of r))))
parts r text e =
    let n = ap (λ (x : Outcome). x.network) e in
    (ap (λ (x : Outcome). x.number) e, (ap (λ (x : Outcome). x.row) e, (n, (n ∙ read_made text, rw e (old_edition first_edition here raised text)))))

pub read_rows-requires : goal.read_rows-requires
read_rows-requires c = in_range_law (length c.args.text.now) 1 max_bytes c.if-n.true

pub returns-then-n : goal.returns-then-n
unfolding read_in
returns-then-n c =
    let e = parts c.read_rows.result _ (c.read_rows.ensures ∙ rw c.if-n.true refl) in
    record { number = e.0; row = e.1.0; network = e.1.1.0; calls = e.1.1.1.0; edition = e.1.1.1.1 }

pub returns : goal.returns
unfolding read_in
returns c =
    let e = parts c.refused.result _ (c.refused.ensures ∙ rw c.if-n.false refl) in
    record { number = e.0; row = e.1.0; network = e.1.1.0; calls = e.1.1.1.0; edition = e.1.1.1.1 }
