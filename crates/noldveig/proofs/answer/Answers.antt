-- `noldveig::answer` meets its contract: the board of a text that is accepted, and the row of one that is refused. Assumes nothing.
use Rattle.std.specs.Prelude.{◌≡◌}
use Rattle.std.proofs.Common.{sym, ap, ◌∙◌, arith, rules}
use Rattle.network.specs.Network.{Network}
use Rattle.reader.specs.File.{read_of}
use Rattle.reader.specs.laws.FileAsCalls.{read_closed}
use Rattle.noldveig.specs.Rows.{board_text}
use Rattle.noldveig.specs.laws.Rows.{printed_board, printed_refusal}
use Rattle.noldveig.proofs.answer.Goals as goal

pub lay_board-requires : goal.lay_board-requires
lay_board-requires c =
    let read = c.read-reading.ensures in
    let text = c.args.text.now in
    let number : (read_of text).number ≡ 0 = sym read.number ∙ c.if-reading-eq0.true in
    record { room_in_bounds = search rules; closed = ap (λ (n : Network). n.closed) read.network ∙ read_closed text number }

pub returns-then-reading-eq0 : goal.returns-then-reading-eq0
returns-then-reading-eq0 c =
    let done = c.lay_board.ensures in
    let read = c.read-reading.ensures in
    let text = c.args.text.now in
    record { place = done.place; text = done.text ∙ ap board_text read.network ∙ printed_board (read_of text) _ read.number c.if-reading-eq0.true }

pub returns : goal.returns
returns c =
    let done = c.lay_refusal.ensures in
    let read = c.read-reading.ensures in
    let text = c.args.text.now in
    record { place = omega (arith, done.place); text = done.text ∙ printed_refusal (read_of text) _ read.number c.if-reading-eq0.false _ read.row }
