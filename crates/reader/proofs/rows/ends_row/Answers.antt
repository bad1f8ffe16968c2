-- `ends_row` meets its contract, by whether two bytes are left.
use Rattle.std.proofs.Common.{sym}
use Rattle.reader.proofs.Bytes.{crlf_last, crlf_next}
use Rattle.reader.proofs.rows.ends_row.Goals as goal

pub returns-then-text-next : goal.returns-then-text-next
returns-then-text-next c = let a = c.args in sym (crlf_last a.text.now a.i c.requires c.if-text-next.true)

pub returns : goal.returns
returns c = let a = c.args in sym (crlf_next a.text.now a.i c.requires c.if-text-next.false)
