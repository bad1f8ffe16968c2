-- `printing::written` meets its contract: where the place is past the end, the first bytes are all of them. Assumes nothing.
use Rattle.std.proofs.Common.{◌≡◌, ◌-◌, sym, arith, take_all}
use Rattle.printing.proofs.written.Goals as goal

pub returns-then-end-whole : goal.returns-then-end-whole
returns-then-end-whole c =
    let end = c.args.end in
    let e : end - 0 ≡ end = omega arith in
    rw e

pub returns : goal.returns
returns c = sym (take_all c.args.end c.args.line.now (omega arith))
