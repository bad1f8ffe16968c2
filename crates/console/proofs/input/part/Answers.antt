-- `console::input::part` meets its contract: where the slice has no more bytes, the first bytes are all of them. Assumes nothing.
use Rattle.std.specs.Prelude.{◌≡◌, ◌-◌}
use Rattle.std.proofs.Common.{sym, arith, take_all}
use Rattle.console.proofs.input.part.Goals as goal

pub returns-then-length-bytes : goal.returns-then-length-bytes
returns-then-length-bytes c =
    let n = c.args.length in
    let e : n - 0 ≡ n = omega arith in
    rw e

pub returns : goal.returns
returns c = sym (take_all c.args.length c.args.bytes.now (omega arith))
