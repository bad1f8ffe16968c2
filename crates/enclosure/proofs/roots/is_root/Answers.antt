-- `enclosure::roots::is_root` meets its contract: what it says yes to is the root.
-- Assumes nothing.
use Rattle.std.proofs.Common.{sym, true≢false, arith, ltb-true}
use Rattle.enclosure.specs.laws.Root.{guess_fits, guess_root}
use Rattle.enclosure.proofs.roots.is_root.Goals as goal

pub overflow_mul-n : goal.overflow_mul-n
overflow_mul-n c = record { fits = omega (arith, guess_fits c.args.n c.if-n-lt4294967295.true) }

pub overflow_mul-result : goal.overflow_mul-result
overflow_mul-result c = record { fits = guess_fits c.args.n c.if-n-lt4294967295.true }

pub returns-then-n-x : goal.returns-then-n-x
returns-then-n-x c h = guess_root c.args.x c.args.n c.if-n-x.true (ltb-true _ _ h)

pub returns-else-n-x : goal.returns-else-n-x
returns-else-n-x c h = absurd (true≢false (sym h))

pub returns-else-n-lt4294967295 : goal.returns-else-n-lt4294967295
returns-else-n-lt4294967295 c h = absurd (true≢false (sym h))
