-- `elements::mu::mu_of` meets its contract: the test of `mu_by`, and its entry. Assumes nothing.
use Rattle.std.specs.Prelude.{ℕ, ◌/◌, min, ◌≤◌, ◌<◌, ◌≡◌}
use Rattle.std.proofs.Common.{◌∙◌, arith, le-leb}
use Rattle.std.proofs.lemmas.Bool.{lt-leb}
use Rattle.enclosure.specs.Doubles.{under_root}
use Rattle.elements.specs.BreakingFactor.{mu_of}
use Rattle.elements.specs.Doubles.{mu_by}
use Rattle.elements.proofs.mu.mu_of.Goals as goal

-- u is what r is at least: 1 up to 2, and the entry that is read past it
one : (delay r u : ℕ) → u ≡ under_root r → u ≤ 81920 → 1000 ≡ mu_by delay r
unfolding mu_by
one delay r u e h = rw (← e, le-leb u 81920 h)

entry : (delay r u i : ℕ) → u ≡ under_root r → 81920 < u → min i 100 ≡ min (u / 4096) 100 → mu_of delay (min i 100) ≡ mu_by delay r
unfolding mu_by
entry delay r u i e h k = rw (← e, lt-leb u 81920 h, k)

pub returns-then-least-le81920 : goal.returns-then-least-le81920
returns-then-least-le81920 c = let s = c in one s.args.delay s.args.steps _ c.under_root-least.ensures (omega arith)

pub returns-then-i-lt100 : goal.returns-then-i-lt100
returns-then-i-lt100 c =
    let u = c in
    c.mu_at.ensures ∙ entry u.args.delay u.args.steps _ _ u.under_root-least.ensures (omega arith) (omega arith)

pub returns-else-i-lt100 : goal.returns-else-i-lt100
returns-else-i-lt100 c =
    let u = c in
    c.mu_at-else-i-lt100.ensures ∙ entry u.args.delay u.args.steps _ 100 u.under_root-least.ensures (omega arith) (omega arith)
