-- `elements::mu::mu_at` meets its contract: the table's rule, at i or at 100. Assumes nothing.
use Rattle.std.specs.Prelude.{ℕ, ◌+◌, min, ◌<◌, ◌≡◌, get_or}
use Rattle.std.proofs.Common.{ap, sym, ◌∙◌, arith}
use Rattle.std.proofs.Math.Nat.{min-eq_left, min-eq_right}
use Rattle.elements.specs.BreakingFactor.{mu_of}
use Rattle.elements.specs.Doubles.{first_of}
use Rattle.elements.specs.laws.BreakingFactor.{mus, mu_rule, first_most}
use Rattle.elements.proofs.mu.mu_at.Goals as goal

-- the entry that is read
entry : (delay s i k : ℕ) → s ≡ first_of delay → i < 101 → min k 100 ≡ i → get_or mus (s + i) 0 ≡ mu_of delay (min k 100)
entry delay s i k e h m = ap (λ (x : ℕ). get_or mus (x + i) 0) e ∙ mu_rule delay i h ∙ ap (mu_of delay) (sym m)

pub overflow_add-result : goal.overflow_add-result
overflow_add-result c = let e = c.first-start.ensures in let h = first_most c.args.delay in record { fits = omega arith }

pub bounds-start : goal.bounds-start
bounds-start c = let e = c.first-start.ensures in let h = first_most c.args.delay in omega arith

pub overflow_add-result-else-i-lt100 : goal.overflow_add-result-else-i-lt100
overflow_add-result-else-i-lt100 c = let e = c.first-start.ensures in let h = first_most c.args.delay in record { fits = omega arith }

pub bounds-start-else-i-lt100 : goal.bounds-start-else-i-lt100
bounds-start-else-i-lt100 c = let e = c.first-start.ensures in let h = first_most c.args.delay in omega arith

pub returns-then-i-lt100 : goal.returns-then-i-lt100
returns-then-i-lt100 c = entry c.args.delay _ c.args.i c.args.i c.first-start.ensures (omega arith) (min-eq_left (omega arith))

pub returns-else-i-lt100 : goal.returns-else-i-lt100
returns-else-i-lt100 c = entry c.args.delay _ 100 c.args.i c.first-start.ensures (omega arith) (min-eq_right (omega arith))
