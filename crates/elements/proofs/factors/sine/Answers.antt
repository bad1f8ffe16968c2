-- `elements::factors::sine` meets its contract: the table's rule, at p, at 70 or at 100. From 100 on nothing is left of the square.
-- Assumes nothing.
use Rattle.std.specs.Prelude.{ℕ, ◌+◌, ◌-◌, ◌≤◌, max, ◌≡◌}
use Rattle.std.proofs.Common.{ap, sym, ◌∙◌, arith}
use Rattle.std.proofs.Math.Nat.{max-eq_left, max-eq_right}
use Rattle.elements.specs.Factors.{sine_of}
use Rattle.elements.specs.laws.SineTable.{sines_rule, sine_none}
use Rattle.elements.proofs.factors.sine.Goals as goal

pub returns-then-p-lt70 : goal.returns-then-p-lt70
returns-then-p-lt70 c = sines_rule 0 (omega arith) ∙ ap sine_of (sym (max-eq_right (omega arith)))

pub bounds-p : goal.bounds-p
bounds-p c = omega arith

-- the entry of p
entry : (p : ℕ) → 70 ≤ p → 70 + (p - 70) ≡ max p 70
entry p h = let e : 70 + (p - 70) ≡ p = omega arith in e ∙ sym (max-eq_left h)

pub returns-then-p-lt100 : goal.returns-then-p-lt100
returns-then-p-lt100 c = let p = c.args.p in sines_rule (p - 70) (omega arith) ∙ ap sine_of (entry p (omega arith))

pub returns-else-p-lt100 : goal.returns-else-p-lt100
returns-else-p-lt100 c = let p = c.args.p in sym (ap sine_of (max-eq_left (omega arith)) ∙ sine_none p (omega arith))
