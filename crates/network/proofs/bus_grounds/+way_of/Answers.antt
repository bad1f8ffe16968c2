use Rattle.std.specs.Prelude.{cond, eqb, List, ℕ, ◌≤◌, ◌<◌}
use Rattle.std.proofs.Common.{sym, arith}
use Rattle.sweep.specs.Points.{number_at}
use Rattle.network.specs.laws.Ways.{counted_more, counted_end, counted_small, transformer_small}
use Rattle.network.proofs.bus_grounds.+way_of.Goals as goal

-- 1 at each transformer
abbrev weights : List ℕ → ℕ → ℕ
weights kinds k = cond (eqb (number_at kinds k) 2) 1 0

pub number_at-parent-requires : goal.number_at-parent-requires
number_at-parent-requires t c = tt

pub way_of-above-requires : goal.way_of-above-requires
way_of-above-requires t c = (omega arith, tt)

pub overflow_add-result : goal.overflow_add-result
overflow_add-result t c =
    let a = c.args in
    let p = c.number_at-parent.result in
    omega (arith, c.way_of-above.ensures.branches, c.if-parent-i.true, counted_small (number_at a.parents.now) (λ k. 1) (λ k. omega arith) p)

pub number_at-requires : goal.number_at-requires
number_at-requires t c = tt

pub overflow_add-result-then-parent-i : goal.overflow_add-result-then-parent-i
overflow_add-result-then-parent-i t c =
    let a = c.args in
    let p = c.number_at-parent.result in
    let n = c.number_at.result in
    omega (
      arith,
      c.way_of-above.ensures.transformers,
      c.if-parent-i.true,
      c.if_transformer.ensures,
      counted_small (number_at a.parents.now) (weights a.kinds.now) (λ k. transformer_small (number_at a.kinds.now k)) p,
      transformer_small n,
    )

pub returns-then-parent-i : goal.returns-then-parent-i
returns-then-parent-i t c =
    let a = c.args in
    let p = c.number_at-parent in
    let w = c.way_of-above.ensures in
    let h : number_at a.parents.now a.i < a.i = omega (arith, p.ensures, c.if-parent-i.true) in record { branches = rw (counted_more (number_at a.parents.now) (λ k. 1) a.i h, ← p.ensures, ← w.branches); transformers = rw (counted_more (number_at a.parents.now) (weights a.kinds.now) a.i h, ← p.ensures, ← w.transformers, ← c.number_at.ensures, ← c.if_transformer.ensures) }

pub returns-else-parent-i : goal.returns-else-parent-i
returns-else-parent-i t c =
    let a = c.args in
    let h : a.i ≤ number_at a.parents.now a.i = omega (arith, c.number_at-parent.ensures, c.if-parent-i.false) in
    record { branches = sym (counted_end (number_at a.parents.now) (λ k. 1) a.i h); transformers = sym (counted_end (number_at a.parents.now) (weights a.kinds.now) a.i h) }
