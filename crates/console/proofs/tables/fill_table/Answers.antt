use Rattle.std.specs.Prelude.{◌≡◌, refl, [], ◌∷◌, ◌++◌, ℕ, suc, ◌<◌, length, replicate}
use Rattle.std.proofs.Common.{sym, ap, ◌∙◌, arith, add-one, length-set, take_all, take-suc-set}
use Rattle.std.proofs.lemmas.List.{replicate-append-replicate}
use Rattle.std.specs.Float.Ieee.{of_bits, of_int}
use Rattle.console.specs.Answers.{table_filler}
use Rattle.console.proofs.tables.fill_table.Goals as goal

one_more : (n : ℕ) → replicate n table_filler ++ (table_filler ∷ []) ≡ replicate (suc n) table_filler
one_more n = replicate-append-replicate n 1 table_filler ∙ ap (λ (k : ℕ). replicate k table_filler) (add-one n)

pub loop-i-init : goal.loop-i-init
loop-i-init c = (refl, omega arith, refl)

pub loop-i-smaller : goal.loop-i-smaller
loop-i-smaller c = simp length-set (omega arith)

pub loop-i-preserved : goal.loop-i-preserved
unfolding of_bits of_int
loop-i-preserved c =
    let l = c.loop-i in
    let h : l.i < length l.table = omega arith in (
      simp length-set l.invariant.0,
      simp length-set (omega arith),
      rw (add-one, take-suc-set, l.invariant.2) (one_more l.i),
    )

pub returns : goal.returns
returns c =
    let l = c.loop-i in
    let whole : l.i ≡ length l.table = omega arith in
    sym (take_all l.i l.table (omega arith)) ∙ l.invariant.2 ∙ ap (λ (n : ℕ). replicate n table_filler) (whole ∙ l.invariant.0)
