use Rattle.std.specs.Prelude.{◌≡◌, refl, [], ◌∷◌, ◌++◌, ℕ, suc, ◌<◌, length, replicate}
use Rattle.std.proofs.Common.{sym, ap, ◌∙◌, arith, add-one, length-set, take_all, take-suc-set}
use Rattle.std.proofs.lemmas.List.{replicate-append-replicate}
use Rattle.console.specs.Answers.{filler}
use Rattle.console.proofs.calls.fill.Goals as goal

one_more : (n : ℕ) → replicate n filler ++ (filler ∷ []) ≡ replicate (suc n) filler
one_more n = replicate-append-replicate n 1 filler ∙ ap (λ (k : ℕ). replicate k filler) (add-one n)

pub loop-i-init : goal.loop-i-init
loop-i-init c = (refl, omega arith, refl)

pub loop-i-smaller : goal.loop-i-smaller
loop-i-smaller c = simp length-set (omega arith)

pub loop-i-preserved : goal.loop-i-preserved
loop-i-preserved c =
    let l = c.loop-i in
    let h : l.i < length l.lent = omega arith in (
      simp length-set l.invariant.0,
      simp length-set (omega arith),
      rw (add-one, take-suc-set, l.invariant.2) (one_more l.i),
    )

pub returns : goal.returns
returns c =
    let l = c.loop-i in
    let whole : l.i ≡ length l.lent = omega arith in
    sym (take_all l.i l.lent (omega arith)) ∙ l.invariant.2 ∙ ap (λ (n : ℕ). replicate n filler) (whole ∙ l.invariant.0)
