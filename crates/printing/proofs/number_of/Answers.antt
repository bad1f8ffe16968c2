-- `printing::number_of` meets its contract: the two ends of the range are the same whether written by their bits or not.
-- Assumes nothing.
use Rattle.std.specs.Prelude.{Float}
use Rattle.std.specs.Float.{fin}
use Rattle.std.specs.Float.Ieee.{lt, to_unsigned, of_bits, neg}
use Rattle.std.proofs.Common.{◌≡◌, ℕ, Bool, true, false, cond, T, pos, sym, ap, ◌∙◌, subst}
use Rattle.printing.specs.Printed.{whole_of}
use Rattle.printing.proofs.number_of.Goals as goal

first : (x : Float) (b : Bool) → lt (fin true 1 (pos 0)) x ≡ b → whole_of x ≡ cond b (cond (lt x (fin false 1 (pos 64))) (to_unsigned 64 x) 0) 0
first x b p = ap (λ (t : Bool). cond t (cond (lt x (fin false 1 (pos 64))) (to_unsigned 64 x) 0) 0) p

second : (x : Float) (b : Bool) → lt x (fin false 1 (pos 64)) ≡ b → cond {A = ℕ} (lt x (fin false 1 (pos 64))) (to_unsigned 64 x) 0 ≡ cond b (to_unsigned 64 x) 0
second x b p = ap (λ (t : Bool). cond {A = ℕ} t (to_unsigned 64 x) 0) p

pub truncating_f64_to_u64-requires : goal.truncating_f64_to_u64-requires
unfolding of_bits neg
truncating_f64_to_u64-requires c = record { lower_bound = subst T (sym c.if-x.true) tt; upper_bound = subst T (sym c.if-x-2.true) tt }

pub returns-then-x-2 : goal.returns-then-x-2
unfolding of_bits neg
returns-then-x-2 c =
    let x = c.args.x in
    c.truncating_f64_to_u64.ensures ∙ sym (first x true c.if-x.true ∙ second x true c.if-x-2.true)

pub returns-else-x-2 : goal.returns-else-x-2
unfolding of_bits neg
returns-else-x-2 c =
    let x = c.args.x in
    sym (first x true c.if-x.true ∙ second x false c.if-x-2.false)

pub returns-else-x : goal.returns-else-x
unfolding of_bits neg
returns-else-x c = sym (first c.args.x false c.if-x.false)
