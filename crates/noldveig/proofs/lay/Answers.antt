use Rattle.std.specs.Prelude.{◌≡◌, refl, List, ◌++◌, ℕ, suc, ◌+◌, ◌<◌, length, take, get_or, set}
use Rattle.std.proofs.Common.{◌∙◌, append_assoc, append-nil, arith, length-set, take_all, take-suc, take-suc-set}
use Rattle.noldveig.proofs.lay.Goals as goal

-- one byte more
next : (out start bytes : List ℕ) (at i : ℕ) → at + i < length out → i < length bytes → take (at + i) out ≡ start ++ take i bytes
    → take (at + (i + 1)) (set out (at + i) (get_or bytes i 0)) ≡ start ++ take (i + 1) bytes
next out start bytes at i h k e =
    let s : at + (i + 1) ≡ suc (at + i) = omega arith in
    let t : i + 1 ≡ suc i = omega arith in
    rw (s, t, take-suc-set out (at + i) (get_or bytes i 0) h, e, append_assoc, take-suc bytes i 0 k)

pub loop-i-init : goal.loop-i-init
loop-i-init c =
    let s : c.args.at + 0 ≡ c.args.at = omega arith in
    (refl, (omega arith, rw (s, append-nil)))

pub bounds-bytes-i : goal.bounds-bytes-i
bounds-bytes-i c = omega arith

pub overflow_add-out : goal.overflow_add-out
overflow_add-out c = omega arith

pub bounds-out-at : goal.bounds-out-at
bounds-out-at c = omega arith

pub overflow_add-i : goal.overflow_add-i
overflow_add-i c = omega arith

pub loop-i-smaller : goal.loop-i-smaller
loop-i-smaller c = omega arith

pub loop-i-preserved : goal.loop-i-preserved
loop-i-preserved c =
    let l = c.loop-i in
    let a = c.args in
    (length-set l.out (a.at + l.i) _ ∙ l.invariant.0, (omega arith, next l.out (take a.at a.out.now) a.bytes.now a.at l.i (omega arith) (omega arith) l.invariant.1.1))

pub overflow_add-result : goal.overflow_add-result
overflow_add-result c = omega arith

pub returns : goal.returns
returns c =
    let l = c.loop-i in
    let bytes = c.args.bytes.now in
    record { place = omega arith; text = l.invariant.1.1 ∙ rw (take_all l.i bytes (omega arith)) }
