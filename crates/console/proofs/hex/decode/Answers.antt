use Rattle.std.specs.Prelude.{◌≡◌, refl, ◌+◌, ◌/◌, ◌<◌, length}
use Rattle.std.proofs.Common.{◌∙◌, length-set, arith}
use Rattle.console.specs.laws.Lines.{pairs_odd, pairs_high, pairs_low, decoded_more, decoded_byte, decoded_broken, decoded_long, decoded_whole, decoded_bytes}
use Rattle.console.proofs.hex.decode.Goals as goal

pub overflow_add-n : goal.overflow_add-n
overflow_add-n c = omega arith

pub returns-then-n-digits : goal.returns-then-n-digits
returns-then-n-digits c =
    let both = decoded_broken c.args.digits.now (pairs_odd c.args.digits.now (length c.args.digits.now / 2) (omega arith)) in
    record { result = both.0; bytes = both.1 }

pub returns-then-n-gt-TEXT : goal.returns-then-n-gt-TEXT
returns-then-n-gt-TEXT c =
    let both = decoded_long c.args.digits.now (omega arith) in
    record { result = both.0; bytes = both.1 }

pub loop-i-init : goal.loop-i-init
loop-i-init c = (omega arith, (omega arith, (omega arith, (refl, (refl, λ h. refl)))))

pub overflow_add-i : goal.overflow_add-i
overflow_add-i c = omega arith

pub bounds-digits-i : goal.bounds-digits-i
bounds-digits-i c = omega arith

pub overflow_add-i-in-loop-i : goal.overflow_add-i-in-loop-i
overflow_add-i-in-loop-i c = omega arith

pub overflow_add-i-in-loop-i-2 : goal.overflow_add-i-in-loop-i-2
overflow_add-i-in-loop-i-2 c = omega arith

pub bounds-digits-i-in-loop-i : goal.bounds-digits-i-in-loop-i
bounds-digits-i-in-loop-i c = omega arith

pub returns-then-high-ge16 : goal.returns-then-high-ge16
returns-then-high-ge16 c =
    let l = c.loop-i in
    let digits = c.args.digits.now in
    let both = decoded_broken digits (l.invariant.1.1.1.1.0 ∙ pairs_high digits (l.i + l.i) 0 (omega arith) (omega (arith, c.digit-high.ensures))) in
    record { result = both.0; bytes = both.1 }

pub returns-then-low-ge16 : goal.returns-then-low-ge16
returns-then-low-ge16 c =
    let l = c.loop-i in
    let digits = c.args.digits.now in
    let both = decoded_broken digits (l.invariant.1.1.1.1.0 ∙ pairs_low digits (l.i + l.i) 0 (omega arith) (omega (arith, c.digit-high.ensures)) (omega (arith, c.digit-low.ensures))) in
    record { result = both.0; bytes = both.1 }

pub bounds-text-i : goal.bounds-text-i
bounds-text-i c = omega arith

pub overflow_add-i-in-loop-i-3 : goal.overflow_add-i-in-loop-i-3
overflow_add-i-in-loop-i-3 c = omega arith

pub loop-i-smaller : goal.loop-i-smaller
loop-i-smaller c = omega arith

pub loop-i-preserved : goal.loop-i-preserved
loop-i-preserved c =
    let l = c.loop-i in
    let digits = c.args.digits.now in
    let v = l.invariant in
    let m : l.i + l.i + 1 < length digits = omega arith in
    let high = c.digit-high.ensures in
    let low = c.digit-low.ensures in (
      v.0,
      (
        v.1.0,
        (
          omega arith,
          (
            length-set l.text l.i c.pair.result ∙ v.1.1.1.0,
            (
              v.1.1.1.1.0 ∙ decoded_more digits l.i m (omega (arith, high)) (omega (arith, low)),
              λ h. decoded_byte digits l.i m l.text c.pair.result (omega (arith, h, v.1.1.1.0)) (omega (arith, c.pair.ensures, high, low)) ∙ v.1.1.1.1.1 h,
            ),
          ),
        ),
      ),
    )

pub returns : goal.returns
returns c =
    let l = c.loop-i in
    let digits = c.args.digits.now in
    let v = l.invariant in
    let k : l.i ≡ length digits / 2 = omega arith in
    record { result = decoded_whole digits (length digits / 2) l.i refl v.0 v.1.0 k v.1.1.1.1.0; bytes = λ p m h. decoded_bytes digits (length digits / 2) l.i refl v.0 v.1.0 k l.text (v.1.1.1.1.1 h) }
