use Rattle.std.specs.Prelude.{◌≡◌, refl, ◌+◌, ◌*◌, drop}
use Rattle.std.proofs.Common.{sym, ◌∙◌, arith, drop_of_length-le}
use Rattle.reader.specs.File.{digits_value}
use Rattle.reader.proofs.Bytes.{digits_low, digits_high, digits_more, decimal_more, decimal_least, value_other, value_large, value_small}
use Rattle.reader.proofs.fields.value.Goals as goal

pub loop-i-init : goal.loop-i-init
loop-i-init c = (omega arith, omega arith, refl, refl)

pub returns-then-d-lt48 : goal.returns-then-d-lt48
returns-then-d-lt48 c =
    let l = c.loop-i in
    let f = c.args.field.now in
    sym (value_other f (l.invariant.2 ∙ digits_low f l.i c.loop-i-test.true c.if-d-lt48.true))

pub returns-then-d-gt57 : goal.returns-then-d-gt57
returns-then-d-gt57 c =
    let l = c.loop-i in
    let f = c.args.field.now in
    sym (value_other f (l.invariant.2 ∙ digits_high f l.i c.loop-i-test.true c.if-d-gt57.true))

pub overflow_mul-n : goal.overflow_mul-n
overflow_mul-n c = record { fits = omega (arith, c.loop-i.invariant.1) }

pub overflow_add-n : goal.overflow_add-n
overflow_add-n c = record { fits = omega (arith, c.loop-i.invariant.1, c.wide.ensures, c.if-d-gt57.false) }

pub returns-then-n-ge4294967296 : goal.returns-then-n-ge4294967296
returns-then-n-ge4294967296 c =
    let l = c.loop-i in
    let f = c.args.field.now in
    let w = c.wide in
    let least = decimal_least (10 * l.n + w.result) (drop (l.i + 1) f) in
    let whole : digits_value 0 f ≡ digits_value (10 * l.n + w.result) (drop (l.i + 1) f) =
    rw w.ensures (l.invariant.3 ∙ decimal_more f l.i c.loop-i-test.true l.n)
    in
    sym (value_large f (omega (arith, c.if-n-ge4294967296.true, least, whole)))

pub loop-i-preserved : goal.loop-i-preserved
loop-i-preserved c =
    let l = c.loop-i in
    let f = c.args.field.now in
    let h = c.loop-i-test.true in (
      omega arith,
      c.if-n-ge4294967296.false,
      l.invariant.2 ∙ digits_more f l.i h c.if-d-lt48.false c.if-d-gt57.false,
      rw c.wide.ensures (l.invariant.3 ∙ decimal_more f l.i h l.n),
    )

pub returns : goal.returns
returns c =
    let l = c.loop-i in
    let f = c.args.field.now in
    let none = drop_of_length-le f c.loop-i-test.false in
    sym (value_small f l.n (l.invariant.2 ∙ rw none refl) (l.invariant.3 ∙ rw none refl) l.invariant.1)
