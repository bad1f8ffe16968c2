-- Whole numbers up to 2 ^ 53 as f64: sums, differences and comparisons of them are those of the whole numbers.
-- Assumes nothing.
use Rattle.std.specs.Prelude.{◌≡◌, ℕ, ◌+◌, ◌-◌, ◌*◌, ◌^◌, ◌<◌, ◌≤◌, Bool, true, false, cond, not, ◌&&◌, ◌||◌, T, ltb, leb, ℤ, pos, ◌==◌, nat_le, nat_lt, refl, Float}
use Rattle.std.proofs.Common.{sym, ap, ◌∙◌, le_of_lt, le_trans, not-le_of_lt, lt_of_not-le, mul-one, mul_comm, mul_assoc, mul_left_comm, mul-pos, mul-le-mul_right, arith, true≢false, le→leb, leb→le, ltb→lt, lit<, ltb-true, ltb-false, eqb-true, lt-ltb, le-ltb, le-leb}
use Rattle.std.proofs.Math.Nat.{mul-sub}
use Rattle.std.proofs.Math.Dec.{nleb→lt}
use Rattle.std.proofs.lemmas.Bool.{eqb-false, lt-leb}
use Rattle.std.specs.Float.Ieee.Order.{transfer}
use Rattle.std.specs.Float.{nan, inf, fin, Format, binary64}
use Rattle.std.specs.Float.Ieee.{up, down, round, of_int, in_float, add, sub, sum, lt, le}
use Rattle.std.specs.Float.Ieee.Fits.{down_pos}
use Rattle.std.specs.Float.Ieee.Exact.{HasValue}
use Rattle.std.specs.Float.Ieee.Scale.{round_same}
use Rattle.enclosure.specs.laws.RoundedOnce.{add_at}
use Rattle.enclosure.specs.Exact.{of_nat}
use Rattle.enclosure.specs.laws.Units.{exact}
use Rattle.enclosure.specs.Doubles.{of_whole}

pub whole_few : (n : ℕ) → n ≤ 2 ^ 53 → of_whole n ≡ of_nat n
whole_few n h = ap of_nat (omega arith)

-- what a cast asks
pub castable : (n : ℕ) → n ≤ 2 ^ 53 → T (in_float binary64 (pos n))
unfolding in_float
castable n h = le→leb n (2 ^ 53) h

rounded : (n : ℕ) → of_nat n ≡ round binary64 false n 1
unfolding of_int
rounded n = refl

-- x - y for y ≤ x
sub_cross : (x y p q a b c d : ℕ) → x * c ≡ a * p → y * d ≡ b * q → (x * q - y * p) * (c * d) ≡ (a * d - b * c) * (p * q)
sub_cross x y p q a b c d h k =
    let u : c * d * (x * q) ≡ p * q * (a * d) = simp (mul_assoc, mul_comm, mul_left_comm) (simp (mul_assoc, mul_comm, mul_left_comm) at (ap (λ (z : ℕ). z * (q * d)) h)) in
    let v : c * d * (y * p) ≡ p * q * (b * c) = simp (mul_assoc, mul_comm, mul_left_comm) (simp (mul_assoc, mul_comm, mul_left_comm) at (ap (λ (z : ℕ). z * (p * c)) k)) in
    mul_comm (x * q - y * p) (c * d) ∙ mul-sub (c * d) (x * q) (y * p) ∙ ap (λ (z : ℕ). z - c * d * (y * p)) u ∙ ap (λ (z : ℕ). p * q * (a * d) - z) v ∙ sym (mul-sub (p * q) (a * d) (b * c)) ∙ mul_comm (p * q) (a * d - b * c)

sum_minus : (f : Format) (a b c : ℕ) → b ≤ a → sum f false a true b c ≡ round f false (a - b) c
unfolding sum
sum_minus f a b c h = go (nat_lt a b) (ltb→lt a b)
  where
    go : (t : Bool) → (T t → a < b) → cond t (round f true (b - a) c) (round f false (a - b) c) ≡ round f false (a - b) c
    go true k = absurd (not-le_of_lt (k tt) h)
    go false k = refl

opened : (f : Format) (m : ℕ) (e : ℤ) (n : ℕ) (d : ℤ) → sub f (fin false m e) (fin false n d) ≡ sum f false (m * up e * down d) true (n * up d * down e) (down e * down d)
unfolding sub
opened f m e n d = refl

sub_at : (f : Format) (x y : Float) (a c b d : ℕ) → 0 < c → 0 < d → HasValue x false a c → HasValue y false b d → b * c ≤ a * d → sub f x y ≡ round f false (a * d - b * c) (c * d)
sub_at f nan y a c b d C D h k l = elim h [ ]
sub_at f (inf _) y a c b d C D h k l = elim h [ ]
sub_at f (fin false m e) nan a c b d C D h k l = elim k [ ]
sub_at f (fin false m e) (inf _) a c b d C D h k l = elim k [ ]
sub_at f (fin true m e) y a c b d C D h k l = absurd (true≢false h.0)
sub_at f (fin false m e) (fin true n g) a c b d C D h k l = absurd (true≢false k.0)
sub_at f (fin false m e) (fin false n g) a c b d C D h k l =
    opened f m e n g
    ∙ sum_minus f (m * up e * down g) (n * up g * down e) (down e * down g) (transfer (n * up g) (m * up e) (down g) (down e) b a d c D C k.1 h.1 l)
    ∙ round_same f false (m * up e * down g - n * up g * down e) (down e * down g) (a * d - b * c) (c * d) (mul-pos (down_pos e) (down_pos g)) (mul-pos C D)
    (sub_cross (m * up e) (n * up g) (down e) (down g) a b c d h.1 k.1)

-- ---- the order
lt_same : (x y a b : ℕ) → (a ≤ b → x ≤ y) → (b ≤ a → y ≤ x) → (x ≤ y → a ≤ b) → (y ≤ x → b ≤ a) → nat_lt x y ≡ nat_lt a b
lt_same x y a b p q r s = go (nat_le b a) (leb→le b a) (nleb→lt b a)
  where
    go : (t : Bool) → (T t → b ≤ a) → (T (not t) → a < b) → nat_lt x y ≡ nat_lt a b
    go true h k = le-ltb x y (q (h tt)) ∙ sym (le-ltb a b (h tt))
    go false h k = lt-ltb x y (lt_of_not-le (λ (g : y ≤ x). not-le_of_lt (k tt) (s g))) ∙ sym (lt-ltb a b (k tt))

lt_at : (x y : Float) (a c b d : ℕ) → 0 < c → 0 < d → HasValue x false a c → HasValue y false b d → lt x y ≡ nat_lt (a * d) (b * c)
unfolding lt
lt_at nan y a c b d C D h k = elim h [ ]
lt_at (inf _) y a c b d C D h k = elim h [ ]
lt_at (fin false m e) nan a c b d C D h k = elim k [ ]
lt_at (fin false m e) (inf _) a c b d C D h k = elim k [ ]
lt_at (fin true m e) y a c b d C D h k = absurd (true≢false h.0)
lt_at (fin false m e) (fin true n g) a c b d C D h k = absurd (true≢false k.0)
lt_at (fin false m e) (fin false n g) a c b d C D h k =
    lt_same (m * up e * down g) (n * up g * down e) (a * d) (b * c)
    (transfer (m * up e) (n * up g) (down e) (down g) a b c d C D h.1 k.1)
    (transfer (n * up g) (m * up e) (down g) (down e) b a d c D C k.1 h.1)
    (transfer a b c d (m * up e) (n * up g) (down e) (down g) (down_pos e) (down_pos g) (sym h.1) (sym k.1))
    (transfer b a d c (n * up g) (m * up e) (down g) (down e) (down_pos g) (down_pos e) (sym k.1) (sym h.1))

le_same : (x y a b : ℕ) → (a ≤ b → x ≤ y) → (x ≤ y → a ≤ b) → nat_le x y ≡ nat_le a b
le_same x y a b p r = go (nat_le a b) (leb→le a b) (nleb→lt a b)
  where
    go : (t : Bool) → (T t → a ≤ b) → (T (not t) → b < a) → nat_le x y ≡ t
    go true h k = le-leb x y (p (h tt))
    go false h k = lt-leb x y (lt_of_not-le (λ (g : x ≤ y). not-le_of_lt (k tt) (r g)))

-- f64's ≤ is < or =
or_leb : (x y : ℕ) → (nat_lt x y || (x == y && true)) ≡ nat_le x y
or_leb x y = go (nat_lt x y) (x == y) refl refl
  where
    go : (s t : Bool) → nat_lt x y ≡ s → (x == y) ≡ t → (s || (t && true)) ≡ nat_le x y
    go true t h k = sym (le-leb x y (le_of_lt (ltb-true x y h)))
    go false true h k = sym (le-leb x y (omega (arith, eqb-true x y k)))
    go false false h k = sym (lt-leb x y (lt_of_not-le (λ (l : x ≤ y). eqb-false x y k (omega (arith, ltb-false x y h)))))

le_at : (x y : Float) (a c b d : ℕ) → 0 < c → 0 < d → HasValue x false a c → HasValue y false b d → le x y ≡ nat_le (a * d) (b * c)
unfolding le
le_at nan y a c b d C D h k = elim h [ ]
le_at (inf _) y a c b d C D h k = elim h [ ]
le_at (fin false m e) nan a c b d C D h k = elim k [ ]
le_at (fin false m e) (inf _) a c b d C D h k = elim k [ ]
le_at (fin true m e) y a c b d C D h k = absurd (true≢false h.0)
le_at (fin false m e) (fin true n g) a c b d C D h k = absurd (true≢false k.0)
le_at (fin false m e) (fin false n g) a c b d C D h k =
    or_leb (m * up e * down g) (n * up g * down e)
    ∙ le_same (m * up e * down g) (n * up g * down e) (a * d) (b * c)
    (transfer (m * up e) (n * up g) (down e) (down g) a b c d C D h.1 k.1)
    (transfer a b c d (m * up e) (n * up g) (down e) (down g) (down_pos e) (down_pos g) (sym h.1) (sym k.1))

-- ---- THE LAWS
one : 0 < 1
one = lit< tt

pub plus_whole : (m n : ℕ) → m ≤ 2 ^ 53 → n ≤ 2 ^ 53 → add binary64 (of_nat m) (of_nat n) ≡ of_nat (m + n)
plus_whole m n h k = add_at binary64 (of_nat m) (of_nat n) m 1 n 1 one one (exact m h) (exact n k) ∙ ap (λ (z : ℕ). round binary64 false z 1) (simp mul-one) ∙ sym (rounded (m + n))

pub minus_whole : (m n : ℕ) → m ≤ 2 ^ 53 → n ≤ m → sub binary64 (of_nat m) (of_nat n) ≡ of_nat (m - n)
minus_whole m n h l =
    sub_at binary64 (of_nat m) (of_nat n) m 1 n 1 one one (exact m h) (exact n (le_trans l h)) (mul-le-mul_right 1 l) ∙ ap (λ (z : ℕ). round binary64 false z 1) (simp mul-one) ∙ sym (rounded (m - n))

pub less_whole : (m n : ℕ) → m ≤ 2 ^ 53 → n ≤ 2 ^ 53 → lt (of_nat m) (of_nat n) ≡ nat_lt m n
less_whole m n h k = lt_at (of_nat m) (of_nat n) m 1 n 1 one one (exact m h) (exact n k) ∙ ap (λ (z : ℕ). ltb z (n * 1)) (mul-one m) ∙ ap (λ (z : ℕ). ltb m z) (mul-one n)

pub most_whole : (m n : ℕ) → m ≤ 2 ^ 53 → n ≤ 2 ^ 53 → le (of_nat m) (of_nat n) ≡ nat_le m n
most_whole m n h k = le_at (of_nat m) (of_nat n) m 1 n 1 one one (exact m h) (exact n k) ∙ ap (λ (z : ℕ). leb z (n * 1)) (mul-one m) ∙ ap (λ (z : ℕ). leb m z) (mul-one n)
