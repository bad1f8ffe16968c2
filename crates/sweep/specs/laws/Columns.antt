-- What stands in a column, and what a point put into one changes. Assumes nothing.
use Rattle.std.specs.Prelude.{ℕ, zero, suc, ◌+◌, ◌<◌, ◌≡◌, refl, Bool, true, false, cond, List, ltb, eqb, Float, length, get_or, set, replicate}
use Rattle.std.proofs.Common.{sym, ◌∙◌, ap, ap₂, arith, length-set, ext_get_or, get_or-set_same, get_or-set_other, ltb-true, ltb-false, lt-ltb, le-ltb, eqb-true}
use Rattle.std.specs.Float.{nan}
use Rattle.std.proofs.lemmas.List.{length-replicate, get_or-replicate}
use Rattle.std.proofs.lemmas.Bool.{eqb-false}
use Rattle.enclosure.specs.declared.Complex.{Complex}
use Rattle.enclosure.specs.Doubles.{nought, none}
use Rattle.sweep.specs.declared.columns.Points.{Points}
use Rattle.tree.specs.Limits.{max_buses}
use Rattle.sweep.specs.Columns.{listed, column}
use Rattle.sweep.specs.Points.{number_at, point_at, points, point_of, points_of, no_points, put}

-- ---- what is listed
length_listed : {A : Type 0} (f : ℕ → A) (i n : ℕ) → length (listed f i n) ≡ n
length_listed f i zero = refl
length_listed f i (suc n) = ap suc (length_listed f (suc i) n)

get_or_listed : {A : Type 0} (f : ℕ → A) (i n k : ℕ) (d : A) → k < n → get_or (listed f i n) k d ≡ f (i + k)
get_or_listed f i zero k d h = absurd (omega arith)
get_or_listed f i (suc n) zero d h = let e : i + zero ≡ i = omega arith in ap f (sym e)
get_or_listed f i (suc n) (suc k) d h = let e : suc i + k ≡ i + suc k = omega arith in get_or_listed f (suc i) n k d (omega arith) ∙ ap f e

listed_same : {A : Type 0} (f g : ℕ → A) (i n : ℕ) → ((k : ℕ) → f k ≡ g k) → listed f i n ≡ listed g i n
listed_same f g i zero h = refl
listed_same f g i (suc n) h = rw (h i, listed_same f g (suc i) n h)

-- ---- what stands in a column
pub length_column : {A : Type 0} (f : ℕ → A) → length (column f) ≡ max_buses
unfolding column
length_column f = length_listed f 0 max_buses

pub get_or_column : {A : Type 0} (f : ℕ → A) (i : ℕ) (d : A) → i < max_buses → get_or (column f) i d ≡ f i
unfolding column
get_or_column f i d h = let e : 0 + i ≡ i = omega arith in get_or_listed f 0 max_buses i d h ∙ ap f e

pub column_same : {A : Type 0} (f g : ℕ → A) → ((i : ℕ) → f i ≡ g i) → column f ≡ column g
unfolding column
column_same f g h = listed_same f g 0 max_buses h

-- an array that holds f at each place is its column
pub column_only : {A : Type 0} (f : ℕ → A) (d : A) (l : List A) → length l ≡ max_buses → ((i : ℕ) → i < max_buses → get_or l i d ≡ f i) → l ≡ column f
column_only f d l n h = ext_get_or d l (column f) (n ∙ sym (length_column f)) (λ i m. let m' : i < max_buses = omega (arith, n) in h i m' ∙ sym (get_or_column f i d m'))

pub number_column : (f : ℕ → ℕ) (i : ℕ) → i < max_buses → number_at (column f) i ≡ f i
number_column f i h = rw (lt-ltb i max_buses h) (get_or_column f i 0 h)

pub point_column : (f : ℕ → Complex) (i : ℕ) → i < max_buses → point_of (points_of f) i ≡ f i
point_column f i h =
    rw (lt-ltb i max_buses h) (ap₂ (λ (a b : Float). record { re = a; im = b }) (get_or_column (λ j. (f j).re) i nan h) (get_or_column (λ j. (f j).im) i nan h))

-- two arrays that hold f at each place are its columns
pub points_only : (f : ℕ → Complex) (re im : List Float) → length re ≡ max_buses → length im ≡ max_buses → ((i : ℕ) → i < max_buses → point_at re im i ≡ f i) → points re im ≡ points_of f
points_only f re im m n h =
    ap₂ points
    (column_only (λ i. (f i).re) nan re m (λ i l. ap (λ (z : Complex). z.re) (at i l))) (column_only (λ i. (f i).im) nan im n (λ i l. ap (λ (z : Complex). z.im) (at i l)))
  where
    at : (i : ℕ) → i < max_buses → ◌≡◌ {A = Complex} (record { re = get_or re i nan; im = get_or im i nan }) (f i)
    at i l = let e = h i l in rw (lt-ltb i max_buses l) at e

pub points_same : (f g : ℕ → Complex) → ((i : ℕ) → f i ≡ g i) → points_of f ≡ points_of g
points_same f g h =
    ap₂ (λ (a b : List Float). record { re = a; im = b })
    (column_same (λ i. (f i).re) (λ i. (g i).re) (λ i. ap (λ (z : Complex). z.re) (h i))) (column_same (λ i. (f i).im) (λ i. (g i).im) (λ i. ap (λ (z : Complex). z.im) (h i)))

-- ---- points put into columns
abbrev pub Sized : Points → Type 0
Sized s = (length s.re ≡ max_buses) × (length s.im ≡ max_buses)

pub points_sized : (f : ℕ → Complex) → Sized (points_of f)
points_sized f = (length_column (λ i. (f i).re), length_column (λ i. (f i).im))

pub no_points_sized : Sized no_points
no_points_sized = (length-replicate max_buses nought, length-replicate max_buses nought)

pub put_sized : (s : Points) (i : ℕ) (x : Complex) → Sized s → Sized (put s i x)
put_sized s i x h = (length-set s.re i x.re ∙ h.0, length-set s.im i x.im ∙ h.1)

pub put_same : (s : Points) (i : ℕ) (x : Complex) → Sized s → i < max_buses → point_of (put s i x) i ≡ x
put_same s i x h l =
    rw (lt-ltb i max_buses l)
    (ap₂ (λ (a b : Float). record { re = a; im = b }) (get_or-set_same s.re i x.re nan (omega (arith, h.0))) (get_or-set_same s.im i x.im nan (omega (arith, h.1))))

pub put_other : (s : Points) (i j : ℕ) (x : Complex) → (j ≡ i → ⊥) → point_of (put s i x) j ≡ point_of s j
put_other s i j x h =
    ap₂ (λ (a b : Float). cond (ltb j max_buses) (record { re = a; im = b }) none) (get_or-set_other s.re i j x.re nan h) (get_or-set_other s.im i j x.im nan h)

-- ---- an array that a loop fills: f at the places below b, z at every other
abbrev pub FilledTo : {A : Type 0} → A → (ℕ → A) → ℕ → List A → Type 0
FilledTo z f b l = (length l ≡ max_buses) × ((k : ℕ) → k < max_buses → get_or l k z ≡ cond (ltb k b) (f k) z)

module _ {A : Type 0} (z : A) (f : ℕ → A) where
  pub filled_to_none : (l : List A) → l ≡ replicate max_buses z → FilledTo z f 0 l
  filled_to_none l e = rw e (length-replicate max_buses z, λ k m. get_or-replicate max_buses k z z m ∙ sym (rw (le-ltb k 0 (omega arith))))

  pub filled_to_more : (l : List A) (b : ℕ) (y : A) → b < max_buses → y ≡ f b → FilledTo z f b l → FilledTo z f (b + 1) (set l b y)
  filled_to_more l b y m e h = (length-set l b y ∙ h.0, λ k n. go k n (eqb k b) refl)
    where
      same : (k : ℕ) → (k ≡ b → ⊥) → ltb k b ≡ ltb k (b + 1)
      same k d = on (ltb k b) refl
        where
          on : (t : Bool) → ltb k b ≡ t → t ≡ ltb k (b + 1)
          on true p = sym (lt-ltb k (b + 1) (omega (arith, ltb-true k b p)))
          on false p = sym (le-ltb k (b + 1) (omega (arith, ltb-false k b p, d)))

      go : (k : ℕ) → k < max_buses → (t : Bool) → eqb k b ≡ t → get_or (set l b y) k z ≡ cond (ltb k (b + 1)) (f k) z
      go k n true q = rw (eqb-true k b q, lt-ltb b (b + 1) (omega arith)) (get_or-set_same l b y z (omega (arith, h.0)) ∙ e)
      go k n false q =
          let d = eqb-false k b q in
          get_or-set_other l b k y z d ∙ h.1 k n ∙ ap (λ (t : Bool). cond t (f k) z) (same k d)

  pub filled_to_column : (l : List A) (b : ℕ) → FilledTo z f b l → l ≡ column (λ k. cond (ltb k b) (f k) z)
  filled_to_column l b h = column_only (λ k. cond (ltb k b) (f k) z) z l h.0 h.1
