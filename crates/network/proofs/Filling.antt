-- Arrays that a loop fills: record by record, and by adding up what stands at each bus.
use Rattle.std.specs.Prelude.{◌≡◌, refl, Bool, true, false, cond, ◌&&◌, List, [], ℕ, ◌+◌, ◌≤◌, ◌<◌, eqb, ltb, Float, length, take, set, get_or, replicate}
use Rattle.std.proofs.Common.{sym, ◌∙◌, ap, ap₂, arith, length-take, length-set, take_all, get_or-take, get_or-set_same, get_or-set_other, eqb-true, eq-eqb, ltb-true, ltb-false, lt-ltb}
use Rattle.std.specs.Float.{nan}
use Rattle.std.proofs.Math.ListN.{get_or-eq_default}
use Rattle.std.proofs.lemmas.Bool.{eqb-false}
use Rattle.std.proofs.lemmas.List.{length-replicate, get_or-replicate}
use Rattle.enclosure.specs.declared.Complex.{Complex}
use Rattle.enclosure.specs.Doubles.{nought, none, added}
use Rattle.tree.specs.Grid.{sum_of}
use Rattle.tree.specs.laws.Sums.{sum_more}
use Rattle.tree.specs.Limits.{max_buses}
use Rattle.sweep.specs.Columns.{column}
use Rattle.sweep.specs.Points.{point_at, points, points_of}
use Rattle.sweep.specs.laws.Columns.{column_only, points_only, put_same, put_other}

-- the array v holds f of each record of l, and f of the blank record past the last one
abbrev pub Filled : {X Y : Type 0} → (X → Y) → X → Y → List X → List Y → Type 0
Filled f blank d l v = (length v ≡ max_buses) × ((i : ℕ) → i < max_buses → get_or v i d ≡ f (get_or l i blank))

-- one record more changes no other place
take_other : {X : Type 0} (l : List X) (i k : ℕ) (d : X) → (k ≡ i → ⊥) → get_or (take (i + 1) l) k d ≡ get_or (take i l) k d
take_other l i k d h = go (ltb k i) refl
  where
    go : (t : Bool) → ltb k i ≡ t → get_or (take (i + 1) l) k d ≡ get_or (take i l) k d
    go true e =
        let m = ltb-true k i e in
        get_or-take (i + 1) l k d (omega arith) ∙ sym (get_or-take i l k d m)
    go false e =
        let m = ltb-false k i e in
        let n : i < k = omega (arith, h) in
        get_or-eq_default (take (i + 1) l) d {n = k} (omega (arith, length-take (i + 1) l)) ∙ sym (get_or-eq_default (take i l) d {n = k} (omega (arith, length-take i l)))

module _ {X Y : Type 0} (f : X → Y) (blank : X) (d : Y) where
  pub filled_none : (v : List Y) → v ≡ replicate max_buses (f blank) → Filled f blank d [] v
  filled_none v e = rw e (length-replicate max_buses (f blank), λ i h. get_or-replicate max_buses i (f blank) d h)

  pub filled_more : (l : List X) (v : List Y) (i : ℕ) (y : Y) → i < length l → i < max_buses → y ≡ f (get_or l i blank) → Filled f blank d (take i l) v
      → Filled f blank d (take (i + 1) l) (set v i y)
  filled_more l v i y m n e h = (length-set v i y ∙ h.0, λ k p. go k p (eqb k i) refl)
    where
      go : (k : ℕ) → k < max_buses → (t : Bool) → eqb k i ≡ t → get_or (set v i y) k d ≡ f (get_or (take (i + 1) l) k blank)
      go k p true q = rw (eqb-true k i q) (get_or-set_same v i y d (omega (arith, h.0)) ∙ e ∙ ap f (sym (get_or-take (i + 1) l i blank (omega arith))))
      go k p false q =
          let r = eqb-false k i q in
          get_or-set_other v i k y d r ∙ h.1 k p ∙ ap f (sym (take_other l i k blank r))

  pub filled_all : (l : List X) (v : List Y) (i : ℕ) → length l ≤ i → Filled f blank d (take i l) v → Filled f blank d l v
  filled_all l v i m h = rw (take_all i l m) at h

  -- filled whole, it is the column
  pub filled_column : (l : List X) (v : List Y) (i : ℕ) → length l ≤ i → Filled f blank d (take i l) v → v ≡ column (λ k. f (get_or l k blank))
  filled_column l v i m h = let q = filled_all l v i m h in column_only (λ k. f (get_or l k blank)) d v q.0 q.1

-- two arrays as points
pub point_of_law : (re im : List Float) (i : ℕ) (z : Complex) → i < max_buses → get_or re i nan ≡ z.re → get_or im i nan ≡ z.im → point_at re im i ≡ z
point_of_law re im i z h p q = rw (lt-ltb i max_buses h) (ap₂ (λ (a b : Float). record { re = a; im = b }) p q)

-- the arrays hold at each bus the sum of what the sources of l that count give there
module _ {S : Type 0} (bus : S → ℕ) (counts : S → Bool) (gives : S → Complex) (d : S) where
  abbrev at : ℕ → S → Bool
  at b p = counts p && eqb (bus p) b

  abbrev pub Stands : List S → List Float → List Float → Type 0
  Stands l re im = (length re ≡ max_buses) × ((length im ≡ max_buses) × ((b : ℕ) → b < max_buses → point_at re im b ≡ sum_of added (at b) gives none l))

  pub stands_none : (re im : List Float) → re ≡ replicate max_buses nought → im ≡ replicate max_buses nought → Stands [] re im
  stands_none re im p q =
      rw (p, q)
      (length-replicate max_buses nought, (length-replicate max_buses nought, λ b h. point_of_law (replicate max_buses nought) (replicate max_buses nought) b none h (get_or-replicate max_buses b nought nan h) (get_or-replicate max_buses b nought nan h)))

  -- all added up, they are the columns
  pub stands_column : (l : List S) (re im : List Float) (j : ℕ) → length l ≤ j → Stands (take j l) re im → points re im ≡ points_of (λ b. sum_of added (at b) gives none l)
  stands_column l re im j m h = points_only (λ b. sum_of added (at b) gives none l) re im h.0 h.1.0 (rw (take_all j l m) at h.1.1)

  -- one source more: it counts at a bus of the table, or not
  module _ (l : List S) (re im : List Float) (j : ℕ) (p : S) (m : j < length l) (e : p ≡ get_or l j d) (h : Stands (take j l) re im) where
    more : (b : ℕ) → sum_of added (at b) gives none (take (j + 1) l) ≡ cond (at b p) (added (sum_of added (at b) gives none (take j l)) (gives p)) (sum_of added (at b) gives none (take j l))
    more b = rw e (sum_more added (at b) gives none l d j m)

    pub stands_more : (t : Complex) → bus p < max_buses → counts p ≡ true → t ≡ added (point_at re im (bus p)) (gives p)
        → Stands (take (j + 1) l) (set re (bus p) t.re) (set im (bus p) t.im)
    stands_more t n q s = (length-set re (bus p) t.re ∙ h.0, (length-set im (bus p) t.im ∙ h.1.0, λ b r. go b r (eqb (bus p) b) refl))
      where
        here : point_at (set re (bus p) t.re) (set im (bus p) t.im) (bus p) ≡ sum_of added (at (bus p)) gives none (take (j + 1) l)
        here =
            put_same (points re im) (bus p) t (h.0, h.1.0) n
            ∙ s
            ∙ ap (λ (x : Complex). added x (gives p)) (h.1.1 (bus p) n)
            ∙ sym (rw (q, eq-eqb (bus p) (bus p) refl) at (more (bus p)))

        go : (b : ℕ) → b < max_buses → (u : Bool) → eqb (bus p) b ≡ u
            → point_at (set re (bus p) t.re) (set im (bus p) t.im) b ≡ sum_of added (at b) gives none (take (j + 1) l)
        go b r true k = rw (← eqb-true (bus p) b k) here
        go b r false k =
            let o : b ≡ bus p → ⊥ = λ w. eqb-false (bus p) b k (sym w) in
            put_other (points re im) (bus p) b t o
            ∙ h.1.1 b r
            ∙ sym (rw (q, k) at (more b))

    pub stands_passed : ltb (bus p) max_buses && counts p ≡ false → Stands (take (j + 1) l) re im
    stands_passed q = (h.0, (h.1.0, λ b r. h.1.1 b r ∙ sym (rw (go b r (counts p) (eqb (bus p) b) refl refl) at (more b))))
      where
        go : (b : ℕ) → b < max_buses → (u v : Bool) → counts p ≡ u → eqb (bus p) b ≡ v → u && v ≡ false
        go b r false v x y = refl
        go b r true false x y = refl
        go b r true true x y =
            let w : ltb (bus p) max_buses ≡ true = rw (eqb-true (bus p) b y) (lt-ltb b max_buses r) in
            rw (w, x) at q
