-- One step of each sweep, as a loop takes it. Assumes nothing.
use Rattle.std.specs.Prelude.{◌≡◌, Bool, true, false, ℕ, zero, suc, ◌+◌, ◌-◌, ◌≤◌, ◌<◌}
use Rattle.std.proofs.Common.{add-one, arith, le-ltb, lt-ltb}
use Rattle.enclosure.specs.declared.Complex.{Complex}
use Rattle.enclosure.specs.Doubles.{added, doubles}
use Rattle.tree.specs.Grid.{sum_over, Grid, parent_of, through}
use Rattle.tree.specs.laws.Walk.{over_none}
use Rattle.sweep.specs.declared.sweeps.Rises.{Rises}
use Rattle.sweep.specs.declared.sweeps.Falls.{Falls}
use Rattle.sweep.specs.Points.{point_of, put}
use Rattle.sweep.specs.Sweep.{child_of, up_step, up_from, down_at, down_step, fall_to}

module _ (z : ℕ → Complex) (G : Grid) where
  pub up_handed : (s : Rises) (i p : ℕ) (here was r t : Complex) → 0 < i → p ≡ parent_of G (i - 1) → p < i - 1 → here ≡ point_of s.up (i - 1) → was ≡ point_of s.up p
      → r ≡ through doubles z G p (i - 1) here → t ≡ added was r
      → up_from z G (record { up = put s.up p t; rise = put s.rise (i - 1) r; before = put s.before (i - 1) was }) (i - 1) ≡ up_from z G s i
  unfolding up_step
  up_handed s zero p here was r t h e l eh ew er et = absurd (omega arith)
  up_handed s (suc k) p here was r t h e l eh ew er et =
      let q : suc k - 1 ≡ k = omega arith in
      let e' : p ≡ parent_of G k = rw q at e in
      let l' : parent_of G k < k = rw (q, e') at l in
      let eh' : here ≡ point_of s.up k = rw q at eh in
      let er' : r ≡ through doubles z G p k here = rw q at er in
      rw (q, et, ew, er', eh', e', lt-ltb (parent_of G k) k l')

  pub up_passed : (s : Rises) (i : ℕ) → 0 < i → i - 1 ≤ parent_of G (i - 1) → up_from z G s (i - 1) ≡ up_from z G s i
  unfolding up_step
  up_passed s zero h l = absurd (omega arith)
  up_passed s (suc k) h l =
      let q : suc k - 1 ≡ k = omega arith in
      let l' : k ≤ parent_of G k = rw q at l in
      rw (q, le-ltb (parent_of G k) k l')

  pub down_taken : (rise before : ℕ → Complex) (s : Falls) (i p : ℕ) (d x : Complex) → s ≡ fall_to z G rise before i → p ≡ parent_of G i → p < i
      → d ≡ down_at (parent_of G) rise before (point_of s.fall) i → x ≡ through doubles z G i p d
      → ◌≡◌ {A = Falls} (record { down = put s.down i d; fall = put s.fall i x }) (fall_to z G rise before (i + 1))
  unfolding down_step
  down_taken rise before s i p d x h ep l ed ex =
      let l' : parent_of G i < i = rw ep at l in
      rw (add-one i, lt-ltb (parent_of G i) i l', ex, ep, ed, h)

  pub down_passed : (rise before : ℕ → Complex) (s : Falls) (i : ℕ) → s ≡ fall_to z G rise before i → i ≤ parent_of G i → s ≡ fall_to z G rise before (i + 1)
  unfolding down_step
  down_passed rise before s i h l = rw (add-one i, le-ltb (parent_of G i) i l) h

module _ {A : Type 0} (add : A → A → A) (joins : ℕ → Bool) (g : ℕ → A) (z : A) where
  -- the last one is added, or passed over
  pub over_added : (i : ℕ) (x : A) → 0 < i → joins (i - 1) ≡ true → x ≡ add z (g (i - 1)) → sum_over add joins g x (i - 1) ≡ sum_over add joins g z i
  over_added zero x h j e = absurd (omega arith)
  over_added (suc k) x h j e =
      let q : suc k - 1 ≡ k = omega arith in
      let j' : joins k ≡ true = rw q at j in
      let e' : x ≡ add z (g k) = rw q at e in
      rw (q, e', j')

  pub over_passed : (i : ℕ) → 0 < i → joins (i - 1) ≡ false → sum_over add joins g z (i - 1) ≡ sum_over add joins g z i
  over_passed zero h j = absurd (omega arith)
  over_passed (suc k) h j =
      let q : suc k - 1 ≡ k = omega arith in
      let j' : joins k ≡ false = rw q at j in
      rw (q, j')

-- nothing at or below b is a child of b
pub over_past : {A : Type 0} (add : A → A → A) (p : ℕ → ℕ) (g : ℕ → A) (z : A) (b i : ℕ) → i ≤ suc b → sum_over add (child_of p b) g z i ≡ z
over_past add p g z b i h = over_none add (child_of p b) g z i (λ k l. rw (le-ltb b k (omega arith)))
