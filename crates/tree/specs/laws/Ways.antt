-- The recursion over a way between two buses: its steps, whatever its fuel, and that it is the same where parents and steps agree.
-- Assumes nothing.
use Rattle.std.specs.Prelude.{◌≡◌, Bool, true, false, cond, ltb, eqb, Float, ℕ, zero, suc, ◌+◌, ◌≤◌, ◌<◌}
use Rattle.std.proofs.Common.{sym, ◌∙◌, arith, ltb-true, ltb-false, lt-ltb, le-ltb, eqb-true, eq-eqb, ne_eqb}
use Rattle.std.proofs.Math.Path.{refl, ap}
use Rattle.std.proofs.lemmas.Bool.{eqb-false}
use Rattle.enclosure.specs.Doubles.{unity, floored}
use Rattle.tree.specs.Ways.{between_by, between, over_way}

-- one step, by whichever of the two numbers is the greater
abbrev one_step : {A : Type 0} → (ℕ → ℕ) → (ℕ → ℕ → A → A) → A → (ℕ → ℕ → A) → ℕ → ℕ → A
one_step p step z rest b j =
    cond (eqb b j) z
    (cond (ltb b j)
    (cond (ltb (p j) j) (step (p j) j (rest b (p j))) z)
    (cond (ltb (p b) b) (step b (p b) (rest (p b) j)) z))

-- two such steps agree, where parents and steps agree and what comes after does
step_same : {A : Type 0} (p p' : ℕ → ℕ) (step step' : ℕ → ℕ → A → A) (z : A) (rest rest' : ℕ → ℕ → A) (b j : ℕ) → p b ≡ p' b → p j ≡ p' j
    → (b < j → p j < j → step (p j) j (rest b (p j)) ≡ step' (p j) j (rest' b (p j))) → (j < b → p b < b → step b (p b) (rest (p b) j) ≡ step' b (p b) (rest' (p b) j))
    → one_step p step z rest b j ≡ one_step p' step' z rest' b j
step_same {A} p p' step step' z rest rest' b j eb ej down up = rw (← eb, ← ej) (go (eqb b j) (ltb b j) (ltb (p j) j) (ltb (p b) b) refl refl refl refl)
  where
    go : (s t u v : Bool) → eqb b j ≡ s → ltb b j ≡ t → ltb (p j) j ≡ u → ltb (p b) b ≡ v
        → cond s z (cond t (cond u (step (p j) j (rest b (p j))) z) (cond v (step b (p b) (rest (p b) j)) z))
        ≡ cond s z (cond t (cond u (step' (p j) j (rest' b (p j))) z) (cond v (step' b (p b) (rest' (p b) j)) z))
    go true t u v s e f g = refl
    go false true true v s e f g = down (ltb-true b j e) (ltb-true (p j) j f)
    go false true false v s e f g = refl
    go false false u true s e f g = up (omega (arith, eqb-false b j s, ltb-false b j e)) (ltb-true (p b) b g)
    go false false u false s e f g = refl

-- a step where nothing is left to go
step_none : {A : Type 0} (p : ℕ → ℕ) (step : ℕ → ℕ → A → A) (z : A) (rest : ℕ → ℕ → A) (b j : ℕ) → b + j ≡ 0 → one_step p step z rest b j ≡ z
step_none p step z rest b j h = let e : b ≡ j = omega arith in rw (eq-eqb b j e)

fuelled : {A : Type 0} (p : ℕ → ℕ) (step : ℕ → ℕ → A → A) (z : A) (f g b j : ℕ) → b + j ≤ f → b + j ≤ g → between_by p step z f b j ≡ between_by p step z g b j
fuelled p step z zero zero b j l m = refl
fuelled p step z zero (suc g) b j l m = sym (step_none p step z (between_by p step z g) b j (omega arith))
fuelled p step z (suc f) zero b j l m = step_none p step z (between_by p step z f) b j (omega arith)
fuelled p step z (suc f) (suc g) b j l m =
    step_same p p step step z (between_by p step z f) (between_by p step z g) b j refl refl
    (λ h k. ap (step (p j) j) (fuelled p step z f g b (p j) (omega arith) (omega arith)))
    (λ h k. ap (step b (p b)) (fuelled p step z f g (p b) j (omega arith) (omega arith)))

module _ {A : Type 0} (p : ℕ → ℕ) (step : ℕ → ℕ → A → A) (z : A) where
  unfold_by : (f b j : ℕ) → b + j ≤ suc f → between p step z b j ≡ one_step p step z (between_by p step z f) b j
  unfolding between
  unfold_by f b j h = fuelled p step z (b + j) (suc f) b j (omega arith) h

  -- ONE STEP: with the greater number to its parent, or none
  pub between_step : (b j : ℕ) → between p step z b j ≡ one_step p step z (between p step z) b j
  unfolding between
  between_step b j =
      unfold_by (b + j) b j (omega arith)
      ∙ step_same p p step step z (between_by p step z (b + j)) (λ c k. between_by p step z (c + k) c k) b j refl refl
      (λ h k. ap (step (p j) j) (fuelled p step z (b + j) (b + p j) b (p j) (omega arith) (omega arith)))
      (λ h k. ap (step b (p b)) (fuelled p step z (b + j) (p b + j) (p b) j (omega arith) (omega arith)))

  pub between_child : (b j : ℕ) → b < j → p j < j → between p step z b j ≡ step (p j) j (between p step z b (p j))
  between_child b j l t = between_step b j ∙ rw (ne_eqb b j (λ e. omega arith), lt-ltb b j l, lt-ltb (p j) j t)

  pub between_parent : (b j : ℕ) → j < b → p b < b → between p step z b j ≡ step b (p b) (between p step z (p b) j)
  between_parent b j l t = between_step b j ∙ rw (ne_eqb b j (λ e. omega arith), le-ltb b j (omega arith), lt-ltb (p b) b t)

  -- where it ends: at the same bus, or at one whose parent has no smaller number
  pub between_here : (b j : ℕ) → b ≡ j → between p step z b j ≡ z
  between_here b j e = between_step b j ∙ rw (eq-eqb b j e)

  pub between_stuck_child : (b j : ℕ) → b < j → j ≤ p j → between p step z b j ≡ z
  between_stuck_child b j l t = between_step b j ∙ rw (ne_eqb b j (λ e. omega arith), lt-ltb b j l, le-ltb (p j) j t)

  pub between_stuck_parent : (b j : ℕ) → j < b → b ≤ p b → between p step z b j ≡ z
  between_stuck_parent b j l t = between_step b j ∙ rw (ne_eqb b j (λ e. omega arith), le-ltb b j (omega arith), le-ltb (p b) b t)

-- ---- the same over other columns
module _ {A : Type 0} (p p' : ℕ → ℕ) (step step' : ℕ → ℕ → A → A) (z : A) (n : ℕ) (parents : (i : ℕ) → i < n → p i ≡ p' i)
    (up : (i : ℕ) (x : A) → 0 < i → i < n → p i < i → step i (p i) x ≡ step' i (p i) x) (down : (i : ℕ) (x : A) → 0 < i → i < n → p i < i → step (p i) i x ≡ step' (p i) i x) where
  same_by : (f b j : ℕ) → b < n → j < n → between_by p step z f b j ≡ between_by p' step' z f b j
  same_by zero b j lb lj = refl
  same_by (suc f) b j lb lj =
      step_same p p' step step' z (between_by p step z f) (between_by p' step' z f) b j (parents b lb) (parents j lj)
      (λ h k. down j _ (omega arith) lj k ∙ ap (step' (p j) j) (same_by f b (p j) lb (omega arith)))
      (λ h k. up b _ (omega arith) lb k ∙ ap (step' b (p b)) (same_by f (p b) j (omega arith) lj))

  pub between_same : (b j : ℕ) → b < n → j < n → between p step z b j ≡ between p' step' z b j
  unfolding between
  between_same b j = same_by (b + j) b j

-- a product over the way is the same, where the factors of its branches are
pub over_way_same : (p p' : ℕ → ℕ) (up up' down down' : ℕ → Float) (least : Float) (n : ℕ) → ((i : ℕ) → i < n → p i ≡ p' i)
    → ((i : ℕ) → 0 < i → i < n → up i ≡ up' i) → ((i : ℕ) → 0 < i → i < n → down i ≡ down' i)
    → (b j : ℕ) → b < n → j < n → over_way p up down least b j ≡ over_way p' up' down' least b j
unfolding over_way
over_way_same p p' up up' down down' least n hp hu hd =
    between_same p p' (λ b c v. floored least v (cond (ltb c b) (up b) (down c))) (λ b c v. floored least v (cond (ltb c b) (up' b) (down' c))) unity n hp
    (λ i x z l t. rw (lt-ltb (p i) i t) (ap (floored least x) (hu i z l)))
    (λ i x z l t. rw (le-ltb i (p i) (omega arith)) (ap (floored least x) (hd i z l)))

-- ---- a product over the way, step by step
module _ (p : ℕ → ℕ) (up down : ℕ → Float) (least : Float) (b j : ℕ) where
  pub over_way_child : b < j → p j < j → over_way p up down least b j ≡ floored least (over_way p up down least b (p j)) (down j)
  unfolding over_way
  over_way_child l t = between_child p (λ b c v. floored least v (cond (ltb c b) (up b) (down c))) unity b j l t ∙ rw (le-ltb j (p j) (omega arith))

  pub over_way_parent : j < b → p b < b → over_way p up down least b j ≡ floored least (over_way p up down least (p b) j) (up b)
  unfolding over_way
  over_way_parent l t = between_parent p (λ b c v. floored least v (cond (ltb c b) (up b) (down c))) unity b j l t ∙ rw (lt-ltb (p b) b t)

  pub over_way_here : b ≡ j → over_way p up down least b j ≡ unity
  unfolding over_way
  over_way_here = between_here p (λ b c v. floored least v (cond (ltb c b) (up b) (down c))) unity b j

  pub over_way_stuck_child : b < j → j ≤ p j → over_way p up down least b j ≡ unity
  unfolding over_way
  over_way_stuck_child = between_stuck_child p (λ b c v. floored least v (cond (ltb c b) (up b) (down c))) unity b j

  pub over_way_stuck_parent : j < b → b ≤ p b → over_way p up down least b j ≡ unity
  unfolding over_way
  over_way_stuck_parent = between_stuck_parent p (λ b c v. floored least v (cond (ltb c b) (up b) (down c))) unity b j
