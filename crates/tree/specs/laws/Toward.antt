-- Laws of the recursion towards bus 0, and of the depth of a bus by it. Assumes nothing.
use Rattle.std.specs.Prelude.{ℕ, zero, suc, ◌≤◌, ◌<◌, ◌≡◌, refl, Bool, true, false, cond, ltb}
use Rattle.std.proofs.Common.{◌∙◌, ap, arith, ltb-true, lt-ltb, le-ltb}
use Rattle.tree.specs.laws.Walk.{Tree}
use Rattle.tree.specs.Grid.{toward}

fuelled : {A : Type 0} (p : ℕ → ℕ) (step : ℕ → A → A) (z : A) (f g b : ℕ) → b ≤ f → b ≤ g → toward p step z f b ≡ toward p step z g b
fuelled p step z zero zero b l m = refl
fuelled p step z zero (suc g) b l m = rw (le-ltb (p b) b (omega arith))
fuelled p step z (suc f) zero b l m = rw (le-ltb (p b) b (omega arith))
fuelled {A} p step z (suc f) (suc g) b l m = go (ltb (p b) b) refl (λ h. fuelled p step z f g (p b) (omega arith) (omega arith))
  where
    go : (t : Bool) → ltb (p b) b ≡ t → (p b < b → toward p step z f (p b) ≡ toward p step z g (p b))
        → cond t (step b (toward p step z f (p b))) z ≡ cond t (step b (toward p step z g (p b))) z
    go true e r = ap (step b) (r (ltb-true (p b) b e))
    go false e r = refl

pub toward_more : {A : Type 0} (p : ℕ → ℕ) (step : ℕ → A → A) (z : A) (b : ℕ) → p b < b → toward p step z b b ≡ step b (toward p step z (p b) (p b))
toward_more p step z zero h = absurd (omega arith)
toward_more p step z (suc b) h = rw (lt-ltb (p (suc b)) (suc b) h) (ap (step (suc b)) (fuelled p step z b (p (suc b)) (p (suc b)) (omega arith) (omega arith)))

pub toward_end : {A : Type 0} (p : ℕ → ℕ) (step : ℕ → A → A) (z : A) (b : ℕ) → b ≤ p b → toward p step z b b ≡ z
toward_end p step z zero h = refl
toward_end p step z (suc b) h = rw (le-ltb (p (suc b)) (suc b) h)

-- the same, where parents and steps agree bus by bus
pub toward_same : {A : Type 0} (p p' : ℕ → ℕ) (step step' : ℕ → A → A) (z : A) (n : ℕ)
    → ((b : ℕ) → b < n → p b ≡ p' b) → ((b : ℕ) (x : A) → 0 < b → b < n → step b x ≡ step' b x)
    → (f b : ℕ) → b < n → toward p step z f b ≡ toward p' step' z f b
toward_same p p' step step' z n hp hs zero b l = refl
toward_same {A} p p' step step' z n hp hs (suc f) b l = rw (← hp b l) (go (ltb (p b) b) refl (toward_same p p' step step' z n hp hs f (p b)))
  where
    go : (t : Bool) → ltb (p b) b ≡ t → (p b < n → toward p step z f (p b) ≡ toward p' step' z f (p b))
        → cond t (step b (toward p step z f (p b))) z ≡ cond t (step' b (toward p' step' z f (p b))) z
    go true e r = let m = ltb-true (p b) b e in hs b _ (omega arith) l ∙ ap (step' b) (r (omega arith))
    go false e r = refl

-- ---- "branches .. lead from bus 0 to any bus"
unfoldable pub depth : (ℕ → ℕ) → ℕ → ℕ
depth p b = toward p (λ i d. suc d) 0 b b

pub depth_more : (p : ℕ → ℕ) (b : ℕ) → p b < b → depth p b ≡ suc (depth p (p b))
unfolding depth
depth_more p = toward_more p (λ i d. suc d) 0

pub depth_end : (p : ℕ → ℕ) (b : ℕ) → b ≤ p b → depth p b ≡ 0
unfolding depth
depth_end p = toward_end p (λ i d. suc d) 0

pub depth_same : (p p' : ℕ → ℕ) (n : ℕ) → ((b : ℕ) → b < n → p b ≡ p' b) → (b : ℕ) → b < n → depth p b ≡ depth p' b
unfolding depth
depth_same p p' n h b l = toward_same p p' (λ i d. suc d) (λ i d. suc d) 0 n h (λ i d z m. refl) b b l

pub by_depth : (p : ℕ → ℕ) (n D : ℕ) → ((i : ℕ) → 0 < i → i < n → p i < i) → ((i : ℕ) → i < n → depth p i ≤ D) → Tree p n D (depth p)
by_depth p n D t d = record { grows = λ i z l. omega (arith, depth_more p i (t i z l)); most = d }
