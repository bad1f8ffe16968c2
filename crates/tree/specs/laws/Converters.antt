-- Laws of the converters' part: document 01's sentence, which knows no fuel; the recursion towards bus 0 step by step; on what it
-- depends. Assumes nothing.
use Rattle.std.specs.Prelude.{ℕ, zero, suc, ◌+◌, ◌*◌, ◌≤◌, ◌<◌, ◌≡◌, refl, Bool, true, false, cond, ltb}
use Rattle.std.proofs.Common.{◌∙◌, ap, ap₂, ⊎_elim, arith, le_refl, eq-zero-or-pos, add-one}
use Rattle.enclosure.specs.Exact.{Point, Ops, exact}
use Rattle.tree.specs.Grid.{Gather, Grid, parent_of, Treelike, downward, upward, across, CurrentSentence, carried_without, currents, carried}
use Rattle.tree.specs.laws.Walk.{walk_related, walk_equation, only_walk, by_number}
use Rattle.tree.specs.laws.Toward.{toward_more, toward_end, toward_same, depth, depth_more, depth_end}
use Rattle.tree.specs.laws.Grid.{Shaped}
use Rattle.tree.specs.Converters.{to_root, from_root, gathered, carried_by}

pub across_cases : {A : Type 0} (o : Ops A) (G : Grid) (b i : ℕ) (x : A) (P : A → Type 0)
    → (ltb i b ≡ true → P (downward o G b x)) → (ltb i b ≡ false → P (upward o G i x)) → P (across o G b i x)
unfolding across
across_cases o G b i x P parent child = go (ltb i b) refl
  where
    go : (d : Bool) → ltb i b ≡ d → P (cond d (downward o G b x) (upward o G i x))
    go true q = parent q
    go false q = child q

pub carried_sentence : (G : Grid) → Treelike G → CurrentSentence G (carried_without G)
unfolding carried_without
carried_sentence G t b w l =
    walk_equation (currents exact G.current G) (parent_of G) G.count G.count (λ i. i) (by_number (parent_of G) G.count t) (2 * G.count + 1) b w l (omega arith)

pub sentence_carried : (G : Grid) → Treelike G → (S : ℕ → ℕ → Point) → CurrentSentence G S → (b w : ℕ) → b < G.count → S b w ≡ carried_without G b w
unfolding carried_without
sentence_carried G t S q b w l =
    only_walk (currents exact G.current G) (parent_of G) G.count G.count (λ i. i) (by_number (parent_of G) G.count t) S q (2 * G.count + 1) b w l (omega arith)

-- ---- for code: the cases of the recursions, and one more bus in a loop
pub to_root_more : {A : Type 0} (o : Ops A) (G : Grid) (b : ℕ) (x : A) → parent_of G b < b → to_root o G b x ≡ to_root o G (parent_of G b) (upward o G b x)
unfolding to_root
to_root_more {A} o G b x h = ap (λ (f : A → A). f x) (toward_more (parent_of G) (λ i carry y. carry (upward o G i y)) (λ y. y) b h)

pub to_root_end : {A : Type 0} (o : Ops A) (G : Grid) (b : ℕ) (x : A) → b ≤ parent_of G b → to_root o G b x ≡ x
unfolding to_root
to_root_end {A} o G b x h = ap (λ (f : A → A). f x) (toward_end (parent_of G) (λ i carry y. carry (upward o G i y)) (λ y. y) b h)

pub from_root_more : {A : Type 0} (o : Ops A) (G : Grid) (b : ℕ) (x : A) → parent_of G b < b → from_root o G b x ≡ downward o G b (from_root o G (parent_of G b) x)
unfolding from_root
from_root_more o G b x h = toward_more (parent_of G) (downward o G) x b h

pub from_root_end : {A : Type 0} (o : Ops A) (G : Grid) (b : ℕ) (x : A) → b ≤ parent_of G b → from_root o G b x ≡ x
unfolding from_root
from_root_end o G b x h = toward_end (parent_of G) (downward o G) x b h

pub gathered_more : {A : Type 0} (o : Ops A) (c : ℕ → A) (G : Grid) (i : ℕ) → gathered o c G (i + 1) ≡ o.add (gathered o c G i) (to_root o G i (c i))
gathered_more o c G i = rw add-one

-- ---- it depends on nothing but the tree, the rated volts and the buses' currents
pub carried_same : {A : Type 0} (o : Ops A) (c c' : ℕ → A) (G H : Grid) → Shaped G H → ((i : ℕ) → i < G.count → c i ≡ c' i)
    → (b : ℕ) → b < G.count → carried_by o c G b ≡ carried_by o c' H b
unfolding to_root from_root
carried_same {A} o c c' G H s h b l = from_same b (gathered o c G G.count) l ∙ ap (from_root o H b) (all G.count (le_refl G.count) ∙ ap (gathered o c' H) s.count)
  where
    up_same : (j : ℕ) (carry : A → A) → 0 < j → j < G.count → ◌≡◌ {A = A → A} (λ y. carry (upward o G j y)) (λ y. carry (upward o H j y))
    up_same j carry z m = ap₂ {C = A → A} (λ (p q : ℕ) y. carry (o.scale p q y)) (s.below j z m) (s.above j z m)

    down_same : (j : ℕ) (y : A) → 0 < j → j < G.count → downward o G j y ≡ downward o H j y
    down_same j y z m = rw (s.above j z m, s.below j z m, downward)

    to_same : (i : ℕ) (x : A) → i < G.count → to_root o G i x ≡ to_root o H i x
    to_same i x l =
        ap (λ (f : A → A). f x)
        (toward_same (parent_of G) (parent_of H) (λ j carry y. carry (upward o G j y)) (λ j carry y. carry (upward o H j y)) (λ y. y) G.count s.parent
        up_same i i l)

    from_same : (i : ℕ) (x : A) → i < G.count → from_root o G i x ≡ from_root o H i x
    from_same i x l =
        toward_same (parent_of G) (parent_of H) (downward o G) (downward o H) x G.count s.parent down_same i i l

    all : (n : ℕ) → n ≤ G.count → gathered o c G n ≡ gathered o c' H n
    all zero m = refl
    all (suc n) m = ap₂ o.add (all n (omega arith)) (to_same n (c n) m ∙ ap (to_root o H n) (h n m))

-- ---- what holds at a bus and over a branch holds at the end of a way: R d b x y is what is known of x and y at b after d branches
module _ {A B : Type 0} (o : Ops A) (o' : Ops B) (G : Grid) (tree : Treelike G) (D : ℕ) (R : ℕ → ℕ → A → B → Type 0)
    (rises : (d b : ℕ) (x : A) (y : B) → d < D → 0 < b → b < G.count → R d b x y → R (suc d) (parent_of G b) (upward o G b x) (upward o' G b y))
    (falls : (d b : ℕ) (x : A) (y : B) → d < D → 0 < b → b < G.count → R d (parent_of G b) x y → R (suc d) b (downward o G b x) (downward o' G b y)) where
  up_end : (b d e : ℕ) (x : A) (y : B) → b ≡ 0 → d + depth (parent_of G) b ≡ e → R d b x y → R e 0 (to_root o G b x) (to_root o' G b y)
  up_end b d e x y z q h =
      let g : d ≡ e = omega (arith, depth_end (parent_of G) b (omega arith)) in
      rw (to_root_end o G b x (omega arith), to_root_end o' G b y (omega arith)) (rw (g, z) at h)

  up : (n b d e : ℕ) (x : A) (y : B) → b ≤ n → b < G.count → d + depth (parent_of G) b ≡ e → e ≤ D → R d b x y → R e 0 (to_root o G b x) (to_root o' G b y)
  up zero b d e x y l m q k h = up_end b d e x y (omega arith) q h
  up (suc n) b d e x y l m q k h =
      ⊎_elim (λ z. up_end b d e x y z q h)
      (λ z.
      let t = tree b z m in
      let g = depth_more (parent_of G) b t in
      rw (to_root_more o G b x t, to_root_more o' G b y t) (up n (parent_of G b) (suc d) e _ _ (omega arith) (omega arith) (omega arith) k (rises d b x y (omega arith) z m h)))
      (eq-zero-or-pos b)

  pub to_root_related : (b d e : ℕ) (x : A) (y : B) → b < G.count → d + depth (parent_of G) b ≡ e → e ≤ D → R d b x y → R e 0 (to_root o G b x) (to_root o' G b y)
  to_root_related b d e x y = up b b d e x y (le_refl b)

  down_end : (b d e : ℕ) (x : A) (y : B) → b ≡ 0 → d + depth (parent_of G) b ≡ e → R d 0 x y → R e b (from_root o G b x) (from_root o' G b y)
  down_end b d e x y z q h =
      let g : d ≡ e = omega (arith, depth_end (parent_of G) b (omega arith)) in
      rw (from_root_end o G b x (omega arith), from_root_end o' G b y (omega arith), z) (rw g at h)

  down : (n b d e : ℕ) (x : A) (y : B) → b ≤ n → b < G.count → d + depth (parent_of G) b ≡ e → e ≤ D → R d 0 x y → R e b (from_root o G b x) (from_root o' G b y)
  down zero b d e x y l m q k h = down_end b d e x y (omega arith) q h
  down (suc n) b d e x y l m q k h =
      ⊎_elim (λ z. down_end b d e x y z q h)
      (λ z.
      let t = tree b z m in
      let c : ℕ = d + depth (parent_of G) (parent_of G b) in
      let g : suc c ≡ e = omega (arith, depth_more (parent_of G) b t) in
      rw (from_root_more o G b x t, from_root_more o' G b y t)
      (rw g at (falls c b _ _ (omega arith) z m (down n (parent_of G b) d c x y (omega arith) (omega arith) refl (omega arith) h))))
      (eq-zero-or-pos b)

  pub from_root_related : (b d e : ℕ) (x : A) (y : B) → b < G.count → d + depth (parent_of G) b ≡ e → e ≤ D → R d 0 x y → R e b (from_root o G b x) (from_root o' G b y)
  from_root_related b d e x y = down b b d e x y (le_refl b)

-- ---- a current without an imaginary part
pub carried_real : (G : Grid) → ((i : ℕ) → i < G.count → (G.current i).im ≡ 0) → (b : ℕ) → b < G.count → (carried G b).im ≡ 0
unfolding carried_without
carried_real G h b lb =
    walk_related W W (parent_of G) G.count (λ c x y. x.im ≡ 0) h (λ c x x' y y' l p q. added x.im x'.im x.den x'.den p q) (λ c i x y lc li e p. crossed c i x p) (2 * G.count + 1) b b lb
  where
    W : Gather Point
    W = currents exact G.current G

    added : (a a' d d' : ℕ) → a ≡ 0 → a' ≡ 0 → a * d' + a' * d ≡ 0
    added a a' d d' p q = rw (p, q) (omega arith)

    crossed : (c i : ℕ) (x : Point) → x.im ≡ 0 → (across exact G c i x).im ≡ 0
    crossed c i x p = across_cases exact G c i x (λ t. t.im ≡ 0) (λ d. rw p (omega arith)) (λ d. rw p (omega arith))
