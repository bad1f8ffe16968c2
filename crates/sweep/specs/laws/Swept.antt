-- THE TWO SWEEPS GIVE WHAT A WALK FROM EACH BUS GIVES, in the very same doubles, for a tree of at most
-- `max_buses` buses, none deeper than `max_branches`.
-- Assumes nothing.
use Rattle.std.specs.Prelude.{◌≡◌, Bool, ltb, ℕ, zero, suc, ◌+◌, ◌-◌, ◌≤◌, ◌<◌}
use Rattle.std.proofs.Common.{◌∙◌, arith, lt-ltb, le-ltb, eqb-true}
use Rattle.std.proofs.lemmas.Bool.{eqb-false}
use Rattle.std.proofs.Math.Path.{refl, sym, ap, ap₂}
use Rattle.std.proofs.Math.Bool.{true, false, cond}
use Rattle.std.proofs.Math.Dec.{eqb}
use Rattle.enclosure.specs.declared.Complex.{Complex}
use Rattle.enclosure.specs.Doubles.{added, doubles}
use Rattle.tree.specs.Limits.{max_branches, walk_steps, max_buses}
use Rattle.tree.specs.laws.Toward.{depth}
use Rattle.tree.specs.Grid.{Grid, parent_of, Treelike, through, seen_by}
use Rattle.tree.specs.laws.Sweeps.{over_from, over_from_law, from_same, gathers_beside, Swept, swept_walk, gathers_up, gathers_all, gathers_down}
use Rattle.sweep.specs.declared.columns.Points.{Points}
use Rattle.sweep.specs.declared.sweeps.Rises.{Rises}
use Rattle.sweep.specs.declared.sweeps.Falls.{Falls}
use Rattle.sweep.specs.Points.{point_of, no_points, put}
use Rattle.sweep.specs.Sweep.{child_of, with_children, with_parent, rise_of, handed_on, up_step, up_from, rises_of, down_at, taken, down_step, fall_to, falls_of, seen_of}
use Rattle.sweep.specs.laws.Columns.{Sized, no_points_sized, put_sized, put_same, put_other}
use Rattle.sweep.specs.laws.Steps.{over_past}

-- ---- TOWARDS BUS 0: what stands in the columns when the buses from k on are done
module _ (z own : ℕ → Complex) (G : Grid) where
  -- b itself and its children from lo on, the last one first
  abbrev part : (ℕ → Complex) → ℕ → ℕ → Complex
  part rise b lo = over_from added (λ i. eqb (parent_of G i) b) rise (own b) lo (G.count - lo)

  part_same : (rise rise' : ℕ → Complex) (b lo : ℕ) → ((j : ℕ) → lo ≤ j → rise j ≡ rise' j) → part rise b lo ≡ part rise' b lo
  part_same rise rise' b lo h =
      from_same added (λ i. eqb (parent_of G i) b) (λ i. eqb (parent_of G i) b) rise rise' (own b) lo (G.count - lo) (λ i l m. refl) (λ i l m. h i l)

  part_more : (rise : ℕ → Complex) (b k : ℕ) → k < G.count → part rise b k ≡ cond (eqb (parent_of G k) b) (added (part rise b (suc k)) (rise k)) (part rise b (suc k))
  part_more rise b k l = let e : G.count - k ≡ suc (G.count - suc k) = omega arith in rw e

  record Done (s : Rises) (k : ℕ) : Type 0 where
    up_sized : Sized s.up
    rise_sized : Sized s.rise
    before_sized : Sized s.before
    going : (b : ℕ) → b < k → point_of s.up b ≡ part (point_of s.rise) b k
    done : (b : ℕ) → k ≤ b → b < G.count → point_of s.up b ≡ part (point_of s.rise) b (suc b)
    risen : (i : ℕ) → k ≤ i → 0 < i → i < G.count → point_of s.rise i ≡ through doubles z G (parent_of G i) i (part (point_of s.rise) i (suc i))
    had : (i : ℕ) → k ≤ i → 0 < i → i < G.count → point_of s.before i ≡ part (point_of s.rise) (parent_of G i) (suc i)

  -- a bus but bus 0 hands on
  module _ (few : G.count ≤ max_buses) (s : Rises) (k : ℕ) (l : k < G.count) (t : parent_of G k < k) (d : Done s (suc k)) (r : Complex) (q : r ≡ rise_of z G s.up k) where
    rise' : ℕ → Complex
    rise' = point_of (put s.rise k r)

    new : rise' k ≡ r
    unfolding rise'
    new = put_same s.rise k r d.rise_sized (omega arith)

    kept : (j : ℕ) → (j ≡ k → ⊥) → rise' j ≡ point_of s.rise j
    unfolding rise'
    kept j h = put_other s.rise k j r h

    parts : (b lo : ℕ) → k < lo → part (point_of s.rise) b lo ≡ part rise' b lo
    parts b lo h = part_same (point_of s.rise) rise' b lo (λ j m. sym (kept j (λ e. omega arith)))

    -- what is gathered at k or past it was complete
    old : (b : ℕ) → k ≤ b → b < G.count → point_of s.up b ≡ part rise' b (suc b)
    old b m n = go (eqb b k) refl ∙ parts b (suc b) (omega arith)
      where
        go : (u : Bool) → eqb b k ≡ u → point_of s.up b ≡ part (point_of s.rise) b (suc b)
        go true e = rw (eqb-true b k e) (d.going k (omega arith))
        go false e = let f = eqb-false b k e in d.done b (omega arith) n

    up' : Points
    up' = put s.up (parent_of G k) (added (point_of s.up (parent_of G k)) r)

    going' : (b : ℕ) → b < k → point_of up' b ≡ part rise' b k
    unfolding up'
    going' b m = go (eqb (parent_of G k) b) refl ∙ sym (part_more rise' b k l)
      where
        go : (u : Bool) → eqb (parent_of G k) b ≡ u → point_of up' b ≡ cond (eqb (parent_of G k) b) (added (part rise' b (suc k)) (rise' k)) (part rise' b (suc k))
        go true e =
            let f = eqb-true (parent_of G k) b e in
            rw (e, ← f)
            (put_same s.up (parent_of G k) (added (point_of s.up (parent_of G k)) r) d.up_sized (omega arith)
            ∙ ap₂ added (d.going (parent_of G k) (omega arith) ∙ parts (parent_of G k) (suc k) (omega arith)) (sym new))
        go false e =
            let f = eqb-false (parent_of G k) b e in
            rw e
            (put_other s.up (parent_of G k) b (added (point_of s.up (parent_of G k)) r) (λ x. f (sym x)) ∙ d.going b (omega arith) ∙ parts b (suc k) (omega arith))

    done' : (b : ℕ) → k ≤ b → b < G.count → point_of up' b ≡ part rise' b (suc b)
    unfolding up'
    done' b m n = put_other s.up (parent_of G k) b (added (point_of s.up (parent_of G k)) r) (λ x. omega arith) ∙ old b m n

    risen' : (i : ℕ) → k ≤ i → 0 < i → i < G.count → rise' i ≡ through doubles z G (parent_of G i) i (part rise' i (suc i))
    risen' i m y n = go (eqb i k) refl
      where
        go : (u : Bool) → eqb i k ≡ u → rise' i ≡ through doubles z G (parent_of G i) i (part rise' i (suc i))
        go true e =
            rw (eqb-true i k e) (new ∙ q ∙ ap (through doubles z G (parent_of G k) k) (old k (omega arith) l))
        go false e =
            let f = eqb-false i k e in
            kept i f ∙ d.risen i (omega arith) y n ∙ ap (through doubles z G (parent_of G i) i) (parts i (suc i) (omega arith))

    had' : (i : ℕ) → k ≤ i → 0 < i → i < G.count → point_of (put s.before k (point_of s.up (parent_of G k))) i ≡ part rise' (parent_of G i) (suc i)
    had' i m y n = go (eqb i k) refl
      where
        go : (u : Bool) → eqb i k ≡ u → point_of (put s.before k (point_of s.up (parent_of G k))) i ≡ part rise' (parent_of G i) (suc i)
        go true e =
            rw (eqb-true i k e)
            (put_same s.before k (point_of s.up (parent_of G k)) d.before_sized (omega arith) ∙ d.going (parent_of G k) (omega arith) ∙ parts (parent_of G k) (suc k) (omega arith))
        go false e =
            let f = eqb-false i k e in
            put_other s.before k i (point_of s.up (parent_of G k)) f ∙ d.had i (omega arith) y n ∙ parts (parent_of G i) (suc i) (omega arith)

    done_handed : Done (handed_on z G s k r) k
    unfolding up' rise'
    done_handed = record {
      up_sized = put_sized s.up (parent_of G k) (added (point_of s.up (parent_of G k)) r) d.up_sized;
      rise_sized = put_sized s.rise k r d.rise_sized;
      before_sized = put_sized s.before k (point_of s.up (parent_of G k)) d.before_sized;
      going = going';
      done = done';
      risen = risen';
      had = had';
    }

  -- bus 0 does not
  done_zero : (s : Rises) → Done s 1 → Done s 0
  done_zero s d = record {
    up_sized = d.up_sized;
    rise_sized = d.rise_sized;
    before_sized = d.before_sized;
    going = λ b l. absurd (omega arith);
    done = λ b m n. go b n;
    risen = λ i m y n. d.risen i (omega arith) y n;
    had = λ i m y n. d.had i (omega arith) y n;
  }
    where
      go : (b : ℕ) → b < G.count → point_of s.up b ≡ part (point_of s.rise) b (suc b)
      go zero n = d.going 0 (omega arith)
      go (suc b) n = d.done (suc b) (omega arith) n

  module _ (few : G.count ≤ max_buses) (tree : Treelike G) where
    done_step : (s : Rises) (k : ℕ) → k < G.count → Done s (suc k) → Done (up_step z G s k) k
    unfolding up_step
    done_step s zero l d = rw (le-ltb (parent_of G 0) 0 (omega arith)) (done_zero s d)
    done_step s (suc k) l d =
        let t = tree (suc k) (omega arith) l in
        rw (lt-ltb (parent_of G (suc k)) (suc k) t) (done_handed few s (suc k) l t d (rise_of z G s.up (suc k)) refl)

    done_all : (s : Rises) (k : ℕ) → k ≤ G.count → Done s k → Done (up_from z G s k) 0
    done_all s zero l d = d
    done_all s (suc k) l d = done_all (up_step z G s k) k (omega arith) (done_step s k (omega arith) d)

-- ---- AWAY FROM BUS 0
module _ (z : ℕ → Complex) (G : Grid) (rise before : ℕ → Complex) where
  abbrev after : ℕ → Falls
  after k = fall_to z G rise before k

  abbrev fallen : ℕ → ℕ → Complex
  fallen k = point_of (after k).fall

  abbrev down_after : ℕ → ℕ → Complex
  down_after k = point_of (after k).down

  -- what bus k takes when it is its turn
  abbrev takes : ℕ → Complex
  takes k = down_at (parent_of G) rise before (fallen k) k

  fall_sized : (k : ℕ) → Sized (after k).fall × Sized (after k).down
  unfolding down_step
  fall_sized zero = (no_points_sized, no_points_sized)
  fall_sized (suc k) = go (ltb (parent_of G k) k) (fall_sized k)
    where
      go : (t : Bool) → Sized (after k).fall × Sized (after k).down → Sized (cond t (taken z G (after k) k (takes k)) (after k)).fall × Sized (cond t (taken z G (after k) k (takes k)) (after k)).down
      go true h = (put_sized (after k).fall k (through doubles z G k (parent_of G k) (takes k)) h.0, put_sized (after k).down k (takes k) h.1)
      go false h = h

  -- a bus that is done stays
  fall_next : (k j : ℕ) → (j ≡ k → ⊥) → (fallen (suc k) j ≡ fallen k j) × (down_after (suc k) j ≡ down_after k j)
  unfolding down_step
  fall_next k j d = go (ltb (parent_of G k) k)
    where
      go : (t : Bool) → (point_of (cond t (taken z G (after k) k (takes k)) (after k)).fall j ≡ fallen k j) × (point_of (cond t (taken z G (after k) k (takes k)) (after k)).down j ≡ down_after k j)
      go true = (put_other (after k).fall k j (through doubles z G k (parent_of G k) (takes k)) d, put_other (after k).down k j (takes k) d)
      go false = (refl, refl)

  fall_stays : (k j : ℕ) → j < k → (fallen k j ≡ fallen (suc j) j) × (down_after k j ≡ down_after (suc j) j)
  fall_stays zero j l = absurd (omega arith)
  fall_stays (suc k) j l = go (eqb j k) refl (fall_stays k j)
    where
      go : (t : Bool) → eqb j k ≡ t → (j < k → (fallen k j ≡ fallen (suc j) j) × (down_after k j ≡ down_after (suc j) j))
          → (fallen (suc k) j ≡ fallen (suc j) j) × (down_after (suc k) j ≡ down_after (suc j) j)
      go true e r = let f = eqb-true j k e in (ap (λ (n : ℕ). fallen (suc n) j) (sym f), ap (λ (n : ℕ). down_after (suc n) j) (sym f))
      go false e r =
          let d = eqb-false j k e in
          let h = r (omega arith) in
          let n = fall_next k j d in
          (n.0 ∙ h.0, n.1 ∙ h.1)

  down_same : (fall fall' : ℕ → Complex) (i : ℕ) → fall (parent_of G i) ≡ fall' (parent_of G i) → down_at (parent_of G) rise before fall i ≡ down_at (parent_of G) rise before fall' i
  unfolding down_at with_parent
  down_same fall fall' i h = rw h

  module _ (k i : ℕ) (m : k ≤ max_buses) (l : i < k) (t : parent_of G i < i) where
    down_last : takes i ≡ down_at (parent_of G) rise before (fallen k) i
    down_last = down_same (fallen i) (fallen k) i ((fall_stays i (parent_of G i) t).0 ∙ sym (fall_stays k (parent_of G i) (omega arith)).0)

    down_solves : down_after k i ≡ down_at (parent_of G) rise before (fallen k) i
    unfolding down_step
    down_solves =
        (fall_stays k i l).1
        ∙ rw (lt-ltb (parent_of G i) i t) (put_same (fall_to z G rise before i).down i (takes i) (fall_sized i).1 (omega arith))
        ∙ down_last

    fall_solves : fallen k i ≡ through doubles z G i (parent_of G i) (down_at (parent_of G) rise before (fallen k) i)
    unfolding down_step
    fall_solves =
        (fall_stays k i l).0
        ∙ rw (lt-ltb (parent_of G i) i t) (put_same (fall_to z G rise before i).fall i (through doubles z G i (parent_of G i) (takes i)) (fall_sized i).0 (omega arith))
        ∙ ap (through doubles z G i (parent_of G i)) down_last

-- siblings before c, after those past it
children_from : (p : ℕ → ℕ) (rise : ℕ → Complex) (x : Complex) (b c : ℕ) → b < c → with_children p rise x b c ≡ over_from added (λ i. eqb (p i) b) rise x (suc b) (c - suc b)
unfolding with_children
children_from p rise x b c t =
    let e : c - suc b + suc b ≡ c = omega arith in
    let r = over_from_law added (child_of p b) rise x (suc b) (c - suc b) in
    (rw e at r)
    ∙ over_past added p rise (over_from added (child_of p b) rise x (suc b) (c - suc b)) b (suc b) (omega arith)
    ∙ from_same added (child_of p b) (λ i. eqb (p i) b) rise rise x (suc b) (c - suc b) (λ i u v. rw (lt-ltb b i (omega arith))) (λ i u v. refl)

-- ---- THE BRIDGE: z the impedances of the branches, own what stands at each bus
module _ (z : ℕ → Complex) (G : Grid) (own : Points) where
  abbrev pub ups : ℕ → Complex
  ups = point_of (rises_of z G own).up

  abbrev pub rises : ℕ → Complex
  rises = point_of (rises_of z G own).rise

  abbrev pub befores : ℕ → Complex
  befores = point_of (rises_of z G own).before

  abbrev pub falls : ℕ → Complex
  falls = point_of (falls_of z G rises befores).fall

  abbrev pub downs : ℕ → Complex
  downs = point_of (falls_of z G rises befores).down

  module _ (few : G.count ≤ max_buses) (sized : Sized own) (tree : Treelike G) where
    all_done : Done z (point_of own) G (rises_of z G own) 0
    unfolding rises_of
    all_done =
        done_all z (point_of own) G few tree (record { up = own; rise = no_points; before = no_points }) G.count (omega arith) (record {
          up_sized = sized;
          rise_sized = no_points_sized;
          before_sized = no_points_sized;
          going = λ b l. let e : G.count - G.count ≡ 0 = omega arith in rw e;
          done = λ b m n. absurd (omega arith);
          risen = λ i m y n. absurd (omega arith);
          had = λ i m y n. absurd (omega arith);
        })

    down_gathered : (c : ℕ) → 0 < c → c < G.count
        → down_at (parent_of G) rises befores falls c
        ≡ cond (ltb 0 (parent_of G c)) (added (gathers_beside doubles z (point_of own) G rises falls tree c) (falls (parent_of G c))) (gathers_beside doubles z (point_of own) G rises falls tree c)
    unfolding down_at with_parent
    down_gathered c y l =
        let b = parent_of G c in
        ap (λ (a : Complex). cond (ltb 0 b) (added a (falls b)) a)
        (children_from (parent_of G) rises (befores c) b c (tree c y l)
        ∙ ap (λ (a : Complex). over_from added (λ i. eqb (parent_of G i) b) rises a (suc b) (c - suc b)) (all_done.had c (omega arith) y l))

    pub swept : Swept doubles z (point_of own) G rises falls
    unfolding falls_of
    swept = record {
      rises = λ i y l.
          all_done.risen i (omega arith) y l
          ∙ ap (through doubles z G (parent_of G i) i) (sym (gathers_up doubles z (point_of own) G rises falls tree i y l));
      falls = λ b y l.
          fall_solves z G rises befores G.count b few l (tree b y l)
          ∙ ap (through doubles z G b (parent_of G b)) (down_gathered b y l ∙ sym (gathers_down doubles z (point_of own) G rises falls tree b y l));
    }

    module _ (shallow : (i : ℕ) → i < G.count → depth (parent_of G) i ≤ max_branches) where
      -- without its parent: one side of its branch
      pub up_walk : (b : ℕ) → 0 < b → b < G.count → ups b ≡ seen_by doubles z (point_of own) G walk_steps b (parent_of G b)
      up_walk b y l =
          all_done.done b (omega arith) l
          ∙ sym (gathers_up doubles z (point_of own) G rises falls tree b y l)
          ∙ swept_walk doubles z (point_of own) G rises falls tree swept shallow b (parent_of G b) l

      -- without a child: the other side of the branch
      pub down_walk : (c : ℕ) → 0 < c → c < G.count → downs c ≡ seen_by doubles z (point_of own) G walk_steps (parent_of G c) c
      unfolding falls_of
      down_walk c y l =
          let t = tree c y l in
          down_solves z G rises befores G.count c few l t
          ∙ down_gathered c y l
          ∙ sym (gathers_down doubles z (point_of own) G rises falls tree c y l)
          ∙ swept_walk doubles z (point_of own) G rises falls tree swept shallow (parent_of G c) c (omega arith)

      -- without none: WHAT IS SEEN AT EACH BUS
      pub all_walk : (b : ℕ) → b < G.count → seen_of (rises_of z G own).up (falls_of z G rises befores).fall b ≡ seen_by doubles z (point_of own) G walk_steps b b
      unfolding seen_of with_parent
      all_walk b l =
          ap (λ (a : Complex). cond (ltb 0 b) (added a (falls b)) a) (all_done.done b (omega arith) l)
          ∙ sym (gathers_all doubles z (point_of own) G rises falls tree b l)
          ∙ swept_walk doubles z (point_of own) G rises falls tree swept shallow b b l
