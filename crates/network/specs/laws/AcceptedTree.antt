-- What acceptance gives of a network's tree: its shape, its voltages, and how near and how large each element is.
-- Assumes nothing.
use Rattle.std.specs.Prelude.{◌≡◌, Bool, true, false, cond, [], ◌∷◌, ltb, length, ℕ, suc, ◌+◌, ◌*◌, ◌^◌, min, ◌≤◌, ◌<◌}
use Rattle.std.proofs.Common.{subst, le_trans, mul-le-mul, mul-pos, lit≤, eqb-true, ne_eqb, arith}
use Rattle.std.proofs.Math.Path.{refl}
use Rattle.std.proofs.Math.Logic.{inr, ⊎_elim}
use Rattle.std.proofs.Math.Numerals.{add-one}
use Rattle.std.proofs.Math.Dec.{lit<}
use Rattle.algebra.specs.Reading.{from, read, ◌⊹◌, ◌⋆◌}
use Rattle.enclosure.specs.Exact.{Point, exact, inverse}
use Rattle.enclosure.specs.laws.Nearness.{inverse_proper}
use Rattle.enclosure.specs.laws.F64Range.{Factor}
use Rattle.enclosure.specs.declared.Complex.{Complex}
use Rattle.elements.specs.Impedance.{converter}
use Rattle.elements.specs.laws.ImpedanceErrors.{line_near, transformer_near, feeder_near, generator_near, motor_near, unit_near, converter_near, admittance_near}
use Rattle.tree.specs.Limits.{machine_parts}
use Rattle.tree.specs.Grid.{joined, times_square, parent_of}
use Rattle.tree.specs.laws.Walk.{to_parent, to_child}
use Rattle.tree.specs.laws.Toward.{toward_same, depth}
use Rattle.tree.specs.laws.AdmittanceSizes.{AtLeast, referred, low_inverse, most_inverse}
use Rattle.tree.specs.laws.Accuracy.{Accurate, accurate_more}
use Rattle.tree.specs.laws.TreeBounds.{Sound, Levels, tenths, Impedance}
use Rattle.tree.specs.laws.BusSums.{Bounded}
use Rattle.network.specs.Network as records
use Rattle.network.specs.Network.{Network, bus_at, source_at, along}
use Rattle.network.specs.laws.Rebuilt.{Rebuilt}
use Rattle.network.specs.laws.AcceptedRecords.{bus_volts, bus_parent, bus_kind, line_ranges, transformer_ranges, line_volts, transformer_volts, bus_depth, Rated, source_kind_ok_law, source_bus, feeder_ranges, generator_ranges, motor_ranges, unit_ranges, converter_ranges, machine_volts_law, unit_volts, ConverterRanges}
use Rattle.network.specs.SourceKinds.{is_machine, is_converter, impedance_of, current_of}
use Rattle.network.specs.laws.SourceKinds.{machine_cases}
use Rattle.network.specs.RoundedSourceKinds.{admittance_by, supplied_by}
use Rattle.network.specs.Grid.{branch_of, above_of, below_of, admittance_of, grid_of}
use Rattle.network.specs.Doubles.{branch_by, machine_by, branches_by}
use Rattle.network.specs.laws.ElementSizes.{branch_most, machine_most, line_impedance, line_least, transformer_impedance, transformer_least, transformer_least_above, Machine, feeder_machine, generator_machine, motor_machine}
use Rattle.network.specs.laws.StationUnitSizes.{UnitRange, unit_machine}

-- nominal volts
abbrev pub volts_of : Network → ℕ → ℕ
volts_of n b = (bus_at n.buses b).volts

-- a rated voltage near a nominal one
rated_least : (v u : ℕ) → 100 ≤ u → 9 * u ≤ 10 * v → 90 ≤ v
rated_least v u h k = omega arith

rated_most : (v u : ℕ) → u ≤ 420000 → 10 * v ≤ 11 * u → v ≤ 462000
rated_most v u h k = omega arith

-- an impedance with a reactance has an admittance with one
turned_reactive : (x : Point) → 0 < x.den → 0 < x.im → 0 < (inverse x).im
unfolding inverse
turned_reactive x d h = rw (ne_eqb (x.re + x.im) 0 (λ e. omega arith)) (mul-pos h d)

-- rated volts on both sides of a branch, against the nominal volts u of its bus and v of the parent
record Sides (above below u v : ℕ) : Type 0 where
  pub above_volts : Factor above
  pub below_volts : Factor below
  pub above_near : 9 * (above * u) ≤ 11 * (below * v)
  pub below_near : 9 * (below * v) ≤ 11 * (above * u)

sides_line : (u v : ℕ) → v ≡ u → Sides 1 1 u v
sides_line u v e = record { above_volts = (lit< tt, lit< tt); below_volts = (lit< tt, lit< tt); above_near = omega arith; below_near = omega arith }

sides_transformer : (p q u v : ℕ) → (100 ≤ u) × (u ≤ 420000) → (100 ≤ v) × (v ≤ 420000) → Rated p v → Rated q u → Sides p q u v
sides_transformer p q u v hu hv hp hq = record {
  above_volts = (le_trans (lit≤ tt) (rated_least p v hv.0 hp.least), le_trans (add_one_le (rated_most p v hv.1 hp.most)) (lit≤ tt));
  below_volts = (le_trans (lit≤ tt) (rated_least q u hu.0 hq.least), le_trans (add_one_le (rated_most q u hu.1 hq.most)) (lit≤ tt));
  above_near = tenths p q u v hp.most hq.least;
  below_near = tenths q p v u hq.most hp.least;
}
  where
    add_one_le : {a b : ℕ} → a ≤ b → suc a ≤ suc b
    add_one_le {a} {b} h = omega arith

module _ {n : Network} (r : Rebuilt n) where
  -- ---- a bus and its branch, by the kind
  module _ (i : ℕ) (z : 0 < i) (l : i < length n.buses) where
    parent_volts : (100 ≤ volts_of n (bus_at n.buses i).parent) × (volts_of n (bus_at n.buses i).parent ≤ 420000)
    parent_volts = bus_volts r (bus_at n.buses i).parent (omega (arith, bus_parent r i l z))

    sides : Sides (above_of (bus_at n.buses i)) (below_of (bus_at n.buses i)) (volts_of n i) (volts_of n (bus_at n.buses i).parent)
    unfolding above_of below_of
    sides =
        ⊎_elim
        (λ (k : (bus_at n.buses i).kind ≡ 1). rw k (sides_line (volts_of n i) (volts_of n (bus_at n.buses i).parent) (line_volts r i l k)))
        (λ (k : (bus_at n.buses i).kind ≡ 2). let t = transformer_volts r i l k in rw k (sides_transformer _ _ _ _ (bus_volts r i l) parent_volts t.0 t.1))
        (bus_kind r i l z)

    -- the branch's impedance: in range, and near its f64
    pub branch_impedance : Impedance (branch_of n.tolerance (records.parent_record n.buses i) (bus_at n.buses i))
    unfolding branch_of
    branch_impedance =
        ⊎_elim
        (λ (k : (bus_at n.buses i).kind ≡ 1). let f = line_ranges r i l k in rw k (line_impedance _ _ _ _ f.r f.x f.ohms f.metres f.metres_most f.circuits f.circuits_most))
        (λ (k : (bus_at n.buses i).kind ≡ 2).
        let f = transformer_ranges r i l k in
        let t = transformer_volts r i l k in
        let u = bus_volts r i l in
        rw k (transformer_impedance n.tolerance _ _ _ _ _ (rated_least _ _ u.0 t.1.least) (rated_most _ _ u.1 t.1.most) f.k_va f.k_va_most f.uk f.uk_most f.u_r))
        (bus_kind r i l z)

    pub near_branch : Accurate 24 (branch_of n.tolerance (records.parent_record n.buses i) (bus_at n.buses i)) (branches_by n i)
    unfolding branch_of branch_by
    near_branch =
        ⊎_elim
        (λ (k : (bus_at n.buses i).kind ≡ 1).
        let f = line_ranges r i l k in
        let h = line_near (bus_at n.buses i).f1 (bus_at n.buses i).f2 (bus_at n.buses i).f3 (bus_at n.buses i).f4 (omega (arith, f.r)) (omega (arith, f.x)) (f.metres, omega (arith, f.metres_most)) (f.circuits, omega (arith, f.circuits_most)) in
        rw k (accurate_more 16 24 _ _ (lit≤ tt) (h.0, h.1.fine)))
        (λ (k : (bus_at n.buses i).kind ≡ 2).
        let f = transformer_ranges r i l k in
        let t = transformer_volts r i l k in
        let u = bus_volts r i l in
        let b = bus_at n.buses i in
        let h = transformer_near n.tolerance (min (records.parent_record n.buses i).volts b.volts) b.f2 b.f3 b.f4 b.f5 f.uk_most (omega (arith, f.u_r))
        (le_trans (lit≤ tt) (rated_least _ _ u.0 t.1.least), omega (arith, rated_most b.f2 (volts_of n i) u.1 t.1.most)) (le_trans (lit≤ tt) f.k_va, omega (arith, f.k_va_most)) in
        rw k (h.0, h.1.fine))
        (bus_kind r i l z)

    -- what is seen through it, from its own side and from the parent's
    branch_least : AtLeast (volts_of n i) branch_most (branch_of n.tolerance (records.parent_record n.buses i) (bus_at n.buses i))
    unfolding branch_of
    branch_least =
        ⊎_elim
        (λ (k : (bus_at n.buses i).kind ≡ 1).
        let f = line_ranges r i l k in
        rw k (line_least _ _ _ _ f.r f.x f.ohms f.metres f.metres_most f.circuits f.circuits_most (volts_of n i) (bus_volts r i l).1))
        (λ (k : (bus_at n.buses i).kind ≡ 2).
        let f = transformer_ranges r i l k in
        let t = transformer_volts r i l k in
        let u = bus_volts r i l in
        rw k (transformer_least n.tolerance _ _ _ _ _ (rated_least _ _ u.0 t.1.least) (rated_most _ _ u.1 t.1.most) f.k_va f.k_va_most f.uk f.uk_most f.u_r (volts_of n i) t.1.least))
        (bus_kind r i l z)

    branch_least_above : AtLeast (volts_of n (bus_at n.buses i).parent) branch_most
        (times_square exact (above_of (bus_at n.buses i)) (below_of (bus_at n.buses i)) (branch_of n.tolerance (records.parent_record n.buses i) (bus_at n.buses i)))
    unfolding branch_of above_of below_of
    branch_least_above =
        ⊎_elim
        (λ (k : (bus_at n.buses i).kind ≡ 1).
        let f = line_ranges r i l k in
        rw k (unscaled _ _ _ (line_least (bus_at n.buses i).f1 (bus_at n.buses i).f2 (bus_at n.buses i).f3 (bus_at n.buses i).f4 f.r f.x f.ohms f.metres f.metres_most f.circuits f.circuits_most _ parent_volts.1)))
        (λ (k : (bus_at n.buses i).kind ≡ 2).
        let f = transformer_ranges r i l k in
        let t = transformer_volts r i l k in
        let u = bus_volts r i l in
        rw k (transformer_least_above n.tolerance _ _ _ _ _ (rated_least _ _ u.0 t.1.least) (rated_most _ _ u.1 t.1.most) f.k_va f.k_va_most f.uk f.uk_most f.u_r _ _ t.0.least (rated_least _ _ parent_volts.0 t.0.least)))
        (bus_kind r i l z)
      where
        unscaled : (U P : ℕ) (x : Point) → AtLeast U P x → AtLeast U P (times_square exact 1 1 x)
        unscaled U P x h = from (U ∷ P ∷ x.re ∷ x.im ∷ x.den ∷ []) h (search read depth 40 fits 20000) refl

  -- ---- the tree
  pub sound : Sound (grid_of n)
  unfolding depth along
  sound = record {
    tree = λ i z l. bus_parent r i l z;
    shallow = λ i l. rw (← same_depth i) (bus_depth r i l).0;
    volts = λ i z l. ((sides i z l).above_volts, (sides i z l).below_volts);
  }
    where
      -- the way to bus 0 in the records is that in the tree
      same_depth : (i : ℕ) → records.depth_of n.buses i ≡ depth (parent_of (grid_of n)) i
      same_depth i = toward_same _ (parent_of (grid_of n)) (λ j d. d + 1) (λ j d. suc d) 0 (suc i) (λ j m. refl) (λ j d z m. add-one d) i i (omega arith)

  pub levels : Levels (grid_of n) (volts_of n)
  levels = record {
    nominal = λ b l. let u = bus_volts r b l in (le_trans (lit≤ tt) u.0, le_trans u.1 (lit≤ tt));
    above = λ i z l. (sides i z l).above_near;
    below = λ i z l. (sides i z l).below_near;
  }

  -- what comes over any branch, seen from bus b
  pub referred_least : (b i : ℕ) → b < length n.buses → i < length n.buses → joined (parent_of (grid_of n)) b i ≡ true → AtLeast (volts_of n b) branch_most (referred (grid_of n) b i)
  referred_least b i lb li e = go (ltb i b) refl
    where
      go : (d : Bool) → ltb i b ≡ d → AtLeast (volts_of n b) branch_most
          (cond d ((grid_of n).branch b).z (times_square exact ((grid_of n).branch i).above ((grid_of n).branch i).below ((grid_of n).branch i).z))
      go true q = branch_least b (to_parent (parent_of (grid_of n)) b i e q).0 lb
      go false q = let t = to_child (parent_of (grid_of n)) b i e q in subst (λ (c : ℕ). AtLeast (volts_of n c) branch_most (times_square exact ((grid_of n).branch i).above ((grid_of n).branch i).below ((grid_of n).branch i).z)) t.1 (branch_least_above i t.0 li)

  -- ---- a machine
  module _ (j : ℕ) (l : j < length n.sources) (m : is_machine (source_at n.sources j) ≡ true) where
    source_volts : (100 ≤ volts_of n (source_at n.sources j).bus) × (volts_of n (source_at n.sources j).bus ≤ 420000)
    source_volts = bus_volts r (source_at n.sources j).bus (source_bus r j l)

    cases : (P : Point → Complex → Type 0)
        → ((source_at n.sources j).kind ≡ 1 → P (impedance_of n.tolerance (volts_of n (source_at n.sources j).bus) (source_at n.sources j)) (machine_by n (source_at n.sources j)))
        → ((source_at n.sources j).kind ≡ 2 → P (impedance_of n.tolerance (volts_of n (source_at n.sources j).bus) (source_at n.sources j)) (machine_by n (source_at n.sources j)))
        → ((source_at n.sources j).kind ≡ 3 → P (impedance_of n.tolerance (volts_of n (source_at n.sources j).bus) (source_at n.sources j)) (machine_by n (source_at n.sources j)))
        → ((source_at n.sources j).kind ≡ 5 → P (impedance_of n.tolerance (volts_of n (source_at n.sources j).bus) (source_at n.sources j)) (machine_by n (source_at n.sources j)))
        → P (impedance_of n.tolerance (volts_of n (source_at n.sources j).bus) (source_at n.sources j)) (machine_by n (source_at n.sources j))
    cases P one two three five = ⊎_elim one (⊎_elim two (⊎_elim three five)) (machine_cases (source_at n.sources j) (source_kind_ok_law r j l) m)

    -- rated volts at its bus
    pub rated : (source_at n.sources j).kind ≡ 2 → Rated (source_at n.sources j).f1 (volts_of n (source_at n.sources j).bus)
    rated k = rw k at (machine_volts_law r j l (rw k))

    pub rated_three : (source_at n.sources j).kind ≡ 3 → Rated (source_at n.sources j).f1 (volts_of n (source_at n.sources j).bus)
    rated_three k = rw k at (machine_volts_law r j l (rw k))

    pub rated_high : (source_at n.sources j).kind ≡ 5 → Rated (source_at n.sources j).high (volts_of n (source_at n.sources j).bus)
    rated_high k = rw k at (machine_volts_law r j l (rw k))

    -- what a unit's record gives, over plain numbers
    pub unit_range : (source_at n.sources j).kind ≡ 5
        → UnitRange (volts_of n (source_at n.sources j).bus) (source_at n.sources j).f1 (source_at n.sources j).f2 (source_at n.sources j).f3 (source_at n.sources j).f4
        (source_at n.sources j).low (source_at n.sources j).high (source_at n.sources j).transformer_kva (source_at n.sources j).uk (source_at n.sources j).ur
    unit_range k =
        let f = unit_ranges r j l k in
        let u = source_volts in
        let g = unit_volts r j l k in
        record {
          volts = u.0;
          volts_most = u.1;
          rated = terminals _ _ f.low g.least;
          kva = f.k_va;
          kva_most = f.k_va_most;
          xd_least = f.xd;
          xd_most = f.xd_most;
          ratio = f.ratio;
          low_some = le_trans (lit≤ tt) f.low;
          low_most = f.low_most;
          high_some = le_trans (lit≤ tt) (rated_least _ _ u.0 (rated_high k).least);
          transformer = f.transformer;
          uk_most = f.uk_most;
          u_r_most = below _ _ f.u_r f.uk_most;
        }
      where
        terminals : (v low : ℕ) → 90 ≤ low → 9 * low ≤ 10 * v → 81 ≤ v
        terminals v low h k = omega arith

        below : (u_r uk : ℕ) → u_r < uk → uk ≤ 30000 → u_r ≤ 30000
        below u_r uk h k = omega arith

    -- its impedance is in range
    pub machine_sized : Machine (volts_of n (source_at n.sources j).bus) (impedance_of n.tolerance (volts_of n (source_at n.sources j).bus) (source_at n.sources j))
    unfolding impedance_of
    machine_sized =
        let u = source_volts in
        cases (λ x y. Machine (volts_of n (source_at n.sources j).bus) x)
        (λ k. let f = feeder_ranges r j l k in rw k (feeder_machine n.tolerance _ _ _ u.0 u.1 f.k_va f.k_va_most f.ratio))
        (λ k.
        let f = generator_ranges r j l k in
        let t = rated k in
        rw k (generator_machine n.tolerance _ _ _ _ _ (source_at n.sources j).f5 u.0 u.1 (rated_least _ _ u.0 t.least) (rated_most _ _ u.1 t.most) f.k_va f.k_va_most f.xd f.xd_most f.ratio))
        (λ k.
        let f = motor_ranges r j l k in
        let t = rated_three k in
        rw k (motor_machine _ _ _ _ _ t.least (rated_least _ _ u.0 t.least) (rated_most _ _ u.1 t.most) f.k_va f.k_va_most f.start f.start_most f.ratio))
        (λ k. rw k (unit_machine n.tolerance _ _ _ _ _ (source_at n.sources j).f5 _ _ _ _ _ (unit_range k)))

    -- and its admittance near its f64
    pub machine_near : Accurate machine_parts (admittance_of n (source_at n.sources j)) (machine_by n (source_at n.sources j))
    unfolding impedance_of admittance_by
    machine_near =
        let u = source_volts in
        let p = source_at n.sources j in
        let U = volts_of n p.bus in
        let hU : Factor U = (le_trans (lit≤ tt) u.0, omega (arith, u.1)) in
        cases (λ x y. Accurate machine_parts (inverse x) y)
        (λ k.
        let f = feeder_ranges r j l k in
        let h = admittance_near 24 _ _ (lit≤ tt) (feeder_near n.tolerance U p.f1 p.f2 f.ratio hU (le_trans (lit≤ tt) f.k_va, omega (arith, f.k_va_most))) in
        rw k (accurate_more 37 machine_parts _ _ (lit≤ tt) (h.0, h.1.fine)))
        (λ k.
        let f = generator_ranges r j l k in
        let t = rated k in
        let h = admittance_near 24 _ _ (lit≤ tt) (generator_near n.tolerance U p.f1 p.f2 p.f3 p.f4 p.f5 f.xd_most f.ratio f.power_factor hU
        (le_trans (lit≤ tt) (rated_least _ _ u.0 t.least), omega (arith, rated_most p.f1 U u.1 t.most)) (le_trans (lit≤ tt) f.k_va, omega (arith, f.k_va_most))) in
        rw k (accurate_more 37 machine_parts _ _ (lit≤ tt) (h.0, h.1.fine)))
        (λ k.
        let f = motor_ranges r j l k in
        let t = rated_three k in
        let h = admittance_near 32 _ _ (lit≤ tt) (motor_near p.f1 p.f2 p.f3 p.f4 f.ratio
        (le_trans (lit≤ tt) (rated_least _ _ u.0 t.least), omega (arith, rated_most p.f1 U u.1 t.most)) (f.k_va, omega (arith, f.k_va_most)) (le_trans (lit≤ tt) f.start, omega (arith, f.start_most))) in
        rw k (accurate_more 45 machine_parts _ _ (lit≤ tt) (h.0, h.1.fine)))
        (λ k.
        let f = unit_ranges r j l k in
        let w = unit_range k in
        let t = rated_high k in
        let g = unit_volts r j l k in
        let h = admittance_near 44 _ _ (lit≤ tt) (unit_near n.tolerance U p.f1 p.f2 p.f3 p.f4 p.f5 p.low p.high p.transformer_kva p.uk p.ur
        f.xd_most f.uk_most (omega (arith, f.u_r)) f.power_factor (omega (arith, f.ratio)) hU (le_trans (lit≤ tt) w.rated, omega (arith, g.most, f.low_most))
        (le_trans (lit≤ tt) f.k_va, omega (arith, f.k_va_most)) (le_trans (lit≤ tt) f.xd, omega (arith, f.xd_most)) (w.low_some, omega (arith, f.low_most))
        (w.high_some, omega (arith, rated_most p.high U u.1 t.most)) (le_trans (lit≤ tt) f.transformer, omega (arith, f.transformer_most))) in
        rw k (h.0, h.1.fine))

    -- its admittance: nothing is gained but what its impedance allows
    admittance_bounded : (Q c : ℕ) → AtLeast Q c (impedance_of n.tolerance (volts_of n (source_at n.sources j).bus) (source_at n.sources j)) → Bounded (2 ^ 60) Q c (admittance_of n (source_at n.sources j))
    admittance_bounded Q c h = record { proper = inverse_proper _; least = low_inverse (2 ^ 60) _ machine_sized.short; most = most_inverse Q c _ h }

    pub machine_bounded : Bounded (2 ^ 60) 1 (2 ^ 100) (admittance_of n (source_at n.sources j))
    machine_bounded = admittance_bounded 1 (2 ^ 100) (wider _ _ _ (le_trans (lit≤ tt) source_volts.0) machine_sized.least)
      where
        wider : (U d s : ℕ) → 0 < U → 2 * (U * d) ≤ machine_most * s → 2 * (1 * d) ≤ 2 ^ 100 * s
        wider U d s z h = from (U ∷ d ∷ s ∷ []) (h ⊹ 2 * d ⋆ z) (search read depth 40 fits 20000) refl

    pub machine_volt_bounded : Bounded (2 ^ 60) (volts_of n (source_at n.sources j).bus) machine_most (admittance_of n (source_at n.sources j))
    machine_volt_bounded = admittance_bounded _ machine_most machine_sized.least

    pub machine_reactive : 0 < (admittance_of n (source_at n.sources j)).im
    machine_reactive = turned_reactive _ machine_sized.proper machine_sized.reactive

  -- ---- a converter
  module _ (j : ℕ) (l : j < length n.sources) (m : is_converter (source_at n.sources j) ≡ true) where
    ranges : ConverterRanges (source_at n.sources j)
    ranges = converter_ranges r j l (eqb-true _ 4 m)

    pub supply_near : Accurate 8 (current_of (source_at n.sources j)) (supplied_by (source_at n.sources j))
    supply_near =
        let f = ranges in
        let h = converter_near (source_at n.sources j).f1 (source_at n.sources j).f2 (omega (arith, f.current_most_law)) (le_trans (lit≤ tt) f.k, omega (arith, f.k_most)) in
        (h.0, h.1.fine)

    pub supply_bounded : Bounded (2 ^ 20) (volts_of n (source_at n.sources j).bus) (2 ^ 34) (current_of (source_at n.sources j))
    unfolding converter
    supply_bounded =
        let f = ranges in
        let u = bus_volts r (source_at n.sources j).bus (source_bus r j l) in
        record {
          proper = lit< tt;
          least = inr (some (source_at n.sources j).f1 (source_at n.sources j).f2 (mul-le-mul f.current f.k));
          most = few (source_at n.sources j).f1 (source_at n.sources j).f2 (volts_of n (source_at n.sources j).bus) (mul-le-mul (mul-le-mul f.current_most_law f.k_most) u.1);
        }
      where
        some : (a k : ℕ) → 1 * 100 ≤ a * k → 1000 ≤ 2 ^ 20 * (a * k + 0)
        some a k h = omega arith

        few : (a k u : ℕ) → a * k * u ≤ 100000 * 300 * 420000 → (a * k + 0) * u ≤ 2 ^ 34 * 1000
        few a k u h = from (a ∷ k ∷ u ∷ []) h (search read depth 40 fits 20000) refl
