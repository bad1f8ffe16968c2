-- The shares of the machines in a fault current at bus b: the columns of the ways hold what tree's laws are about, and so what is
-- calculated from them bounds the exact shares. Assumes nothing.
use Rattle.std.specs.Prelude.{ℕ, ◌+◌, ◌*◌, ◌^◌, ◌≤◌, ◌<◌, ◌≡◌, true, cond, ltb, Float, length}
use Rattle.std.proofs.Math.Path.{refl}
use Rattle.std.proofs.Common.{◌∙◌, ⊎_elim, arith, le_trans, lit≤, lt-ltb}
use Rattle.std.specs.Float.{nan}
use Rattle.enclosure.specs.Doubles.{doubles, inverted, ratio, unity, faintest, nought}
use Rattle.enclosure.specs.declared.Complex.{Complex}
use Rattle.enclosure.specs.laws.RootBounds.{RootHolds}
use Rattle.tree.specs.Limits.{max_buses, covered_buses, machine_parts, own_parts}
use Rattle.tree.specs.Grid.{parent_of, times_square}
use Rattle.tree.specs.Shares.{ratios, share_square}
use Rattle.tree.specs.Ways.{divider_by, divider_up, divider_down, ratio_up, ratio_down, dividers_by, ratios_by, drive_by, strength_by, share_steps, rated_steps}
use Rattle.tree.specs.laws.Accuracy.{Accurate, accurate_more}
use Rattle.tree.specs.laws.TreeBounds.{sound_proper}
use Rattle.tree.specs.laws.Ways.{over_way_same}
use Rattle.tree.specs.laws.Shares.{share_proper, share_some}
use Rattle.tree.specs.laws.Ratios.{Crossed, Levelled, levelled_more, ratios_level}
use Rattle.tree.specs.laws.Dividers.{seen_above, seen_below}
use Rattle.tree.specs.laws.ShareBounds.{factor, rated_factor, share_bounds, share_few, rated_square, rated_proper, terminal_bounds}
use Rattle.sweep.specs.Points.{number_at}
use Rattle.sweep.specs.Crossings.{factor_at, column_to, crossing_at, crossings_of, reach_of}
use Rattle.sweep.specs.laws.Columns.{get_or_column}
use Rattle.network.specs.declared.study.Bus.{Bus}
use Rattle.network.specs.declared.study.Source.{Source}
use Rattle.network.specs.Network.{Network, bus_at, source_at, if_transformer, transformers_of}
use Rattle.network.specs.SourceKinds.{is_machine, has_generator}
use Rattle.network.specs.RoundedSourceKinds.{volts_seen, kva_seen}
use Rattle.network.specs.laws.SourceKinds.{generator_cases}
use Rattle.network.specs.Grid.{admittance_of, grid_of}
use Rattle.network.specs.Demand.{driving}
use Rattle.network.specs.Doubles.{own_by, branches_by, machine_by, tree_of, crossings_by, ways_from}
use Rattle.network.specs.laws.Rebuilt.{Rebuilt}
use Rattle.network.specs.laws.AcceptedRecords.{bus_volts, source_bus, few_buses}
use Rattle.network.specs.laws.AcceptedTree.{volts_of, sound, levels, near_branch, machine_near, machine_reactive}
use Rattle.network.specs.laws.BusSums.{plain, own_near, own_reactive}
use Rattle.network.specs.laws.ShareFacts.{machine_volts_square, machine_proper, machine_some, machine_least, machine_most_law, SeenRating, seen_rating, driving_some, driving_most, driving_square, transformers_most, ratio_above, ratio_below, transformers_more, small_share, small_rated}
use Rattle.network.specs.laws.Bridge.{number_all, shaped, branch_column, above_walk, below_walk}

-- ---- the columns of the ways
-- what stands there at a bus
factor_column : (f : ℕ → Float) (n i : ℕ) → n ≤ max_buses → i < n → factor_at (column_to f n) i ≡ f i
factor_column f n i m l = rw (lt-ltb i max_buses (omega arith)) (get_or_column (λ j. cond (ltb j n) (f j) unity) i nan (omega arith) ∙ rw (lt-ltb i n l))

-- a crossing, where the rated volts, the branch and what is seen are the same
divider_up_same : (a a' b b' : ℕ) (z z' s s' : Complex) → a ≡ a' → b ≡ b' → z ≡ z' → s ≡ s' → divider_by z (times_square doubles b a (inverted s)) ≡ divider_by z' (times_square doubles b' a' (inverted s'))
divider_up_same a a' b b' z z' s s' ha hb hz hs = rw (ha, hb, hz, hs)

divider_down_same : (z z' s s' : Complex) → z ≡ z' → s ≡ s' → divider_by z (inverted s) ≡ divider_by z' (inverted s')
divider_down_same z z' s s' hz hs = rw (hz, hs)

ratio_same : (a a' b b' : ℕ) → a ≡ a' → b ≡ b' → ratio a b ≡ ratio a' b'
ratio_same a a' b b' ha hb = rw (ha, hb)

module _ {n : Network} (r : Rebuilt n) where
  few : length n.buses ≤ max_buses
  few = few_buses r

  crossed_up : (i : ℕ) → 0 < i → i < length n.buses → factor_at (crossings_by n).divider_up i ≡ divider_up (grid_of n) (branches_by n) (seen_above (branches_by n) (own_by n) (grid_of n)) i
  unfolding crossings_by crossings_of crossing_at
  crossed_up i z l =
      factor_column _ (length n.buses) i few l
      ∙ divider_up_same _ _ _ _ _ _ _ _ ((shaped n few).above i z l) ((shaped n few).below i z l) (branch_column n few i l) (above_walk n few (sound r) i z l)

  crossed_down : (i : ℕ) → 0 < i → i < length n.buses → factor_at (crossings_by n).divider_down i ≡ divider_down (grid_of n) (branches_by n) (seen_below (branches_by n) (own_by n) (grid_of n)) i
  unfolding crossings_by crossings_of crossing_at
  crossed_down i z l = factor_column _ (length n.buses) i few l ∙ divider_down_same _ _ _ _ (branch_column n few i l) (below_walk n few (sound r) i z l)

  carried_up : (i : ℕ) → 0 < i → i < length n.buses → factor_at (crossings_by n).ratio_up i ≡ ratio_up (grid_of n) i
  unfolding crossings_by crossings_of crossing_at
  carried_up i z l = factor_column _ (length n.buses) i few l ∙ ratio_same _ _ _ _ ((shaped n few).above i z l) ((shaped n few).below i z l)

  carried_down : (i : ℕ) → 0 < i → i < length n.buses → factor_at (crossings_by n).ratio_down i ≡ ratio_down (grid_of n) i
  unfolding crossings_by crossings_of crossing_at
  carried_down i z l = factor_column _ (length n.buses) i few l ∙ ratio_same _ _ _ _ ((shaped n few).below i z l) ((shaped n few).above i z l)

  module _ (b : ℕ) where
    pub ways_volts : (i : ℕ) → number_at (ways_from n b).volts i ≡ (bus_at n.buses i).volts
    unfolding ways_from tree_of
    ways_volts i = number_all (λ (c : Bus). c.volts) n.buses refl few i

    module _ (lb : b < length n.buses) where
      -- THE COLUMNS HOLD THE DIVIDERS AND THE RATIOS of the ways in the tree
      pub ways_dividers : (j : ℕ) → j < length n.buses
          → factor_at (ways_from n b).reach.dividers j
          ≡ dividers_by (grid_of n) (branches_by n) (seen_above (branches_by n) (own_by n) (grid_of n)) (seen_below (branches_by n) (own_by n) (grid_of n)) b j
      unfolding ways_from reach_of
      ways_dividers j lj =
          factor_column _ (length n.buses) j few lj
          ∙ over_way_same (number_at (tree_of n.buses).parents) (parent_of (grid_of n)) _ _ _ _ faintest (length n.buses) (shaped n few).parent crossed_up crossed_down b j lb lj

      pub ways_ratios : (j : ℕ) → j < length n.buses → factor_at (ways_from n b).reach.ratios j ≡ ratios_by (grid_of n) b j
      unfolding ways_from reach_of
      ways_ratios j lj =
          factor_column _ (length n.buses) j few lj
          ∙ over_way_same (number_at (tree_of n.buses).parents) (parent_of (grid_of n)) _ _ _ _ nought (length n.buses) (shaped n few).parent carried_up carried_down b j lb lj

-- ---- the shares
-- what has a generator is a machine
pub generator_machine : (p : Source) → has_generator p ≡ true → is_machine p ≡ true
generator_machine p g = ⊎_elim (λ (k : p.kind ≡ 2). rw k) (λ (k : p.kind ≡ 5). rw k) (generator_cases p g)

module _ {n : Network} (r : Rebuilt n) (b : ℕ) (lb : b < length n.buses) where
  covered : length n.buses ≤ covered_buses
  covered = le_trans (few_buses r) (lit≤ tt)

  branches_near : (i : ℕ) → 0 < i → i < length n.buses → Accurate own_parts ((grid_of n).branch i).z (branches_by n i)
  branches_near i z l = accurate_more 24 own_parts _ _ (lit≤ tt) (near_branch r i z l)

  crossed : Crossed (grid_of n) (volts_of n) (λ i. if_transformer (bus_at n.buses i)) (transformers_of n.buses)
  crossed = record { above = ratio_above r; below = ratio_below r; counts = transformers_more r }

  -- 4 transformers at the most are on either side
  ratios_eight : (j : ℕ) → j < length n.buses → Levelled 8 (volts_of n b) (volts_of n j) (ratios (grid_of n) b j)
  ratios_eight j lj =
      let t = transformers_most r b lb in
      let s = transformers_most r j lj in
      levelled_more (grid_of n) (volts_of n) (λ i. if_transformer (bus_at n.buses i)) (transformers_of n.buses) (sound r).tree crossed
      (transformers_of n.buses b + transformers_of n.buses j) 8 _ _ _ (omega arith)
      (ratios_level (grid_of n) (volts_of n) (λ i. if_transformer (bus_at n.buses i)) (transformers_of n.buses) (sound r).tree crossed b j lb lj)

  module _ (j : ℕ) (l : j < length n.sources) (m : is_machine (source_at n.sources j) ≡ true) where
    small : (factor (driving n b) (admittance_of n (source_at n.sources j)) (ratios (grid_of n) b (source_at n.sources j).bus)).top
        ≤ 2 ^ 100 * (factor (driving n b) (admittance_of n (source_at n.sources j)) (ratios (grid_of n) b (source_at n.sources j).bus)).under
    small =
        small_share (driving n b) (volts_of n b) (volts_of n (source_at n.sources j).bus) _ _ _ _ _ (driving_most r b lb) (bus_volts r b lb).0 (machine_volts_square r j l m)
        (ratios_eight (source_at n.sources j).bus (source_bus r j l)).0

    -- THE SHARE OF A MACHINE, in steps of 1/4,096 A
    pub machine_share : RootHolds (16777216 * (share_square (grid_of n) (driving n b) (admittance_of n (source_at n.sources j)) b (source_at n.sources j).bus).top)
        (share_square (grid_of n) (driving n b) (admittance_of n (source_at n.sources j)) b (source_at n.sources j).bus).under
        (share_steps (strength_by (drive_by (driving n b)) (machine_by n (source_at n.sources j))) (factor_at (ways_from n b).reach.ratios (source_at n.sources j).bus) (factor_at (ways_from n b).reach.dividers (source_at n.sources j).bus))
    machine_share =
        let h = machine_near r j l m in
        let lj = source_bus r j l in
        rw (ways_ratios r b lb (source_at n.sources j).bus lj, ways_dividers r b lb (source_at n.sources j).bus lj)
        (share_bounds (grid_of n) (volts_of n) (sound r) (levels r) (plain r) covered (branches_by n) (own_by n) own_parts (lit≤ tt) branches_near (λ c k. own_near r c)
        (driving n b) (driving_some r b lb) (driving_square r b lb) machine_parts _ _ (lit≤ tt) h.0 h.1 (machine_some r j l m) (machine_least r j l m, machine_most_law r j l m) b _ lb lj (own_reactive r j l m) small)

    pub machine_share_proper : 0 < (share_square (grid_of n) (driving n b) (admittance_of n (source_at n.sources j)) b (source_at n.sources j).bus).under
    machine_share_proper = share_proper (grid_of n) (sound r).tree (sound_proper (grid_of n) (sound r) (plain r)) (driving n b) _ b _ (machine_proper r j l m) lb (source_bus r j l) (own_reactive r j l m)

    pub machine_share_some : 0 < (share_square (grid_of n) (driving n b) (admittance_of n (source_at n.sources j)) b (source_at n.sources j).bus).top
    machine_share_some =
        share_some (grid_of n) (sound r).tree (sound_proper (grid_of n) (sound r) (plain r)) (driving n b) _ b _ (driving_some r b lb) (machine_proper r j l m) (machine_reactive r j l m) lb (source_bus r j l) (own_reactive r j l m)

    pub share_small : share_steps (strength_by (drive_by (driving n b)) (machine_by n (source_at n.sources j))) (factor_at (ways_from n b).reach.ratios (source_at n.sources j).bus) (factor_at (ways_from n b).reach.dividers (source_at n.sources j).bus) + 1 ≤ 2 ^ 51
    share_small =
        let h = machine_near r j l m in
        let lj = source_bus r j l in
        rw (ways_ratios r b lb (source_at n.sources j).bus lj, ways_dividers r b lb (source_at n.sources j).bus lj)
        (share_few (grid_of n) (volts_of n) (sound r) (levels r) (plain r) covered (branches_by n) (own_by n) own_parts (lit≤ tt) branches_near (λ c k. own_near r c)
        (driving n b) (driving_some r b lb) (driving_square r b lb) machine_parts _ _ (lit≤ tt) h.0 h.1 (machine_some r j l m) (machine_least r j l m, machine_most_law r j l m) b _ lb lj (own_reactive r j l m) small)

  module _ (j : ℕ) (l : j < length n.sources) (g : has_generator (source_at n.sources j) ≡ true) where
    machine : is_machine (source_at n.sources j) ≡ true
    machine = generator_machine (source_at n.sources j) g

    abbrev volts : ℕ
    volts = volts_seen (source_at n.sources j)

    abbrev kva : ℕ
    kva = kva_seen (source_at n.sources j)

    rating : SeenRating (volts_of n (source_at n.sources j).bus) volts kva
    rating = seen_rating r j l machine g

    small_over : (rated_factor (driving n b) (admittance_of n (source_at n.sources j)) (ratios (grid_of n) b (source_at n.sources j).bus) volts kva).top
        ≤ 2 ^ 100 * (rated_factor (driving n b) (admittance_of n (source_at n.sources j)) (ratios (grid_of n) b (source_at n.sources j).bus) volts kva).under
    small_over =
        small_rated (driving n b) (volts_of n b) (volts_of n (source_at n.sources j).bus) _ _ _ _ _ volts kva rating.scale (driving_most r b lb) (machine_volts_square r j l machine)
        (ratios_eight (source_at n.sources j).bus (source_bus r j l)).0 rating.volts_most rating.kva_least

    -- THE SHARE OF A GENERATOR AT ITS TERMINALS over its rated current, in steps of 1/40,960
    pub generator_rated_share : RootHolds (1677721600 * (rated_square (grid_of n) (driving n b) (admittance_of n (source_at n.sources j)) b (source_at n.sources j).bus volts kva).top)
        (rated_square (grid_of n) (driving n b) (admittance_of n (source_at n.sources j)) b (source_at n.sources j).bus volts kva).under
        (rated_steps (strength_by (drive_by (driving n b)) (machine_by n (source_at n.sources j))) (factor_at (ways_from n b).reach.ratios (source_at n.sources j).bus) (factor_at (ways_from n b).reach.dividers (source_at n.sources j).bus) volts kva)
    generator_rated_share =
        let h = machine_near r j l machine in
        let lj = source_bus r j l in
        rw (ways_ratios r b lb (source_at n.sources j).bus lj, ways_dividers r b lb (source_at n.sources j).bus lj)
        (terminal_bounds (grid_of n) (volts_of n) (sound r) (levels r) (plain r) covered (branches_by n) (own_by n) own_parts (lit≤ tt) branches_near (λ c k. own_near r c)
        (driving n b) (driving_some r b lb) (driving_square r b lb) machine_parts _ _ (lit≤ tt) h.0 h.1 (machine_some r j l machine) (machine_least r j l machine, machine_most_law r j l machine) b _ lb lj (own_reactive r j l machine)
        volts kva rating.volts_some rating.volts_few rating.kva_some rating.kva_few small_over)

    pub generator_rated_proper : 0 < (rated_square (grid_of n) (driving n b) (admittance_of n (source_at n.sources j)) b (source_at n.sources j).bus volts kva).under
    generator_rated_proper =
        rated_proper (grid_of n) (sound r).tree (sound_proper (grid_of n) (sound r) (plain r)) (driving n b) _ b _ volts kva (machine_proper r j l machine) lb (source_bus r j l) (own_reactive r j l machine)
        rating.kva_some
