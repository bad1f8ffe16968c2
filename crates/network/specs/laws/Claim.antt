-- DEMAND 3: the figures that are calculated for any bus of an accepted network keep document 01's comparisons with the exact values
-- drawn from its records. Assumes nothing.
use Rattle.std.specs.Prelude.{ℕ, zero, suc, ◌+◌, ◌*◌, ◌^◌, ◌≤◌, ◌<◌, ◌≡◌, refl, [], ◌∷◌, length}
use Rattle.std.proofs.Common.{sym, ◌∙◌, ap, subst, arith, le_refl, le_trans, le_of_eq, mul-le-mul, mul-add, mul-pos, lit<, lit≤, ne_eqb}
use Rattle.algebra.specs.Reading.{identity, from, from_over, read, ◌⊹◌, ◌⋆◌}
use Rattle.enclosure.specs.Exact.{norm, Point, inverse, turned}
use Rattle.enclosure.specs.laws.Root.{root_le}
use Rattle.enclosure.specs.laws.Nearness.{NearTo}
use Rattle.enclosure.specs.laws.StepErrors.{parts}
use Rattle.enclosure.specs.laws.Units.{extent, extent_range, sized_more}
use Rattle.enclosure.specs.laws.F64Errors.{value}
use Rattle.enclosure.specs.laws.F64Range.{Good}
use Rattle.enclosure.specs.laws.WholeBounds.{width}
use Rattle.enclosure.specs.declared.Complex.{Complex}
use Rattle.elements.specs.Factors.{factor_c}
use Rattle.elements.specs.laws.FactorSizes.{factor_c_sized}
use Rattle.elements.specs.Peak.{NearConverterPeak}
use Rattle.elements.specs.laws.Peak.{near_bound, peak_scale}
use Rattle.elements.specs.Doubles.{converter_peak_by}
use Rattle.elements.specs.laws.BoundsAndPeaks.{MachineFigures, machine_figures, ConverterFigures, converter_figures}
use Rattle.tree.specs.Limits.{way_ratio, own_parts, current_parts, seen_parts, carried_parts, covered_buses, covered_sources, most_parts, seen_most, max_buses}
use Rattle.tree.specs.Grid.{seen, carried}
use Rattle.tree.specs.laws.Converters.{carried_real}
use Rattle.tree.specs.laws.Sums.{sums}
use Rattle.tree.specs.laws.AdmittanceSizes.{seen_most_law}
use Rattle.tree.specs.laws.Accuracy.{Accurate, accurate_more, accurate_good}
use Rattle.tree.specs.laws.TreeBounds.{sound_proper}
use Rattle.tree.specs.laws.FeederReaches.{seen_reactive}
use Rattle.tree.specs.laws.SeenErrors.{seen_near, seen_low, seen_high}
use Rattle.tree.proofs.ConvertersByRoot.{carried_proper}
use Rattle.tree.proofs.CurrentErrors.{carried_near, carried_range, carried_most}
use Rattle.network.specs.Network.{Network}
use Rattle.network.specs.laws.Rebuilt.{Rebuilt}
use Rattle.network.specs.laws.AcceptedRecords.{bus_volts, few_buses}
use Rattle.network.specs.SourceKinds.{is_converter}
use Rattle.network.specs.Grid.{grid_of, converter_at}
use Rattle.network.specs.Demand.{WholeAmperes, MachinesHold, ConvertersHold, Demand}
use Rattle.network.specs.NearPeaks.{MachinePeak, ConverterPeak, NearPeaks}
use Rattle.network.specs.Doubles.{own_by, converters_by, branches_by, seen_at, carried_at, figures_by, figures_at, amperes_at}
use Rattle.network.specs.laws.ElementSizes.{branch_most, machine_most}
use Rattle.network.specs.laws.AcceptedTree.{volts_of, sound, levels, referred_least, near_branch}
use Rattle.network.specs.laws.Bridge.{seen_walk, carried_tree}
use Rattle.network.specs.laws.BusSums.{covered_sources_law, count_of, counted_once, plain, own_near, own_volts, fed, amperes, current_near, current_counted, current_real}

-- ---- over plain numbers: Y is (A, B)/D, so that Z is (A·D, B·D)/(A² + B²)
module _ (c u A B D : ℕ) where
  below_as : (i : ℕ) → 3 * (i * i * (D * 1 * 100 * (D * 1 * 100))) ≤ 1 * norm (A * u * c) (B * u * c) → 30000 * (i * i) * norm (A * D) (B * D) ≤ c * u * (c * u) * (norm A B * norm A B)
  below_as i h = from (c ∷ u ∷ A ∷ B ∷ D ∷ i ∷ []) (norm A B ⋆ h) (search read depth 40 fits 20000) refl

  above_as : (i : ℕ) → 1 * norm (A * u * c) (B * u * c) ≤ 3 * (i * i * (D * 1 * 100 * (D * 1 * 100))) → c * u * (c * u) * (norm A B * norm A B) ≤ 30000 * (i * i) * norm (A * D) (B * D)
  above_as i h = from (c ∷ u ∷ A ∷ B ∷ D ∷ i ∷ []) (norm A B ⋆ h) (search read depth 40 fits 20000) refl

  -- √3·I is at most 2 ^ 50
  room_of : c ≤ 110 → (A + B) * u ≤ seen_most * D → c * u * (c * u) * norm A B ≤ 2 ^ 100 * (10000 * (D * D))
  room_of hc h = from (c ∷ u ∷ A ∷ B ∷ D ∷ []) (u * u * ((A + B) * (A + B)) ⋆ mul-le-mul hc hc ⊹ 12100 ⋆ mul-le-mul h h) (search read depth 40 fits 20000) refl

-- as many branches and machines as the laws cover
tall : (k : ℕ) → k ≤ covered_buses → machine_most * covered_sources + branch_most * k ≤ seen_most
tall k h = omega arith

-- Z of an admittance that is not nothing
impedance_of_law : (x : Point) → 0 < x.im → inverse x ≡ turned x
unfolding inverse
impedance_of_law x h = rw (ne_eqb (x.re + x.im) 0 (λ e. omega arith))

-- ---- the peaks
-- the machines', from the admittance P to the impedance 1/P
machine_peak : (c Un : ℕ) (P : Point) (y : Complex) → 0 < P.im → MachineFigures c Un P y → MachinePeak (c * Un) (inverse P) (figures_by c Un y y).peak
machine_peak c Un P y h f =
    rw (impedance_of_law P h, ← over P.re P.im, ← under P.re P.im P.den)
    (peak_scale _ _ _ (c * Un * (c * Un) * norm P.re P.im) (30000 * (P.den * P.den)) P.re P.im (norm P.re P.im) P.den f.peak)
  where
    over : (A B : ℕ) → c * Un * (c * Un) * norm A B * norm A B ≡ c * Un * (c * Un) * (norm A B * norm A B)
    over A B = identity (c ∷ Un ∷ A ∷ B ∷ []) (search read depth 40 fits 20000) refl

    under : (A B D : ℕ) → 30000 * (D * D) * norm A B ≡ 30000 * norm (A * D) (B * D)
    under A B D = identity (A ∷ B ∷ D ∷ []) (search read depth 40 fits 20000) refl

-- the converters', on the real axis
converter_peak : (P : Point) (x : Complex) → P.im ≡ 0 → ConverterFigures P x → ConverterPeak P (figures_by 0 0 x x).converters_peak
converter_peak P x e f = subst (λ (v : ℕ). NearConverterPeak (converter_peak_by x) (2 * v) (P.den * P.den)) (plain_norm P.re P.im e) f.peak
  where
    plain_norm : (a b : ℕ) → b ≡ 0 → norm a b ≡ a * a
    plain_norm a b e = rw e (omega arith)

-- ---- the machines' figures, from the admittance P to the impedance 1/P
machines_hold : (c Un : ℕ) (P : Point) (y : Complex) → 0 < P.im → 0 < P.den → MachineFigures c Un P y
    → MachinesHold (c * Un) (inverse P) (figures_by c Un y y).lower (figures_by c Un y y).upper (figures_by c Un y y).peak
machines_hold c Un P y h d f = rw (impedance_of_law P h) (record {
  proper = let s = mul-pos h h in omega arith;
  reactive = mul-pos h d;
  below = below_as c Un P.re P.im P.den _ f.bounds.below;
  above = above_as c Un P.re P.im P.den _ f.bounds.above;
  narrow = width 1000 _ _ (lit≤ tt) f.bounds.narrow;
  crest = near_bound _ _ _ _ _ (lit< tt) (lit≤ tt) (rw (impedance_of_law P h) at (machine_peak c Un P y h f));
})

-- the converters' figures, on the real axis
converters_hold : (P : Point) (x : Complex) → 0 < P.den → P.im ≡ 0 → ConverterFigures P x → ConvertersHold P (figures_by 0 0 x x).converters_lower (figures_by 0 0 x x).converters_upper (figures_by 0 0 x x).converters_peak
converters_hold P x d e f = record {
  proper = d;
  real = e;
  below = root_le _ P.re (low _ P.re P.im P.den e f.bounds.below);
  above = root_le P.re _ (high _ P.re P.im P.den e f.bounds.above);
  narrow = width 1000 _ _ (lit≤ tt) f.bounds.narrow;
  crest = near_bound _ _ _ _ _ (lit< tt) (lit≤ tt) (converter_peak P x e f);
}
  where
    low : (i a b d : ℕ) → b ≡ 0 → 1 * (i * i * (d * d)) ≤ 1 * norm a b → i * d * (i * d) ≤ a * a
    low i a b d e h = from (i ∷ a ∷ d ∷ []) (rw e at h) (search read depth 40 fits 20000) refl

    high : (i a b d : ℕ) → b ≡ 0 → 1 * norm a b ≤ 1 * (i * i * (d * d)) → a * a ≤ i * d * (i * d)
    high i a b d e h = from (i ∷ a ∷ d ∷ []) (rw e at h) (search read depth 40 fits 20000) refl

-- as many converters, each of 30,000 A at the highest voltage, seen at the lowest
few_amperes : (u S A B D : ℕ) → 100 ≤ u → S ≤ 2 ^ 34 * covered_sources → (A + B) * u ≤ way_ratio * S * D → norm A B ≤ 2 ^ 100 * (D * D)
few_amperes u S A B D hu hs h = from (A ∷ B ∷ D ∷ []) (mul-le-mul small small) (search read depth 40 fits 20000) refl
  where
    small : A + B ≤ 2 ^ 50 * D
    small = from_over (u ∷ S ∷ A ∷ B ∷ D ∷ []) 100 (lit< tt) ((A + B) ⋆ hu ⊹ h ⊹ way_ratio * D ⋆ hs) (search read depth 40 fits 20000) refl

sums_times : (c : ℕ) (f : ℕ → ℕ) (n : ℕ) → sums (λ i. c * f i) n ≡ c * sums f n
sums_times c f zero = omega arith
sums_times c f (suc n) = ap (λ (m : ℕ). m + c * f n) (sums_times c f n) ∙ sym (mul-add c (sums f n) (f n))

-- a lower bound is not above an upper one
order : (q D l u X : ℕ) → 0 < q * (D * D) → q * (l * l * (D * D)) ≤ X → X ≤ q * (u * u * (D * D)) → l ≤ u
order q D l u X z h k = root_le l u (from_over (q ∷ D ∷ l ∷ u ∷ X ∷ []) (q * (D * D)) z (h ⊹ k) (search read depth 40 fits 20000) refl)

module _ {n : Network} (r : Rebuilt n) (source : 0 < length n.sources) (b : ℕ) (lb : b < length n.buses) where
  abbrev units : ℕ
  units = seen_parts own_parts (length n.buses)

  few : length n.buses ≤ max_buses
  few = few_buses r

  covered : length n.buses ≤ covered_buses
  covered = le_trans few (lit≤ tt)

  few_units : units ≤ most_parts
  few_units = let m = covered in omega arith

  some : 0 < volts_of n b
  some = le_trans (lit≤ tt) (bus_volts r b lb).0

  reactive : 0 < (seen (grid_of n) b b).im
  reactive = seen_reactive (grid_of n) (sound r).tree (sound_proper (grid_of n) (sound r) (plain r)) (fed r source) b lb

  seen_held : Accurate units (seen (grid_of n) b b) (seen_at n b)
  seen_held =
      rw (seen_walk n few (sound r) b lb)
      (seen_near (grid_of n) (volts_of n) (sound r) (levels r) (plain r) covered (branches_by n) (own_by n) own_parts (lit≤ tt)
      (λ i z l. accurate_more 24 own_parts _ _ (lit≤ tt) (near_branch r i z l)) (λ c l. own_near r c) b b lb)

  seen_good : NearTo value (Good 200 units) parts units (seen (grid_of n) b b) (seen_at n b)
  seen_good =
      let k = few_units in
      accurate_good units _ _ (omega arith) seen_held (seen_low (grid_of n) (volts_of n) (sound r) (levels r) (plain r) covered b b lb) (seen_high (grid_of n) (volts_of n) (sound r) (levels r) (plain r) covered b b lb)

  -- what is seen at b, times Un
  seen_volts : ((seen (grid_of n) b b).re + (seen (grid_of n) b b).im) * volts_of n b ≤ seen_most * (seen (grid_of n) b b).den
  seen_volts =
      le_trans (seen_most_law (grid_of n) b (volts_of n b) (machine_most * covered_sources) branch_most (own_volts r b) (λ i l e. referred_least r b i lb l e) b)
      (mul-le-mul (tall (length n.buses) covered) (le_refl (seen (grid_of n) b b).den))

  machine_part : MachineFigures (factor_c n.tolerance (volts_of n b)) (volts_of n b) (seen (grid_of n) b b) (seen_at n b)
  machine_part =
      let c = factor_c_sized n.tolerance (volts_of n b) in
      let k = few_units in
      machine_figures _ (volts_of n b) units _ (seen_at n b) (le_trans (lit≤ tt) c.0) c.1 (some, omega (arith, (bus_volts r b lb).1)) (omega arith) seen_good reactive
      (room_of _ (volts_of n b) _ _ _ c.1 seen_volts)

  -- ---- the converters' part
  converters_few : ((carried (grid_of n) b).re + (carried (grid_of n) b).im) * volts_of n b ≤ way_ratio * sums (λ i. 2 ^ 34 * count_of (converter_at i) n.sources) (length n.buses) * (carried (grid_of n) b).den
  converters_few = carried_most (grid_of n) (volts_of n) (sound r) (levels r) (λ i. 2 ^ 34 * count_of (converter_at i) n.sources) (amperes r).proper (λ i l. current_counted r i) b lb

  converters_room : norm (carried (grid_of n) b).re (carried (grid_of n) b).im ≤ 2 ^ 100 * ((carried (grid_of n) b).den * (carried (grid_of n) b).den)
  converters_room =
      few_amperes (volts_of n b) _ _ _ _ (bus_volts r b lb).0
      (le_trans (le_of_eq (sums_times (2 ^ 34) (λ i. count_of (converter_at i) n.sources) (length n.buses))) (mul-le-mul (le_refl (2 ^ 34)) (le_trans (counted_once is_converter n.sources (length n.buses)) (covered_sources_law r))))
      converters_few

  converter_part : ConverterFigures (carried (grid_of n) b) (carried_at n b)
  converter_part =
      let m = covered in
      let volts : (i : ℕ) → i < length n.buses → 0 < volts_of n i = λ i l. le_trans (lit≤ tt) (bus_volts r i l).0 in
      let h = carried_near (grid_of n) (volts_of n) (sound r) (levels r) (amperes r) covered (converters_by n) current_parts (lit≤ tt) (λ i l. current_near r i (volts i l)) b lb in
      let g = carried_range (grid_of n) (volts_of n) (sound r) (levels r) (amperes r) covered (converters_by n) current_parts (lit≤ tt) (λ i l. current_near r i (volts i l)) b lb in
      rw (carried_tree n few b lb) (converter_figures (carried_parts current_parts (length n.buses)) _ _ (omega arith) h.0 h.1 (sized_more (2 ^ 200) extent _ extent_range g) converters_room)

  seen_fraction : 0 < (seen (grid_of n) b b).den
  seen_fraction = seen_held.0.left

  carried_fraction : 0 < (carried (grid_of n) b).den
  carried_fraction = carried_proper (grid_of n) (sound r).tree (λ i z m. (((sound r).volts i z m).0.0, ((sound r).volts i z m).1.0)) (amperes r).proper b lb

  real : (carried (grid_of n) b).im ≡ 0
  real = carried_real (grid_of n) (λ i l. current_real r i) b lb

  machine_order : (figures_at n b).lower ≤ (figures_at n b).upper
  machine_order = order 3 ((seen (grid_of n) b b).den * 1 * 100) _ _ _ (mul-pos (lit< tt) (mul-pos hundred hundred)) machine_part.bounds.below machine_part.bounds.above
    where
      hundred : 0 < (seen (grid_of n) b b).den * 1 * 100
      hundred = mul-pos (mul-pos seen_fraction (lit< tt)) (lit< tt)

  converter_order : (figures_at n b).converters_lower ≤ (figures_at n b).converters_upper
  converter_order = order 1 (carried (grid_of n) b).den _ _ _ (mul-pos (lit< tt) (mul-pos carried_fraction carried_fraction)) converter_part.bounds.below converter_part.bounds.above

  pub figures_whole : WholeAmperes (amperes_at n b) (figures_at n b)
  figures_whole = record {
    lower = refl;
    upper = refl;
    converters_lower = refl;
    converters_upper = refl;
    peak = refl;
    converters_peak = refl;
    lowers_small = omega (arith, machine_order, converter_order, machine_part.upper_few, converter_part.upper_few);
    uppers_small = omega (arith, machine_part.upper_few, converter_part.upper_few);
    peaks_small = omega (arith, machine_part.peak_few, converter_part.peak_few);
  }

  -- THE FIGURES KEEP DEMAND 3
  pub demand : Demand n b (amperes_at n b)
  demand = record {
    figures = figures_at n b;
    whole = figures_whole;
    machines = machines_hold _ (volts_of n b) (seen (grid_of n) b b) (seen_at n b) reactive seen_fraction machine_part;
    converters = converters_hold (carried (grid_of n) b) (carried_at n b) carried_fraction real converter_part;
  }

  -- beside demand 3
  pub near_peaks : NearPeaks n b (amperes_at n b)
  near_peaks = record {
    figures = figures_at n b;
    whole = figures_whole;
    machines = machine_peak _ (volts_of n b) (seen (grid_of n) b b) (seen_at n b) reactive machine_part;
    converters = converter_peak (carried (grid_of n) b) (carried_at n b) real converter_part;
  }
