-- From a near admittance to the machines' bounds and peak, and from a near current to the converters': they keep document 01's comparisons.
-- Assumes nothing.
use Rattle.std.specs.Prelude.{ℕ, zero, suc, ◌+◌, ◌-◌, ◌*◌, ◌^◌, ◌≤◌, ◌<◌, ◌≡◌, refl, [], ◌∷◌}
use Rattle.std.proofs.Common.{◌∙◌, ⊎_elim, lt_of_not-le, mul-le-mul, mul-pos, add-one, le→leb, lit<, lit≤, pow_mono, eqb-true, eq-eqb, arith}
use Rattle.algebra.specs.Reading.{from, from_over, read, ◌⊹◌, ◌⋆◌}
use Rattle.enclosure.specs.Exact.{norm, Point, times}
use Rattle.enclosure.specs.laws.Root.{below_of_squares}
use Rattle.enclosure.specs.laws.Nearness.{Near, NearTo, near_nothing}
use Rattle.enclosure.specs.declared.Complex.{Complex}
use Rattle.enclosure.specs.laws.StepErrors.{parts}
use Rattle.enclosure.specs.laws.Units.{extent, Between, Sized}
use Rattle.enclosure.specs.Doubles.{scaled, lower_of, upper_of}
use Rattle.enclosure.specs.laws.F64Errors.{value, size, Fine}
use Rattle.enclosure.specs.laws.F64Range.{reach, Good, good_sized, Factor, f64_rules}
use Rattle.enclosure.specs.laws.WholeBounds.{Enclosed, encloses}
use Rattle.elements.specs.Doubles.{fine_factor, place_of, current_by, machine_peak_by, converter_peak_by}
use Rattle.elements.specs.laws.FineTable.{fine_factor_sized}
use Rattle.elements.specs.Peak.{peak_over, peak_under, NearMachinePeak, NearConverterPeak}
use Rattle.elements.specs.laws.Peak.{peak_near, Index}
use Rattle.elements.specs.laws.Place.{place_index}

-- ---- a size that is good after a few steps has whole bounds
reach_extent : (d : ℕ) → d ≤ 50 → reach 200 d ≤ extent
unfolding extent
reach_extent d l = let m : 200 + 5 * d ≤ 450 = omega arith in pow_mono m

good_extent : (k₀ k : ℕ) (z : Complex) → k - k₀ ≤ 50 → Good 200 k₀ k z → Sized extent (size z)
good_extent k₀ k z l = good_sized 200 extent k₀ k z (reach_extent (k - k₀) l)

-- √3·I as an exact point: c·Un·Y, c in hundredths
abbrev pub driven : ℕ → ℕ → Point → Point
driven c Un P = times c 100 (times Un 1 P)

-- I² of document 01 as a fraction: (c·Un)²·|Y|²/3
abbrev pub square_over : ℕ → ℕ → Point → ℕ
square_over c Un P = c * Un * (c * Un) * norm P.re P.im

abbrev pub square_under : Point → ℕ
square_under P = 30000 * (P.den * P.den)

-- ---- over plain numbers: the point is (A, B)/D
current_few : (c u A B D : ℕ) → c * u * (c * u) * norm A B ≤ 2 ^ 100 * (10000 * (D * D)) → 1 * norm (A * u * c) (B * u * c) ≤ 3 * (3 * 2 ^ 100 * (D * 1 * 100 * (D * 1 * 100)))
current_few c u A B D h = from (c ∷ u ∷ A ∷ B ∷ D ∷ []) h (search read depth 40 fits 20000) refl

peak_few : (K c u A B D : ℕ) → K ≤ 32000 → c * u * (c * u) * norm A B ≤ 2 ^ 100 * (10000 * (D * D)) → 2 * norm (A * u * c * K) (B * u * c * K) ≤ 3 * (3 * 2 ^ 100 * (D * 1 * 100 * 16000 * (D * 1 * 100 * 16000)))
peak_few K c u A B D l h = from (K ∷ c ∷ u ∷ A ∷ B ∷ D ∷ []) (2 * (c * u * (c * u) * norm A B) ⋆ mul-le-mul l l ⊹ 2048000000 ⋆ h) (search read depth 40 fits 20000) refl

-- what is that small has whole bounds
roomy : (q d X : ℕ) → X ≤ q * (3 * 2 ^ 100 * d) → X ≤ q * (2 ^ 104 * d)
roomy q d X h = from (q ∷ d ∷ X ∷ []) h (search read depth 40 fits 20000) refl

peak_over_law : (K c u A B D n : ℕ) → 2 * norm (A * u * c * K) (B * u * c * K) ≤ 3 * (n * n * (D * 1 * 100 * 16000 * (D * 1 * 100 * 16000))) → 2 * (c * u * (c * u) * norm A B) * (K * K) ≤ 256000000 * (30000 * (D * D) * (n * n))
peak_over_law K c u A B D n h = from (K ∷ c ∷ u ∷ A ∷ B ∷ D ∷ n ∷ []) h (search read depth 40 fits 20000) refl

peak_far : (K c u A B D m : ℕ) → 268435456 * (3 * (m * m * (D * 1 * 100 * 16000 * (D * 1 * 100 * 16000)))) ≤ 268435457 * (2 * norm (A * u * c * K) (B * u * c * K))
    → 268435456 * (256000000 * (30000 * (D * D) * (m * m))) ≤ 268435457 * (2 * (c * u * (c * u) * norm A B) * (K * K))
peak_far K c u A B D m h = from (K ∷ c ∷ u ∷ A ∷ B ∷ D ∷ m ∷ []) h (search read depth 40 fits 20000) refl

-- a bound of what is below 2 ^ 50·√3 is at most 2 ^ 51
upper_few : (u q D X : ℕ) → 0 < q * (D * D) → X ≤ q * (3 * 2 ^ 100 * (D * D)) → ((m : ℕ) → m + 1 ≡ u → 268435456 * (q * (m * m * (D * D))) ≤ 268435457 * X) → u ≤ 2 ^ 51
upper_few zero q D X z h f = lit≤ tt
upper_few (suc m) q D X z h f = below_of_squares m (2 ^ 51) (lt_of_not-le (λ (l : 2 ^ 51 * 2 ^ 51 ≤ m * m). absurd (le→leb 1 0 (from (q ∷ D ∷ m ∷ X ∷ [])
    (f m (add-one m) ⊹ 268435457 ⋆ h ⊹ 268435456 * q * (D * D) ⋆ l ⊹ 2 ^ 120 ⋆ z) (search read depth 40 fits 20000) refl))))

pub record MachineFigures (c Un : ℕ) (P : Point) (y : Complex) : Type 0 where
  pub bounds : Enclosed 1 3 (driven c Un P) (lower_of 1 3 (current_by c Un y)) (upper_of 1 3 (current_by c Un y))
  pub peak : NearMachinePeak (machine_peak_by c Un y) (peak_over (square_over c Un P) P.re P.im) (peak_under (square_under P) P.re P.im)
  pub upper_few : upper_of 1 3 (current_by c Un y) ≤ 2 ^ 51
  pub peak_few : machine_peak_by c Un y ≤ 2 ^ 51

module _ (c Un k : ℕ) (P : Point) (y : Complex) (c₀ : 0 < c) (c₁ : c ≤ 110) (u : Factor Un) (few : k ≤ 900000) (h : NearTo value (Good 200 k) parts k P y) (B₀ : 0 < P.im)
    (room : c * Un * (c * Un) * norm P.re P.im ≤ 2 ^ 100 * (10000 * (P.den * P.den))) where
  current_near : NearTo value (Good 200 k) parts (k + 8 + 8) (driven c Un P) (current_by c Un y)
  unfolding current_by
  current_near = (f64_rules k (omega arith)).near_scale (k + 8) c 100 _ _ (c₀, omega arith) (omega arith, omega arith) (omega arith) ((f64_rules k (omega arith)).near_scale k Un 1 P y u (omega arith, omega arith) (omega arith) h)

  -- the admittance is not nothing, since its imaginary part is not
  sized : Between extent (size y)
  sized = ⊎_elim (λ e. absurd (gone e)) (λ x. x) (good_extent k k y (omega arith) h.1)
    where
      gone : size y ≡ 0 → ⊥
      gone e =
          let n : P.re + P.im ≡ 0 = eqb-true (P.re + P.im) 0 (near_nothing parts k P (value y) (lit< tt) (omega arith) h.0 ∙ eq-eqb (size y) 0 e) in
          omega arith

  index : Index P.re P.im (place_of y)
  index = place_index y k P h.1.fine sized.0 sized.1 (omega arith) h.0 B₀

  peak_point : NearTo value (Good 200 k) parts (k + 8 + 8 + 8) (times (fine_factor (place_of y)) 16000 (driven c Un P)) (scaled (fine_factor (place_of y)) 16000 (current_by c Un y))
  peak_point =
      let b = fine_factor_sized (place_of y) in
      (f64_rules k (omega arith)).near_scale (k + 8 + 8) _ 16000 _ _ (omega (arith, b.0), omega (arith, b.1)) (omega arith, omega arith) (omega arith) current_near

  peak_encloses : Enclosed 2 3 (times (fine_factor (place_of y)) 16000 (driven c Un P)) (lower_of 2 3 (scaled (fine_factor (place_of y)) 16000 (current_by c Un y))) (machine_peak_by c Un y)
  unfolding machine_peak_by
  peak_encloses =
      encloses _ (k + 8 + 8 + 8) _ 2 3 peak_point.1.fine (good_extent k (k + 8 + 8 + 8) _ (omega arith) peak_point.1) (omega arith) peak_point.0 (lit< tt) (lit< tt) (lit< tt) (lit< tt)
      (roomy 3 _ _ (peak_few (fine_factor (place_of y)) c Un P.re P.im P.den (fine_factor_sized (place_of y)).1 room))

  encloses_current : Enclosed 1 3 (driven c Un P) (lower_of 1 3 (current_by c Un y)) (upper_of 1 3 (current_by c Un y))
  encloses_current =
      encloses _ (k + 8 + 8) _ 1 3 current_near.1.fine (good_extent k (k + 8 + 8) _ (omega arith) current_near.1) (omega arith) current_near.0 (lit< tt) (lit< tt) (lit< tt) (lit< tt)
      (roomy 3 _ _ (current_few c Un P.re P.im P.den room))

  pub machine_figures : MachineFigures c Un P y
  machine_figures = record {
    bounds = encloses_current;
    peak =
        peak_near (square_over c Un P) (square_under P) P.re P.im (place_of y) (machine_peak_by c Un y) index
        (peak_over_law (fine_factor (place_of y)) c Un P.re P.im P.den (machine_peak_by c Un y) peak_encloses.above)
        (λ m e. peak_far (fine_factor (place_of y)) c Un P.re P.im P.den m (peak_encloses.near m e));
    upper_few = upper_few _ 3 (P.den * 1 * 100) _ (mul-pos (lit< tt) (mul-pos (times_pos h.0.left) (times_pos h.0.left))) (current_few c Un P.re P.im P.den room) encloses_current.near;
    peak_few = upper_few _ 3 (P.den * 1 * 100 * 16000) _ (mul-pos (lit< tt) (mul-pos (mul-pos (times_pos h.0.left) (lit< tt)) (mul-pos (times_pos h.0.left) (lit< tt)))) (peak_few (fine_factor (place_of y)) c Un P.re P.im P.den (fine_factor_sized (place_of y)).1 room) peak_encloses.near;
  }
    where
      times_pos : {d : ℕ} → 0 < d → 0 < d * 1 * 100
      times_pos {d} h = omega arith

-- ---- the converters' part, exact at P: the bounds of its size, and √2 times it
pub record ConverterFigures (P : Point) (x : Complex) : Type 0 where
  pub bounds : Enclosed 1 1 P (lower_of 1 1 x) (upper_of 1 1 x)
  pub peak : NearConverterPeak (converter_peak_by x) (2 * norm P.re P.im) (P.den * P.den)
  pub upper_few : upper_of 1 1 x ≤ 2 ^ 51
  pub peak_few : converter_peak_by x ≤ 2 ^ 51

pub converter_figures : (k : ℕ) (P : Point) (x : Complex) → k ≤ 1000000 → Near parts k P (value x) → Fine x → Sized extent (size x)
    → norm P.re P.im ≤ 2 ^ 100 * (P.den * P.den) → ConverterFigures P x
unfolding converter_peak_by
converter_figures k P x few h f s room = record {
  bounds = e₁;
  peak = record {
    no_lower = least (norm P.re P.im) (upper_of 2 1 x) P.den e.above;
    near = λ m d. far (norm P.re P.im) m P.den (e.near m d);
  };
  upper_few = upper_few _ 1 P.den _ (mul-pos (lit< tt) (mul-pos h.left h.left)) (fewer 1 (lit≤ tt)) e₁.near;
  peak_few = upper_few _ 1 P.den _ (mul-pos (lit< tt) (mul-pos h.left h.left)) (fewer 2 (lit≤ tt)) e.near;
}
  where
    fewer : (c : ℕ) → c ≤ 2 → c * norm P.re P.im ≤ 1 * (3 * 2 ^ 100 * (P.den * P.den))
    fewer c l = from (c ∷ P.re ∷ P.im ∷ P.den ∷ []) (norm P.re P.im ⋆ l ⊹ 2 ⋆ room) (search read depth 40 fits 20000) refl

    e₁ : Enclosed 1 1 P (lower_of 1 1 x) (upper_of 1 1 x)
    e₁ = encloses x k P 1 1 f s few h (lit< tt) (lit< tt) (lit< tt) (lit< tt) (roomy 1 _ _ (fewer 1 (lit≤ tt)))

    e : Enclosed 2 1 P (lower_of 2 1 x) (upper_of 2 1 x)
    e = encloses x k P 2 1 f s few h (lit< tt) (lit< tt) (lit< tt) (lit< tt) (roomy 1 _ _ (fewer 2 (lit≤ tt)))

    least : (n u d : ℕ) → 2 * n ≤ 1 * (u * u * (d * d)) → 2 * n ≤ u * u * (d * d)
    least n u d h = omega arith

    far : (n m d : ℕ) → 268435456 * (1 * (m * m * (d * d))) ≤ 268435457 * (2 * n) → 100000000 * 100000000 * (m * m) * (d * d) ≤ 100000001 * 100000001 * (2 * n)
    far n m d h = from_over (n ∷ m ∷ d ∷ []) 268435456 (lit< tt) (10000000000000000 ⋆ h) (search read depth 40 fits 20000) refl
