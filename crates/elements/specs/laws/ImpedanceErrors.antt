-- Each calculated impedance is within a few parts in 2 ^ 53 of the exact one, by the rules of the enclosing arithmetic.
-- Assumes nothing.
use Rattle.std.specs.Prelude.{ℕ, ◌+◌, ◌*◌, ◌^◌, ◌≤◌, ◌<◌, ◌≡◌, refl, [], ◌∷◌}
use Rattle.std.proofs.Common.{arith, mul-le-mul, mul-pos, le-leb}
use Rattle.std.proofs.Math.Nat.{max-eq_left}
use Rattle.algebra.specs.Reading.{identity, read}
use Rattle.enclosure.specs.Exact.{Point, sum, times, inverse}
use Rattle.enclosure.specs.laws.Nearness.{NearTo, Same, near_same}
use Rattle.enclosure.specs.declared.Complex.{Complex}
use Rattle.enclosure.specs.laws.StepErrors.{parts}
use Rattle.enclosure.specs.Doubles.{whole_point, added, scaled, inverted}
use Rattle.enclosure.specs.laws.F64Errors.{value}
use Rattle.enclosure.specs.laws.F64Range.{Good, Factor, Wide, f64_rules, wide_near}
use Rattle.enclosure.specs.laws.ElementStart.{whole_near}
use Rattle.elements.specs.Factors.{factor_c, sine_of, ux_of, split_of}
use Rattle.elements.specs.laws.FactorSizes.{split_re_most, split_im_most, factor_c_sized, ux_few, saturation_most, unit_saturation_most}
use Rattle.elements.specs.Impedance.{line, correct_t, short_circuit, transformer, split, feeder, motor, generator, apart, correct_s, plain_generator, station_unit, converter}
use Rattle.elements.specs.Doubles.{line_by, transformer_by, split_by, feeder_by, motor_by, generator_by, station_unit_by, converter_by}

-- z is within k parts in 2 ^ 53 of the exact x, and of a size that calculation can go on from
abbrev pub Calculated : ℕ → Point → Complex → Type 0
Calculated = NearTo value (Good 200 0) parts

-- a pair of whole numbers, and ratios one after the other
start : (a b : ℕ) → a < 2 ^ 32 → b < 2 ^ 32 → Calculated 0 (record { re = a; im = b; den = 1 }) (whole_point a b)
start = whole_near

by : (k p q : ℕ) (x : Point) (z : Complex) → k ≤ 50 → Factor p → Factor q → Calculated k x z → Calculated (k + 8) (times p q x) (scaled p q z)
by k p q x z l hp hq h = (f64_rules 0 (omega arith)).near_scale k p q x z hp hq l h

-- the sum of two
both : (k : ℕ) (x x' : Point) (z z' : Complex) → k ≤ 50 → Calculated k x z → Calculated k x' z' → Calculated (k + 4) (sum x x') (added z z')
both k x x' z z' l h h' = (f64_rules 0 (omega arith)).near_add k x x' z z' l h h'

-- the same point in another form
equal : (k : ℕ) (x y : Point) (z : Complex) → 0 < y.den → Same x y → Calculated k x z → Calculated k y z
equal k x y z d s h = (near_same parts k x y (value z) d s h.0, h.1)

-- THE ADMITTANCE of a machine, from its impedance
pub admittance_near : (k : ℕ) (x : Point) (z : Complex) → k ≤ 50 → Calculated k x z → Calculated (k + 13) (inverse x) (inverted z)
admittance_near k x z l h = (f64_rules 0 (omega arith)).near_inverse k x z l h

pub line_near : (r x metres circuits : ℕ) → r < 2 ^ 32 → x < 2 ^ 32 → Factor metres → Factor circuits → Calculated 16 (line r x metres circuits) (line_by r x metres circuits)
unfolding line line_by
line_near r x metres circuits hr hx hm hc =
    equal 16 (times 1 1000000 (times metres circuits (record { re = r; im = x; den = 1 }))) (times metres (circuits * 1000000) (record { re = r; im = x; den = 1 })) _
    (mul-pos (omega arith) (mul-pos hc.0 (omega arith)))
    (record { re = same r; im = same x })
    (by 8 1 1000000 _ _ (omega arith) (omega arith, omega arith) (omega arith, omega arith) (by 0 metres circuits _ _ (omega arith) hm hc (start r x hr hx)))
  where
    same : (a : ℕ) → a * metres * 1 * (1 * (circuits * 1000000)) ≡ a * metres * (1 * circuits * 1000000)
    same a = identity (a ∷ metres ∷ circuits ∷ []) (search read depth 40 fits 20000) refl

pub converter_near : (tenths k : ℕ) → tenths < 2 ^ 32 → Factor k → Calculated 8 (converter tenths k) (converter_by tenths k)
unfolding converter converter_by
converter_near tenths k ht hk =
    equal 8 (times k 1000 (record { re = tenths; im = 0; den = 1 })) (record { re = tenths * k; im = 0; den = 1000 }) _ (omega arith)
    (record { re = omega arith; im = omega arith })
    (by 0 k 1000 _ _ (omega arith) hk (omega arith, omega arith) (start tenths 0 ht (omega arith)))

-- K_T's numerator and denominator
correction : (tolerance volts uk u_r : ℕ) → uk ≤ 30000 → Factor (9500 * factor_c tolerance volts) × Factor (1000000000 + 6 * ux_of uk u_r)
correction tolerance volts uk u_r h =
    let c = factor_c_sized tolerance volts in
    let u = ux_few uk u_r h in
    ((omega (arith, c.0), omega (arith, c.1)), (omega arith, omega arith))

pub transformer_near : (tolerance lower own k_va uk u_r : ℕ) → uk ≤ 30000 → u_r ≤ uk → Factor own → Factor k_va
    → Calculated 24 (transformer tolerance lower own k_va uk u_r) (transformer_by tolerance lower own k_va uk u_r)
unfolding transformer transformer_by
transformer_near tolerance lower own k_va uk u_r hk hr ho hv =
    rw (le-leb uk 30000 hk, le-leb u_r uk hr)
    (go (factor_c tolerance lower) (ux_of uk u_r) (correction tolerance lower uk u_r hk) (omega (arith, ux_few uk u_r hk)))
  where
    same : (a c x : ℕ) → a * own * own * (9500 * c) * (100000000 * (1000 * k_va) * (1000000000 + 6 * x)) ≡ a * (own * own) * (9500000 * c) * (1 * k_va * 100000000 * (1000000000 + 6 * x))
    same a c x = identity (a ∷ own ∷ c ∷ k_va ∷ x ∷ []) (search read depth 40 fits 20000) refl

    go : (c x : ℕ) → Factor (9500 * c) × Factor (1000000000 + 6 * x) → x < 2 ^ 32
        → Calculated 24 (correct_t c x (times (own * own) (1000 * k_va) (short_circuit u_r x)))
        (scaled (9500 * c) (1000000000 + 6 * x) (scaled own 100000000 (scaled own k_va (whole_point (1000 * u_r) x))))
    go c x v l =
        equal 24 (times (9500 * c) (1000000000 + 6 * x) (times own 100000000 (times own k_va (record { re = 1000 * u_r; im = x; den = 1 })))) _ _
        (mul-pos (mul-pos (omega arith) (mul-pos (omega arith) hv.0)) v.1.0)
        (record { re = same (1000 * u_r) c x; im = same x c x })
        (by 16 (9500 * c) (1000000000 + 6 * x) _ _ (omega arith) v.0 v.1
        (by 8 own 100000000 _ _ (omega arith) ho (omega arith, omega arith) (by 0 own k_va _ _ (omega arith) ho hv (start (1000 * u_r) x (omega arith) l))))

-- a machine whose impedance is split by f: the pair f·ρ and f·100 first
split_start : (ρ : ℕ) → ρ ≤ 200 → Calculated 0 (record { re = split_of ρ * ρ; im = split_of ρ * 100; den = 1 }) (split_by ρ)
unfolding split_by
split_start ρ h = rw (le-leb ρ 200 h) (start (split_of ρ * ρ) (split_of ρ * 100) (omega (arith, split_re_most ρ)) (omega (arith, split_im_most ρ)))

pub feeder_near : (tolerance Un k_va ρ : ℕ) → ρ ≤ 200 → Factor Un → Factor k_va → Calculated 24 (feeder tolerance Un k_va ρ) (feeder_by tolerance Un k_va ρ)
unfolding feeder feeder_by split
feeder_near tolerance Un k_va ρ hρ hu hv = go (factor_c tolerance Un) (split_of ρ * ρ) (split_of ρ * 100) (factor_c_sized tolerance Un) (split_start ρ hρ)
  where
    same : (a c : ℕ) → a * Un * Un * c * (100000000 * (100 * (1000 * k_va))) ≡ a * (c * (Un * Un)) * (1 * k_va * 100000 * 100000000)
    same a c = identity (a ∷ Un ∷ c ∷ k_va ∷ []) (search read depth 40 fits 20000) refl

    go : (c a b : ℕ) → (100 < c) × (c ≤ 110) → Calculated 0 (record { re = a; im = b; den = 1 }) (split_by ρ)
        → Calculated 24 (times (c * (Un * Un)) (100 * (1000 * k_va)) (record { re = a; im = b; den = 100000000 })) (scaled c 100000000 (scaled Un 100000 (scaled Un k_va (split_by ρ))))
    go c a b h s =
        equal 24 (times c 100000000 (times Un 100000 (times Un k_va (record { re = a; im = b; den = 1 })))) _ _
        (mul-pos (omega arith) (mul-pos (omega arith) (mul-pos (omega arith) hv.0)))
        (record { re = same a c; im = same b c })
        (by 16 c 100000000 _ _ (omega arith) (omega arith, omega arith) (omega arith, omega arith)
        (by 8 Un 100000 _ _ (omega arith) hu (omega arith, omega arith) (by 0 Un k_va _ _ (omega arith) hu hv s)))

pub motor_near : (Ur k_va ratio ρ : ℕ) → ρ ≤ 200 → Factor Ur → Factor k_va → Factor ratio → Calculated 32 (motor Ur k_va ratio ρ) (motor_by Ur k_va ratio ρ)
unfolding motor motor_by split
motor_near Ur k_va ratio ρ hρ hu hv hr =
    equal 32 (times 1 100000 (times 1 100000 (times Ur ratio (times Ur k_va (record { re = split_of ρ * ρ; im = split_of ρ * 100; den = 1 }))))) _ _
    (mul-pos (omega arith) (mul-pos hr.0 (mul-pos (omega arith) hv.0)))
    (record { re = same (split_of ρ * ρ); im = same (split_of ρ * 100) })
    (by 24 1 100000 _ _ (omega arith) (omega arith, omega arith) (omega arith, omega arith)
    (by 16 1 100000 _ _ (omega arith) (omega arith, omega arith) (omega arith, omega arith)
    (by 8 Ur ratio _ _ (omega arith) hu hr (by 0 Ur k_va _ _ (omega arith) hu hv (split_start ρ hρ)))))
  where
    same : (a : ℕ) → a * Ur * Ur * 1 * 1 * (100000000 * (ratio * (1000 * k_va))) ≡ a * (10 * (Ur * Ur)) * (1 * k_va * ratio * 100000 * 100000)
    same a = identity (a ∷ Ur ∷ k_va ∷ ratio ∷ []) (search read depth 40 fits 20000) refl

pub generator_near : (tolerance Un Ur k_va xd ρ powerFactor : ℕ) → xd ≤ 100000 → ρ ≤ 200 → 70 ≤ powerFactor → Factor Un → Factor Ur → Factor k_va
    → Calculated 24 (generator tolerance Un Ur k_va xd ρ powerFactor) (generator_by tolerance Un Ur k_va xd ρ powerFactor)
unfolding generator generator_by
generator_near tolerance Un Ur k_va xd ρ powerFactor hx hρ hp hn hr hv =
    rw (le-leb xd 100000 hx, le-leb ρ 200 hρ, max-eq_left hp)
    (go (factor_c tolerance Un) (xd * sine_of powerFactor) (factor_c_sized tolerance Un) (saturation_most xd powerFactor hx))
  where
    same : (a c s : ℕ) → a * Ur * Un * c * (10000000 * (1000 * k_va) * (Ur * (1000000000 + s))) ≡ a * (Ur * Ur) * (Un * (10000000 * c)) * (1 * k_va * 1000 * (1000000000 + s))
    same a c s = identity (a ∷ Un ∷ Ur ∷ k_va ∷ c ∷ s ∷ []) (search read depth 40 fits 20000) refl

    go : (c s : ℕ) → (100 < c) × (c ≤ 110) → s ≤ 1000000000
        → Calculated 24 (times (Un * (10000000 * c)) (Ur * (1000000000 + s)) (times (Ur * Ur) (1000 * k_va) (record { re = xd * ρ; im = xd * 100; den = 10000000 })))
        (scaled c (1000000000 + s) (scaled Un 1000 (scaled Ur k_va (whole_point (xd * ρ) (xd * 100)))))
    go c s h l =
        equal 24 (times c (1000000000 + s) (times Un 1000 (times Ur k_va (record { re = xd * ρ; im = xd * 100; den = 1 })))) _ _
        (mul-pos (mul-pos (omega arith) (mul-pos (omega arith) hv.0)) (mul-pos hr.0 (omega arith)))
        (record { re = same (xd * ρ) c s; im = same (xd * 100) c s })
        (by 16 c (1000000000 + s) _ _ (omega arith) (omega arith, omega arith) (omega arith, omega arith)
        (by 8 Un 1000 _ _ (omega arith) hn (omega arith, omega arith)
        (by 0 Ur k_va _ _ (omega arith) hr hv (start (xd * ρ) (xd * 100) (omega (arith, mul-le-mul hx hρ)) (omega arith)))))

-- ---- a power station unit: t² and K_S cancel the high volts, and of the low volts and the generator's the transformer's part alone keeps a
-- ratio. D is |1,000·xd − ux|·s
module _ (c D Un Ur k_va xd ρ low kVAT u_r ux : ℕ) where
  abbrev pub reduced_unit : Point
  reduced_unit =
      times c (1000000000000 + D) (times Un 10 (times Un kVAT
      (sum (times kVAT k_va (times (10 * xd) 1 (record { re = ρ; im = 100; den = 1 }))) (times low Ur (times low Ur (record { re = 1000 * u_r; im = ux; den = 1 }))))))

  -- one part of it, p being ρ or 100 and u 1,000·uR or ux, over the literal form's
  same_part : (high p u : ℕ)
      → (p * (10 * xd) * kVAT * (1 * Ur * Ur) + u * low * low * (1 * 1 * k_va)) * Un * Un * c
      * (10000000 * (1000 * k_va) * (low * low) * (100000000 * (1000 * kVAT)) * (Ur * Ur * (high * high) * (1000000000000 + D)))
      ≡ (xd * p * (Ur * Ur) * (high * high) * (100000000 * (1000 * kVAT)) + u * (high * high) * (10000000 * (1000 * k_va) * (low * low))) * (Un * Un * (low * low) * (10000000000 * c))
      * (1 * 1 * k_va * (1 * Ur * Ur) * kVAT * 10 * (1000000000000 + D))
  same_part high p u = identity (c ∷ D ∷ Un ∷ Ur ∷ k_va ∷ xd ∷ low ∷ kVAT ∷ high ∷ p ∷ u ∷ []) (search read depth 40 fits 20000) refl

-- THE LITERAL FORM AND THE ONE THAT IS CALCULATED ARE THE SAME
pub unit_same : (tolerance Un Ur k_va xd ρ powerFactor low high kVAT uk u_r : ℕ)
    → Same (reduced_unit (factor_c tolerance Un) (apart (1000 * xd) (ux_of uk u_r) * sine_of powerFactor) Un Ur k_va xd ρ low kVAT u_r (ux_of uk u_r))
    (station_unit tolerance Un Ur k_va xd ρ powerFactor low high kVAT uk u_r)
unfolding station_unit
unit_same tolerance Un Ur k_va xd ρ powerFactor low high kVAT uk u_r =
    go (factor_c tolerance Un) (apart (1000 * xd) (ux_of uk u_r)) (sine_of powerFactor) (ux_of uk u_r)
  where
    go : (c d s ux : ℕ) → Same (reduced_unit c (d * s) Un Ur k_va xd ρ low kVAT u_r ux)
        (correct_s c Un Ur low high d s (sum (times (high * high) (low * low) (plain_generator Ur k_va xd ρ)) (times (high * high) (1000 * kVAT) (short_circuit u_r ux))))
    go c d s ux = record { re = same_part c (d * s) Un Ur k_va xd ρ low kVAT u_r ux high ρ (1000 * u_r); im = same_part c (d * s) Un Ur k_va xd ρ low kVAT u_r ux high 100 ux }

pub unit_proper : (tolerance Un Ur k_va xd ρ powerFactor low high kVAT uk u_r : ℕ) → 0 < Ur → 0 < k_va → 0 < low → 0 < high → 0 < kVAT
    → 0 < (station_unit tolerance Un Ur k_va xd ρ powerFactor low high kVAT uk u_r).den
unfolding station_unit
unit_proper tolerance Un Ur k_va xd ρ powerFactor low high kVAT uk u_r r v l h t =
    mul-pos (mul-pos (mul-pos (mul-pos (omega arith) (mul-pos (omega arith) v)) (mul-pos l l)) (mul-pos (omega arith) (mul-pos (omega arith) t)))
    (mul-pos (mul-pos (mul-pos r r) (mul-pos h h)) (omega arith))

pub unit_near : (tolerance Un Ur k_va xd ρ powerFactor low high kVAT uk u_r : ℕ) → xd ≤ 100000 → uk ≤ 30000 → u_r ≤ uk → 70 ≤ powerFactor → ρ < 2 ^ 32
    → Factor Un → Factor Ur → Factor k_va → Factor xd → Factor low → Factor high → Factor kVAT
    → Calculated 44 (station_unit tolerance Un Ur k_va xd ρ powerFactor low high kVAT uk u_r) (station_unit_by tolerance Un Ur k_va xd ρ powerFactor low kVAT uk u_r)
unfolding station_unit_by
unit_near tolerance Un Ur k_va xd ρ powerFactor low high kVAT uk u_r hx hk hR hp hρ hn hr hv hd hl hh ht =
    rw (le-leb xd 100000 hx, le-leb uk 30000 hk, le-leb u_r uk hR, max-eq_left hp)
    (equal 44 _ (station_unit tolerance Un Ur k_va xd ρ powerFactor low high kVAT uk u_r) _ (unit_proper tolerance Un Ur k_va xd ρ powerFactor low high kVAT uk u_r hr.0 hv.0 hl.0 hh.0 ht.0) (unit_same tolerance Un Ur k_va xd ρ powerFactor low high kVAT uk u_r)
    (go (factor_c tolerance Un) (apart (1000 * xd) (ux_of uk u_r) * sine_of powerFactor) (ux_of uk u_r) (factor_c_sized tolerance Un) (unit_saturation_most xd uk u_r powerFactor hx hk) (omega (arith, ux_few uk u_r hk))))
  where
    wide : (c D : ℕ) → (100 < c) × (c ≤ 110) → D ≤ 1000000000000 → Wide c (1000000000000 + D)
    wide c D h l = record { over = omega arith; under = omega arith; over_most = omega arith; under_most = omega arith; high = omega arith; low = omega arith }

    go : (c D ux : ℕ) → (100 < c) × (c ≤ 110) → D ≤ 1000000000000 → ux < 2 ^ 32
        → Calculated 44 (reduced_unit c D Un Ur k_va xd ρ low kVAT u_r ux)
        (scaled c (1000000000000 + D) (scaled Un 10 (scaled Un kVAT (added (scaled kVAT k_va (scaled (10 * xd) 1 (whole_point ρ 100))) (scaled low Ur (scaled low Ur (whole_point (1000 * u_r) ux)))))))
    go c D ux h l m =
        wide_near 36 c (1000000000000 + D) _ _ (wide c D h l) (omega arith)
        (by 28 Un 10 _ _ (omega arith) hn (omega arith, omega arith)
        (by 20 Un kVAT _ _ (omega arith) hn ht
        (both 16 _ _ _ _ (omega arith)
        (by 8 kVAT k_va _ _ (omega arith) ht hv (by 0 (10 * xd) 1 _ _ (omega arith) (omega (arith, hd.0), omega arith) (omega arith, omega arith) (start ρ 100 hρ (omega arith))))
        (by 8 low Ur _ _ (omega arith) hl hr (by 0 low Ur _ _ (omega arith) hl hr (start (1000 * u_r) ux (omega arith) m))))))
