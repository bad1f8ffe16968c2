-- The elements as they are calculated in f64, a definition for each function of src/: impedances, the step of the peak table, current,
-- peaks and μ. How near each is to the exact one is proved in laws/ImpedanceErrors, laws/Place, laws/BoundsAndPeaks and laws/BreakingFactor.
use Rattle.std.specs.Prelude.{ℕ, ◌+◌, ◌*◌, ◌-◌, ◌/◌, ◌%◌, min, max, cond, ◌&&◌, Bool, false, leb, ltb, eqb, Float}
use Rattle.std.specs.Float.{binary64}
use Rattle.std.specs.Float.Ieee.{of_bits, add, mul, le}
use Rattle.enclosure.specs.declared.Complex.{Complex}
use Rattle.enclosure.specs.Doubles.{none, whole_point, added, scaled, climb, upper_of, under_root}
use Rattle.elements.specs.Factors.{factor_c, sine_of, ux_of, split_of, peak_factor}
use Rattle.elements.specs.Impedance.{apart}
use Rattle.elements.specs.BreakingFactor.{mu_of}
use Rattle.enclosure.specs.Exact.{of_nat}

unfoldable pub line_by : ℕ → ℕ → ℕ → ℕ → Complex
line_by r x metres circuits = scaled 1 1000000 (scaled metres circuits (whole_point r x))

-- nothing where uk is past document 01's range, or uR above uk
unfoldable pub transformer_by : ℕ → ℕ → ℕ → ℕ → ℕ → ℕ → Complex
transformer_by tolerance Ulower UrOwn k_va uk u_r =
    cond (leb uk 30000 && leb u_r uk)
    (scaled (9500 * factor_c tolerance Ulower) (1000000000 + 6 * ux_of uk u_r) (scaled UrOwn 100000000 (scaled UrOwn k_va (whole_point (1000 * u_r) (ux_of uk u_r)))))
    none

-- R/Z and X/Z, in 10⁸; nothing where ρ is past document 01's range
unfoldable pub split_by : ℕ → Complex
split_by ρ = cond (leb ρ 200) (whole_point (split_of ρ * ρ) (split_of ρ * 100)) none

unfoldable pub feeder_by : ℕ → ℕ → ℕ → ℕ → Complex
feeder_by tolerance Un k_va ρ = scaled (factor_c tolerance Un) 100000000 (scaled Un 100000 (scaled Un k_va (split_by ρ)))

unfoldable pub motor_by : ℕ → ℕ → ℕ → ℕ → Complex
motor_by Ur k_va ratio ρ = scaled 1 100000 (scaled 1 100000 (scaled Ur ratio (scaled Ur k_va (split_by ρ))))

-- nothing where xd or ρ is past document 01's range; a power factor below it counts as its least, 70
unfoldable pub generator_by : ℕ → ℕ → ℕ → ℕ → ℕ → ℕ → ℕ → Complex
generator_by tolerance Un Ur k_va xd ρ powerFactor =
    cond (leb xd 100000 && leb ρ 200)
    (scaled (factor_c tolerance Un) (1000000000 + xd * sine_of (max powerFactor 70)) (scaled Un 1000 (scaled Ur k_va (whole_point (xd * ρ) (xd * 100)))))
    none

-- A power station unit. The high volts of the literal form cancel, and so do the rated volts in the generator's part:
-- c·Un²/(10·kVAT·(10¹² + d·s)) times kVAT/kVA·10·xd·(ρ + j·100) + (low/Ur)²·(1,000·uR + j·w), d = |1,000·xd − w|. Nothing where xd or uk is
-- past its range, or uR above uk; a power factor as of a generator
unfoldable pub station_unit_by : ℕ → ℕ → ℕ → ℕ → ℕ → ℕ → ℕ → ℕ → ℕ → ℕ → ℕ → Complex
station_unit_by tolerance Un Ur k_va xd ρ powerFactor low kVAT uk u_r =
    cond (leb xd 100000 && (leb uk 30000 && leb u_r uk))
    (scaled (factor_c tolerance Un) (1000000000000 + apart (1000 * xd) (ux_of uk u_r) * sine_of (max powerFactor 70))
    (scaled Un 10 (scaled Un kVAT
    (added (scaled kVAT k_va (scaled (10 * xd) 1 (whole_point ρ 100))) (scaled low Ur (scaled low Ur (whole_point (1000 * u_r) (ux_of uk u_r))))))))
    none

unfoldable pub converter_by : ℕ → ℕ → Complex
converter_by tenths k = scaled k 1000 (whole_point tenths 0)

-- V(p) in sixteen-thousandths, for R/X = p/1,600: with p = 16·i + s, 16·K(i) − s·(K(i) − K(i + 1)); past the end of the table its last entry
unfoldable pub fine_factor : ℕ → ℕ
fine_factor p = (16 - p % 16) * peak_factor (min (p / 16) 230) + p % 16 * peak_factor (min (p / 16 + 1) 230)

-- 2 ^ -20 of the size: more than every rounding, less than a tenth of a step
abbrev pub margin : Float
margin = of_bits binary64 0x3EB0_0000_0000_0000

abbrev pub steps : Float
steps = of_bits binary64 0x4099_0000_0000_0000

-- p·B and a margin are at most 1,600·G, in f64; never past the table's end
unfoldable pub fits_at : Complex → ℕ → Bool
fits_at y p = cond (ltb 3680 p) false (le (add binary64 (mul binary64 (of_nat p) y.im) (mul binary64 (add binary64 y.re y.im) margin)) (mul binary64 steps y.re))

-- the greatest p that fits, bit by bit; 0 where none does
unfoldable pub place_of : Complex → ℕ
place_of y = climb (fits_at y) 12 0

-- √3·I as a point, from the admittance at the bus: c·Un·Y, c in hundredths
unfoldable pub current_by : ℕ → ℕ → Complex → Complex
current_by c Un y = scaled c 100 (scaled Un 1 y)

-- √2·I·V(p)/16,000, rounded up, from the current before it is rounded to whole amperes
unfoldable pub machine_peak_by : ℕ → ℕ → Complex → ℕ
machine_peak_by c Un y = upper_of 2 3 (scaled (fine_factor (place_of y)) 16000 (current_by c Un y))

-- √2 times the converters' part, rounded up
unfoldable pub converter_peak_by : Complex → ℕ
converter_peak_by x = upper_of 2 1 x

-- where the 101 entries of a delay begin in the table of the four
unfoldable pub first_of : ℕ → ℕ
first_of delay = cond (eqb delay 20) 0 (cond (eqb delay 50) 101 (cond (eqb delay 100) 202 303))

-- μ in thousandths, from r steps of 1/40,960 of q: 1 while what q is at least is not above 2, then by its tenths
unfoldable pub mu_by : ℕ → ℕ → ℕ
mu_by delay r = cond (leb (under_root r) 81920) 1000 (mu_of delay (min (under_root r / 4096) 100))
