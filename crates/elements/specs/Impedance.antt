-- Document 01, "Element impedances in ohms", and document 02, orders 5 and 6: each as an exact point, drawn from the record's fields and
-- nominal volts alone and defined on all numbers. Assumes nothing.
use Rattle.std.specs.Prelude.{ℕ, ◌+◌, ◌-◌, ◌*◌}
use Rattle.enclosure.specs.Exact.{Point, sum, times}
use Rattle.elements.specs.Factors.{factor_c, sine_of, ux_of, split_of}

-- "Line: (r + jx)·metres/(circuits·10⁶)."
unfoldable pub line : ℕ → ℕ → ℕ → ℕ → Point
line r x metres circuits = times metres (circuits * 1000000) (record { re = r; im = x; den = 1 })

-- "K_T = 0.95·c/(1 + 0.6·ux/100,000)" and "w/10⁸ stands where ux/100,000 stood", with c in hundredths:
-- 0.95·(c/100) = 95·c/10⁴ and 1 + 0.6·w/10⁸ = (10⁹ + 6·w)/10⁹, so K_T = 95·c·10⁹/(10⁴·(10⁹ + 6·w)) = 9,500,000·c/(10⁹ + 6·w)
abbrev pub correct_t : ℕ → ℕ → Point → Point
correct_t c w z = times (9500000 * c) (1000000000 + 6 * w) z

-- uR/100,000 + j·w/10⁸, over 10⁸
abbrev pub short_circuit : ℕ → ℕ → Point
short_circuit u_r w = record { re = 1000 * u_r; im = w; den = 100000000 }

-- "(uR + j·ux)/100,000·UrOwn²/(1,000·kVA)": a transformer on the side of the rated volts Ur, without K_T
abbrev pub plain_transformer : ℕ → ℕ → ℕ → ℕ → Point
plain_transformer Ur k_va uk u_r = times (Ur * Ur) (1000 * k_va) (short_circuit u_r (ux_of uk u_r))

-- "Transformer, own side: K_T·(uR + j·ux)/100,000·UrOwn²/(1,000·kVA), .., c by the lower of the two nominal voltages."
unfoldable pub transformer : ℕ → ℕ → ℕ → ℕ → ℕ → ℕ → Point
transformer tolerance Ulower UrOwn k_va uk u_r = correct_t (factor_c tolerance Ulower) (ux_of uk u_r) (plain_transformer UrOwn k_va uk u_r)

-- R/Z and X/Z by f: "X = Z·f/10⁶, R = X·ρ/100"
unfoldable pub split : ℕ → Point
split ρ = record { re = split_of ρ * ρ; im = split_of ρ * 100; den = 100000000 }

-- "Feeder: Z = c·Un²/(1,000·kVA), split by f."
unfoldable pub feeder : ℕ → ℕ → ℕ → ℕ → Point
feeder tolerance Un k_va ρ = times (factor_c tolerance Un * (Un * Un)) (100 * (1000 * k_va)) (split ρ)

-- "K_G = (Un/Ur)·c/(1 + xd/100,000·sin), c by its bus", with c in hundredths and the sine s in ten-thousandths:
-- 1 + xd/10⁵·s/10⁴ = (10⁹ + xd·s)/10⁹, so K_G = Un·c·10⁹/(Ur·100·(10⁹ + xd·s)) = Un·(10⁷·c)/(Ur·(10⁹ + xd·s))
abbrev pub correct_g : ℕ → ℕ → ℕ → ℕ → ℕ → Point → Point
correct_g c Un Ur xd s z = times (Un * (10000000 * c)) (Ur * (1000000000 + xd * s)) z

-- "X = .. xd/100,000·Ur²/(1,000·kVA), R = X·ρ/100": a generator without K_G; (ρ + j·100)/100·xd/10⁵ is (xd·ρ + j·xd·100)/10⁷
abbrev pub plain_generator : ℕ → ℕ → ℕ → ℕ → Point
plain_generator Ur k_va xd ρ = times (Ur * Ur) (1000 * k_va) (record { re = xd * ρ; im = xd * 100; den = 10000000 })

-- "Generator: X = K_G·xd/100,000·Ur²/(1,000·kVA), R = X·ρ/100"
unfoldable pub generator : ℕ → ℕ → ℕ → ℕ → ℕ → ℕ → ℕ → Point
generator tolerance Un Ur k_va xd ρ powerFactor = correct_g (factor_c tolerance Un) Un Ur xd (sine_of powerFactor) (plain_generator Ur k_va xd ρ)

-- "Motor: Z = (10/ratio)·Ur²/(1,000·kVA), split by f."
unfoldable pub motor : ℕ → ℕ → ℕ → ℕ → Point
motor Ur k_va ratio ρ = times (10 * (Ur * Ur)) (ratio * (1000 * k_va)) (split ρ)

-- ---- document 02, order 5: a power station unit, seen from the high-voltage side of its transformer
-- |a − b|
abbrev pub apart : ℕ → ℕ → ℕ
apart a b = a - b + (b - a)

-- "K_S = Un²/Ur²·low²/high²·c/(1 + |xd − xT|·sin), c and Un of the bus, xd as a fraction, xT = ux/100,000", which is w/10⁸ now; with c in
-- hundredths, the sine s in ten-thousandths, and d = |xd − xT| in 10⁻⁸, which is |1,000·xd − w|:
-- 1 + d/10⁸·s/10⁴ = (10¹² + d·s)/10¹², so K_S = Un²·low²·c·10¹²/(Ur²·high²·100·(10¹² + d·s)) = Un²·low²·(10¹⁰·c)/(Ur²·high²·(10¹² + d·s))
abbrev pub correct_s : ℕ → ℕ → ℕ → ℕ → ℕ → ℕ → ℕ → Point → Point
correct_s c Un Ur low high d s z = times (Un * Un * (low * low) * (10000000000 * c)) (Ur * Ur * (high * high) * (1000000000000 + d * s)) z

-- "Z = K_S·(t²·Z_G + Z_T), t high over low rated volts, Z_G the generator's impedance without K_G, Z_T the transformer's on its high side
-- without K_T"
unfoldable pub station_unit : ℕ → ℕ → ℕ → ℕ → ℕ → ℕ → ℕ → ℕ → ℕ → ℕ → ℕ → ℕ → Point
station_unit tolerance Un Ur k_va xd ρ powerFactor low high kVAT uk u_r =
    correct_s (factor_c tolerance Un) Un Ur low high (apart (1000 * xd) (ux_of uk u_r)) (sine_of powerFactor)
    (sum (times (high * high) (low * low) (plain_generator Ur k_va xd ρ)) (plain_transformer high kVAT uk u_r))

-- "the sum of rated current·k": one converter's amperes, on the real axis, from tenths of an ampere and hundredths
unfoldable pub converter : ℕ → ℕ → Point
converter tenths k = record { re = tenths * k; im = 0; den = 1000 }
