-- The constant table of 231 numbers is document 01's K, by one test that is computed over the whole table. Assumes nothing.
use Rattle.std.specs.Prelude.{ℕ, zero, suc, ◌+◌, ◌*◌, ◌≤◌, ◌<◌, ◌≡◌, List, [], ◌∷◌, get_or}
use Rattle.std.proofs.Common.{arith, div-lt_iff_lt-mul, le_of_suc-le-suc, le_refl, mul-le-mul, lit<}
use Rattle.std.proofs.Math.Nat.{lt-div-mul-add}
use Rattle.elements.specs.Factors.{t_over, t_under, numerator, denominator, ceiling, peak_factor}
use Rattle.elements.specs.laws.Exponential.{t_least, t_over_pos}
use Rattle.elements.specs.laws.EachBelow.{table_rule}

pub ceiling_reaches : (a b : ℕ) → 0 < b → a ≤ ceiling a b * b
unfolding ceiling
ceiling_reaches a zero h = omega arith
ceiling_reaches a (suc c) h = omega (arith, lt-div-mul-add {a = a + c} {b = suc c} h)

pub ceiling_least : (a b k : ℕ) → 0 < b → a ≤ k * b → ceiling a b ≤ k
unfolding ceiling
ceiling_least a zero k h l = omega arith
ceiling_least a (suc c) k h l = le_of_suc-le-suc ((div-lt_iff_lt-mul {k = suc c} {x = a + c} {y = suc k} h).1 (omega arith))

-- the table
abbrev pub peaks : List ℕ
peaks =
    2000 ∷ 1972 ∷ 1943 ∷ 1916 ∷ 1890 ∷ 1864 ∷ 1839 ∷ 1815 ∷ 1791 ∷ 1769 ∷ 1747 ∷ 1725 ∷ 1704 ∷ 1684 ∷ 1664 ∷ 1645 ∷ 1627 ∷ 1609 ∷ 1592 ∷ 1575 ∷ 1558 ∷
    1542 ∷ 1527 ∷ 1512 ∷ 1498 ∷ 1483 ∷ 1470 ∷ 1456 ∷ 1444 ∷ 1431 ∷ 1419 ∷ 1407 ∷ 1396 ∷ 1385 ∷ 1374 ∷ 1363 ∷ 1353 ∷ 1343 ∷ 1334 ∷ 1325 ∷ 1316 ∷ 1307 ∷
    1298 ∷ 1290 ∷ 1282 ∷ 1275 ∷ 1267 ∷ 1260 ∷ 1253 ∷ 1246 ∷ 1239 ∷ 1233 ∷ 1226 ∷ 1220 ∷ 1214 ∷ 1209 ∷ 1203 ∷ 1198 ∷ 1193 ∷ 1187 ∷ 1182 ∷ 1178 ∷ 1173 ∷
    1169 ∷ 1164 ∷ 1160 ∷ 1156 ∷ 1152 ∷ 1148 ∷ 1144 ∷ 1141 ∷ 1137 ∷ 1134 ∷ 1130 ∷ 1127 ∷ 1124 ∷ 1121 ∷ 1118 ∷ 1115 ∷ 1112 ∷ 1109 ∷ 1107 ∷ 1104 ∷ 1102 ∷
    1099 ∷ 1097 ∷ 1095 ∷ 1093 ∷ 1090 ∷ 1088 ∷ 1086 ∷ 1084 ∷ 1083 ∷ 1081 ∷ 1079 ∷ 1077 ∷ 1076 ∷ 1074 ∷ 1072 ∷ 1071 ∷ 1069 ∷ 1068 ∷ 1066 ∷ 1065 ∷ 1064 ∷
    1062 ∷ 1061 ∷ 1060 ∷ 1059 ∷ 1058 ∷ 1057 ∷ 1056 ∷ 1055 ∷ 1054 ∷ 1053 ∷ 1052 ∷ 1051 ∷ 1050 ∷ 1049 ∷ 1048 ∷ 1047 ∷ 1046 ∷ 1046 ∷ 1045 ∷ 1044 ∷ 1044 ∷
    1043 ∷ 1042 ∷ 1042 ∷ 1041 ∷ 1040 ∷ 1040 ∷ 1039 ∷ 1039 ∷ 1038 ∷ 1038 ∷ 1037 ∷ 1037 ∷ 1036 ∷ 1036 ∷ 1035 ∷ 1035 ∷ 1034 ∷ 1034 ∷ 1034 ∷ 1033 ∷ 1033 ∷
    1032 ∷ 1032 ∷ 1032 ∷ 1031 ∷ 1031 ∷ 1031 ∷ 1030 ∷ 1030 ∷ 1030 ∷ 1030 ∷ 1029 ∷ 1029 ∷ 1029 ∷ 1029 ∷ 1028 ∷ 1028 ∷ 1028 ∷ 1028 ∷ 1027 ∷ 1027 ∷ 1027 ∷
    1027 ∷ 1027 ∷ 1026 ∷ 1026 ∷ 1026 ∷ 1026 ∷ 1026 ∷ 1026 ∷ 1025 ∷ 1025 ∷ 1025 ∷ 1025 ∷ 1025 ∷ 1025 ∷ 1025 ∷ 1025 ∷ 1024 ∷ 1024 ∷ 1024 ∷ 1024 ∷ 1024 ∷
    1024 ∷ 1024 ∷ 1024 ∷ 1024 ∷ 1023 ∷ 1023 ∷ 1023 ∷ 1023 ∷ 1023 ∷ 1023 ∷ 1023 ∷ 1023 ∷ 1023 ∷ 1023 ∷ 1023 ∷ 1023 ∷ 1023 ∷ 1023 ∷ 1022 ∷ 1022 ∷ 1022 ∷
    1022 ∷ 1022 ∷ 1022 ∷ 1022 ∷ 1022 ∷ 1022 ∷ 1022 ∷ 1022 ∷ 1022 ∷ 1022 ∷ 1022 ∷ 1022 ∷ 1022 ∷ 1022 ∷ 1022 ∷ 1022 ∷ 1022 ∷ 1022 ∷ 1022 ∷ 1022 ∷ 1021 ∷ []

-- ---- the rule
pub peaks_rule : (i : ℕ) → i < 231 → get_or peaks i 0 ≡ peak_factor i
unfolding peak_factor ceiling t_over t_under numerator denominator
peaks_rule = table_rule peaks peak_factor 231 tt

-- K(i) is from 1,020 to 2,000
pub peak_factor_sized : (i : ℕ) → (1020 ≤ peak_factor i) × (peak_factor i ≤ 2000)
unfolding peak_factor
peak_factor_sized i = go (ceiling (980 * t_under 100) (t_over (3 * i) 100)) (ceiling_least (980 * t_under 100) (t_over (3 * i) 100) 980 (t_over_pos (3 * i) 100 (lit< tt)) (mul-le-mul (le_refl 980) (t_least (3 * i) 100)))
  where
    go : (n : ℕ) → n ≤ 980 → (1020 ≤ 1020 + n) × (1020 + n ≤ 2000)
    go n h = (omega arith, omega arith)
