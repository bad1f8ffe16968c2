-- A record is made of its numbers, and a worked text. Assumes nothing.
use Rattle.std.specs.Prelude.{◌≡◌, refl, true, [], ◌∷◌, length}
use Rattle.network.specs.declared.study.Bus.{Bus}
use Rattle.network.specs.declared.study.Source.{Source}
use Rattle.network.specs.Network.{Network, open_of, closed_as}
use Rattle.reader.specs.File.{bus_fields, source_fields, bus_of, source_of}
use Rattle.printing.specs.Printed.{decimal}
use Rattle.writer.specs.Text.{bus_numbers, source_numbers, text_of}

bus_same : (b : Bus) → bus_of (bus_numbers b) ≡ b
bus_same b = refl

source_same : (p : Source) → source_of (source_numbers p) ≡ p
source_same p = refl

-- as many as the rows that are read have
counts : (b : Bus) (p : Source) → (length (bus_numbers b) ≡ bus_fields) × (length (source_numbers p) ≡ source_fields)
counts b p = (refl, refl)

-- tolerance 6, a bus at 400 V and its feeder of 5,000 kVA: S,6 B,0,400,0,0,0,0,0,0,1,2 P,1,0,5000,10,0,0,0,0,0,0,0,0, each with CRLF
example : Network
example =
    closed_as true
    (open_of 6
    (record { parent = 0; volts = 400; kind = 0; f1 = 0; f2 = 0; f3 = 0; f4 = 0; f5 = 0; rating = 1; peak_rating = 2 } ∷ [])
    (record { kind = 1; bus = 0; f1 = 5000; f2 = 10; f3 = 0; f4 = 0; f5 = 0; low = 0; high = 0; transformer_kva = 0; uk = 0; ur = 0 } ∷ []))

worked : text_of example
    ≡ 83 ∷ 44 ∷ 54 ∷ 13 ∷ 10
    ∷ 66 ∷ 44 ∷ 48 ∷ 44 ∷ 52 ∷ 48 ∷ 48 ∷ 44 ∷ 48 ∷ 44 ∷ 48 ∷ 44 ∷ 48 ∷ 44 ∷ 48 ∷ 44 ∷ 48 ∷ 44 ∷ 48 ∷ 44 ∷ 49 ∷ 44 ∷ 50 ∷ 13 ∷ 10
    ∷ 80 ∷ 44 ∷ 49 ∷ 44 ∷ 48 ∷ 44 ∷ 53 ∷ 48 ∷ 48 ∷ 48 ∷ 44 ∷ 49 ∷ 48 ∷ 44 ∷ 48 ∷ 44 ∷ 48 ∷ 44 ∷ 48 ∷ 44 ∷ 48 ∷ 44 ∷ 48 ∷ 44 ∷ 48 ∷ 44 ∷ 48 ∷ 44 ∷ 48 ∷ 13 ∷ 10 ∷ []
unfolding text_of decimal example
worked = refl
