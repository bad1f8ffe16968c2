-- BESIDE DEMAND 3: peaks nearer to the exact ones than document 01 asks. A reader of demand 3 needs nothing of this file. That Z and C
-- are fractions, without which the comparisons would say nothing, is part of Demand, which the same query and the same report keep.
use Rattle.std.specs.Prelude.{ℕ, ◌*◌, ◌<◌, ◌≡◌, true, List, Float, length}
use Rattle.enclosure.specs.Exact.{norm, Point}
use Rattle.elements.specs.Peak.{peak_over, peak_under, NearMachinePeak, NearConverterPeak}
use Rattle.network.specs.declared.query.Amperes.{Amperes}
use Rattle.network.specs.Network.{Network}
use Rattle.network.specs.Grid.{impedance_at, converters_at}
use Rattle.network.specs.Demand.{Figures, WholeAmperes, driving}
use Rattle.network.specs.declared.query.Found.{Found}
use Rattle.network.specs.Grounds.{Call, run}
use Rattle.network.specs.Report.{report_number, row_in}

-- no lower than the exact peak at the impedance Z, and at most 0.15 % plus 1 A above it; v is c·Un in hundredths
abbrev pub MachinePeak : ℕ → Point → ℕ → Type 0
MachinePeak v Z peak = NearMachinePeak peak (peak_over (v * v * (Z.den * Z.den)) Z.re Z.im) (peak_under (30000 * norm Z.re Z.im) Z.re Z.im)

-- no lower than √2 times the converters' exact sum C, and at most a hundred-millionth plus 1 A above it
abbrev pub ConverterPeak : Point → ℕ → Type 0
ConverterPeak C peak = NearConverterPeak peak (2 * (C.re * C.re)) (C.den * C.den)

pub record NearPeaks (n : Network) (b : ℕ) (a : Amperes) : Type 0 where
  pub figures : Figures
  pub whole : WholeAmperes a figures
  pub machines : MachinePeak (driving n b) (impedance_at n b) figures.peak
  pub converters : ConverterPeak (converters_at n b) figures.converters_peak

abbrev pub NearPromise : Network → ℕ → Found → Type 0
NearPromise n b f = (cs : List Call) → n ≡ run cs → n.closed ≡ true → b < length n.buses → NearPeaks n b f.amperes

-- the same for each row of a report
abbrev pub NearReport : Network → List Float → List Float → Type 0
NearReport n lent table = (cs : List Call) → n ≡ run cs → report_number n (length lent) ≡ 0 → (b : ℕ) → b < length n.buses → NearPeaks n b (row_in table b)
