-- Networks alike in all but their converters get, at every bus, the same bounds and the same peak for the machines' part.
-- Assumes nothing.
use Rattle.std.specs.Prelude.{ℕ, ◌≡◌, List, eqb, Float}
use Rattle.std.proofs.Common.{◌∙◌, ap, ap₂}
use Rattle.enclosure.specs.Exact.{of_nat}
use Rattle.enclosure.specs.Doubles.{none, added, lower_of, upper_of}
use Rattle.elements.specs.Factors.{factor_c}
use Rattle.elements.specs.Doubles.{current_by, machine_peak_by}
use Rattle.enclosure.specs.declared.Complex.{Complex}
use Rattle.tree.specs.laws.Sums.{sum_alike}
use Rattle.sweep.specs.declared.columns.Points.{Points}
use Rattle.sweep.specs.Points.{number_at}
use Rattle.sweep.specs.Sweep.{seen_of}
use Rattle.sweep.specs.laws.Columns.{points_same}
use Rattle.network.specs.declared.study.Bus.{Bus}
use Rattle.network.specs.Network.{Network, bus_at}
use Rattle.network.specs.laws.Tests.{both_true}
use Rattle.network.specs.SourceKinds.{is_machine}
use Rattle.network.specs.RoundedSourceKinds.{admittance_by}
use Rattle.network.specs.Grid.{machine_at}
use Rattle.network.specs.Doubles.{tree_of, standing_of, rises_by, falls_by, board_of, seen_at, amperes_at}
use Rattle.network.specs.Promise.{Alike, machines_of}

-- what stands at the buses as machines, by the columns of either network
own_alike : (n m : Network) → Alike n m → (standing_of n.tolerance (tree_of n.buses).volts n.sources).own ≡ (standing_of n.tolerance (tree_of n.buses).volts m.sources).own
unfolding standing_of
own_alike n m a =
    points_same _ _
    (λ b. sum_alike added (machine_at b) is_machine (λ p e. (both_true (is_machine p) (eqb p.bus b) e).0) (λ p. admittance_by n.tolerance (number_at (tree_of n.buses).volts p.bus) p) none n.sources m.sources a.others)

-- what both sweeps see, of what stands at the buses as machines
abbrev seen_from : ℕ → List Bus → Points → ℕ → Complex
seen_from t l own b = seen_of (rises_by t l own).up (falls_by t l (rises_by t l own)).fall b

seen_alike : (n m : Network) → Alike n m → (b : ℕ) → seen_at n b ≡ seen_at m b
unfolding seen_at board_of
seen_alike n m a b =
    ap (λ (own : Points). seen_from n.tolerance n.buses own b) (own_alike n m a)
    ∙ ap₂ (λ (t : ℕ) (l : List Bus). seen_from t l (standing_of t (tree_of l).volts m.sources).own b) a.tolerance a.buses

-- SAMENESS, for any two networks
pub machines_alike : (n m : Network) → Alike n m → (b : ℕ) → machines_of (amperes_at n b) ≡ machines_of (amperes_at m b)
machines_alike n m a b = figures (seen_alike n m a b) (ap₂ (λ (t : ℕ) (x : List Bus). factor_c t (bus_at x b).volts) a.tolerance a.buses) (ap (λ (x : List Bus). (bus_at x b).volts) a.buses)
  where
    figures : {y y' : Complex} {c c' u u' : ℕ} → y ≡ y' → c ≡ c' → u ≡ u'
        → ◌≡◌ {A = Float × Float × Float} (of_nat (lower_of 1 3 (current_by c u y)), of_nat (upper_of 1 3 (current_by c u y)), of_nat (machine_peak_by c u y))
        (of_nat (lower_of 1 3 (current_by c' u' y')), of_nat (upper_of 1 3 (current_by c' u' y')), of_nat (machine_peak_by c' u' y'))
    figures p q e = rw (p, q, e)
