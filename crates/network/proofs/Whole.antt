-- An ampere is its number, where that is at most 2 ^ 53.
use Rattle.std.specs.Prelude.{◌≡◌, ℕ, ◌^◌, ◌≤◌, Float}
use Rattle.std.proofs.Common.{ap, ◌∙◌}
use Rattle.enclosure.specs.declared.amperes.Rms.{Rms}
use Rattle.enclosure.specs.declared.amperes.Peak.{Peak}
use Rattle.enclosure.specs.Exact.{of_nat}
use Rattle.enclosure.specs.Doubles.{of_whole}
use Rattle.enclosure.specs.laws.WholeF64.{whole_few}

pub rms_whole : {r : Rms} {n m : ℕ} → r.0 ≡ of_whole n → n ≡ m → m ≤ 2 ^ 53 → r ≡ record { 0 = of_nat m }
rms_whole {r} {n} {m} e f h = ap (λ (x : Float). record { 0 = x }) (e ∙ ap of_whole f ∙ whole_few m h)

pub peak_whole : {r : Peak} {n m : ℕ} → r.0 ≡ of_whole n → n ≡ m → m ≤ 2 ^ 53 → r ≡ record { 0 = of_nat m }
peak_whole {r} {n} {m} e f h = ap (λ (x : Float). record { 0 = x }) (e ∙ ap of_whole f ∙ whole_few m h)
