-- THE PROMISE of `breaking`, whole (document 02, order 3): for whatever calls made the study, the figure and each generator's two numbers
-- hold against the network read off those calls. That every call keeps it is proved in laws/Promise.
use Rattle.std.specs.Prelude.{ℕ, ◌+◌, ◌*◌, ◌-◌, ◌^◌, ◌<◌, ◌≡◌, true, false, List, Float, length, get_or, drop}
use Rattle.std.specs.Float.{nan}
use Rattle.enclosure.specs.Exact.{of_nat}
use Rattle.enclosure.specs.Fraction.{Fraction, Most, whole, SumAtMost, SumAtLeast}
use Rattle.network.specs.SourceKinds.{is_machine, has_generator}
use Rattle.network.specs.Network.{Network, source_at}
use Rattle.network.specs.Grounds.{Call, run}
use Rattle.network.specs.Demand.{Narrow}
use Rattle.breaking.specs.Breaking.{breaking_number, share_square_at, q_square_at, weight_at, converters_part}

-- "whole bounds on its share", by squares, "at most 2 A plus a thousandth of the upper apart"
pub record ShareHolds (s : Fraction) (lower upper : ℕ) : Type 0 where
  pub below : Most (whole (lower * lower)) s
  pub above : Most s (whole (upper * upper))
  pub narrow : Narrow lower upper

-- of a network, a bus of it and a delay: the table as it was lent and as it is given back, and the figure
pub record BreakingHolds (n : Network) (b delay : ℕ) (lent table : List Float) (figure : Float) : Type 0 where
  pub lower : ℕ → ℕ
  pub upper : ℕ → ℕ
  pub amperes : ℕ
  -- "two numbers a source in source order", each whole and below 2⁵³
  pub numbers : (j : ℕ) → j < length n.sources → (get_or table (2 * j) nan ≡ of_nat (lower j)) × (get_or table (2 * j + 1) nan ≡ of_nat (upper j)) × (lower j < 2 ^ 53) × (upper j < 2 ^ 53)
  pub figure_whole : (figure ≡ of_nat amperes) × (amperes < 2 ^ 53)
  -- "For each generator give whole bounds on its share .., and 0, 0 for other kinds"
  pub shares : (j : ℕ) → j < length n.sources → has_generator (source_at n.sources j) ≡ true → ShareHolds (share_square_at n b j) (lower j) (upper j)
  pub others : (j : ℕ) → j < length n.sources → has_generator (source_at n.sources j) ≡ false → (lower j ≡ 0) × (upper j ≡ 0)
  -- "numbers beyond the last source's are kept"
  pub beyond : (length table ≡ length lent) × (drop (2 * length n.sources) table ≡ drop (2 * length n.sources) lent)
  -- shares, q and the converters' part are fractions, and every machine has a share: no comparison holds because there is nothing to compare
  pub proper : (j : ℕ) → j < length n.sources → 0 < (share_square_at n b j).under
  pub some : (j : ℕ) → j < length n.sources → is_machine (source_at n.sources j) ≡ true → 0 < (share_square_at n b j).top
  pub proper_q : (j : ℕ) → j < length n.sources → has_generator (source_at n.sources j) ≡ true → 0 < (q_square_at n b j).under
  pub proper_converters : 0 < (converters_part n b).under
  -- "The breaking figure is never below that sum with exact shares and the stated table, nor above it by more than 3 % plus 4 A": it is at
  -- most 1.03 times the sum and 4 where the sum is at least (figure − 4)/1.03
  pub enough : SumAtMost (length n.sources) (weight_at n b delay) (share_square_at n b) (converters_part n b) (whole amperes)
  pub near : SumAtLeast (length n.sources) (weight_at n b delay) (share_square_at n b) (converters_part n b) (record { top = 100 * (amperes - 4); under = 103 })

-- whatever calls made the network, where the call is not refused
abbrev pub BreakingPromise : Network → ℕ → ℕ → List Float → List Float → Float → Type 0
BreakingPromise n b delay lent table figure = (cs : List Call) → n ≡ run cs → breaking_number n b delay (length lent) ≡ 0 → BreakingHolds n b delay lent table figure
