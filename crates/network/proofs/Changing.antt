-- The study whose sources are moved up or written over, as a network.
use Rattle.std.specs.Prelude.{◌≡◌, true, List, ℕ, suc, ◌+◌, ◌≤◌, ◌<◌, min, length, set, take}
use Rattle.std.proofs.Common.{sym, ◌∙◌, ap, arith, length-take}
use Rattle.tree.specs.Limits.{max_sources}
use Rattle.network.specs.declared.study.Source.{Source}
use Rattle.network.specs.declared.study.Study.{Study}
use Rattle.network.specs.Network.{network, removed, with_sources}
use Rattle.network.specs.Grounds.{place_ok, after_withdraw, replace_number, after_replace}
use Rattle.network.specs.laws.Acceptance.{granted, ok_place, withdraw_there}
use Rattle.network.proofs.Lists.{counted_again, take_stored, removed_last}

-- a study with other contents of its array of sources, and with another count of them
abbrev pub with_array : Study → List Source → Study
with_array s v = record {
  tolerance = s.tolerance;
  closed = s.closed;
  bus_count = s.bus_count;
  buses = s.buses;
  source_count = s.source_count;
  sources = v;
}

abbrev pub counting : ℕ → Study → Study
counting k s = record {
  tolerance = s.tolerance;
  closed = s.closed;
  bus_count = s.bus_count;
  buses = s.buses;
  source_count = k;
  sources = s.sources;
}

-- n is how many sources the study counts
module _ (s : Study) (n : ℕ) (whole : length s.sources ≡ max_sources) (e : n ≡ min s.source_count max_sources) where
  pub total : length (network s).sources ≡ n
  total = omega (arith, length-take s.source_count s.sources)

  -- of a place that holds a source and is not the first
  module _ (j : ℕ) (ok : place_ok (network s) j ≡ true) where
    pub held : (0 < j) × (j < n) × (n ≤ max_sources)
    held = let h = ok_place (network s) j ok in (h.0, omega (arith, total, h.1), omega arith)

    -- those behind the place moved up, and one fewer counted
    pub withdrawn : (v : List Source) (last : ℕ) → last + 1 ≡ n → length v ≡ max_sources → removed last (take n v) ≡ removed j (take n s.sources)
        → with_sources (network s) (take last v) ≡ after_withdraw (network s) j
    unfolding after_withdraw
    withdrawn v last m l h =
        let z : n ≡ suc last = omega arith in
        let counted : take n s.sources ≡ (network s).sources = rw (← total) (counted_again s.source_count s.sources) in
        let end : removed last (take n v) ≡ take last v = rw z (removed_last v last (omega (arith, held.2))) in
        let moved : take last v ≡ removed j (network s).sources = sym end ∙ h ∙ ap (removed j) counted in
        rw moved (sym (granted _ _ _ (sym (withdraw_there (network s) j ok))))

-- the record at a place written over
pub replaced : (s : Study) (j : ℕ) (p : Source) → replace_number (network s) j p ≡ 0 → network (with_array s (set s.sources j p)) ≡ after_replace (network s) j p
unfolding after_replace
replaced s j p z = rw (take_stored s.source_count s.sources j p) (sym (granted _ _ _ z))
