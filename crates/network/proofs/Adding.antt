-- A record stored behind those that are counted is an addition; and additions one after the other: the next one, and what all of them
-- come to as it stands before and after it.
use Rattle.std.specs.Prelude.{◌≡◌, Bool, true, ◌&&◌, List, ◌∷◌, ℕ, ◌+◌, ◌≤◌, ◌<◌, ltb, length, set, take, drop, get_or}
use Rattle.std.proofs.Common.{sym, arith, add-one, ne_eqb, ltb-true, length-take, drop_of_length-le, drop-cons, get_or-take}
use Rattle.tree.specs.Limits.{max_buses, max_sources}
use Rattle.network.specs.declared.study.Bus.{Bus}
use Rattle.network.specs.declared.study.Source.{Source}
use Rattle.network.specs.declared.study.Study.{Study}
use Rattle.network.specs.declared.additions.Addition.{Addition}
use Rattle.network.specs.declared.additions.Entry.{Entry}
use Rattle.network.specs.Network.{Network, network, blank, bus_at}
use Rattle.network.specs.Grounds.{bus_number, after_bus_in, after_bus, source_number, after_source_in, after_source}
use Rattle.network.specs.Additions.{addition_number, after_addition, added_from}
use Rattle.network.specs.laws.Acceptance.{bus_room, source_room, granted}
use Rattle.network.specs.laws.Tests.{both_true}
use Rattle.network.proofs.Lists.{below_count, appended, counted_test}

-- an accepted bus found room, so that the store stays in the array and the list has the record at its end
module _ (s : Study) (b : Bus) (whole : length s.buses ≡ max_buses) (z : bus_number (network s) b ≡ 0) where
  pub bus_fits : s.bus_count < max_buses
  bus_fits = below_count max_buses s.bus_count s.buses whole (bus_room (network s) b z)

  pub bus_stored : network (record {
    tolerance = s.tolerance;
    closed = s.closed;
    bus_count = s.bus_count + 1;
    buses = set s.buses s.bus_count b;
    source_count = s.source_count;
    sources = s.sources;
  }) ≡ after_bus (network s) b
  unfolding after_bus_in
  bus_stored = rw (appended max_buses s.bus_count s.buses whole b bus_fits) (sym (granted _ _ _ z))

-- the bus of a source, as it is looked for: whether it is there, and its record in the array
module _ (s : Study) (p : Source) (place : ℕ) (whole : length s.buses ≡ max_buses) (placed : (place < max_buses) × (p.bus < max_buses → place ≡ p.bus)) where
  abbrev There : Bool
  There = ltb p.bus s.bus_count && ltb p.bus max_buses

  pub bus_there : ltb p.bus (length (network s).buses) ≡ There
  bus_there = counted_test max_buses s.bus_count s.buses whole p.bus

  pub bus_found : There ≡ true → bus_at (network s).buses p.bus ≡ bus_at s.buses place
  bus_found t =
      let h = both_true (ltb p.bus s.bus_count) (ltb p.bus max_buses) t in
      rw (placed.1 (ltb-true p.bus max_buses h.1)) (get_or-take s.bus_count s.buses p.bus blank (ltb-true p.bus s.bus_count h.0))

-- an accepted source found room, too
module _ (s : Study) (p : Source) (whole : length s.sources ≡ max_sources) (z : source_number (network s) p ≡ 0) where
  pub source_fits : s.source_count < max_sources
  source_fits = below_count max_sources s.source_count s.sources whole (source_room (network s) p z)

  pub source_stored : network (record {
    tolerance = s.tolerance;
    closed = s.closed;
    bus_count = s.bus_count;
    buses = s.buses;
    source_count = s.source_count + 1;
    sources = set s.sources s.source_count p;
  }) ≡ after_source (network s) p
  unfolding after_source_in
  source_stored = rw (appended max_sources s.source_count s.sources whole p source_fits) (sym (granted _ _ _ z))

-- the addition at place i of those that are counted
module _ (count : ℕ) (entries : List Entry) (i : ℕ) (n : Network) (d : Entry) (a : Addition) (h : i < length (take count entries)) (e : (get_or entries i d).addition ≡ a) where
  next : drop i (take count entries) ≡ get_or entries i d ∷ drop (i + 1) (take count entries)
  next =
      let same = get_or-take count entries i d (omega (arith, length-take count entries)) in
      rw (add-one, ← same) (drop-cons (take count entries) i d h)

  pub addition_accepted : addition_number n a ≡ 0 → added_from i n (drop i (take count entries)) ≡ added_from (i + 1) (after_addition n a) (drop (i + 1) (take count entries))
  unfolding added_from
  addition_accepted z = rw (next, e, z)

  pub addition_refused : (k : ℕ) → k ≡ addition_number n a → (k ≡ 0 → ⊥) → added_from i n (drop i (take count entries)) ≡ record { number = k; accepted = i; network = n }
  unfolding added_from
  addition_refused k z r = rw (next, e, ← z, ne_eqb k 0 r)

pub additions_end : (l : List Entry) (i : ℕ) (n : Network) → length l ≤ i → added_from i n (drop i l) ≡ record { number = 0; accepted = i; network = n }
unfolding added_from
additions_end l i n h = rw (drop_of_length-le l h)
