-- The invariant of a network: each of its records is accepted where it stands. Networks with one record more keep it; those whose sources
-- are changed otherwise are in SourcesChanged, and that every network that calls make has it is in Rebuilt.
use Rattle.std.specs.Prelude.{◌≡◌, refl, Bool, true, cond, List, [], ◌∷◌, ◌++◌, ℕ, zero, suc, ◌≤◌, ◌<◌, ltb, length}
use Rattle.std.proofs.Common.{◌∙◌, arith, ltb-true, ltb-false, lt-ltb, ne_eqb, length-append}
use Rattle.std.proofs.Math.ListN.{get_or-append}
use Rattle.network.specs.declared.study.Bus.{Bus}
use Rattle.network.specs.declared.study.Source.{Source}
use Rattle.network.specs.Records.{tolerance_ok}
use Rattle.network.specs.Network.{Network, with_bus, with_sources, with_source, closed_as, blank, blank_source, source_at}
use Rattle.tree.specs.Limits.{max_buses, max_sources}
use Rattle.network.specs.Grounds.{empty_of, start_network, bus_record_number, source_grounds, source_record_number}
use Rattle.network.specs.laws.Tests.{by_test, never}
use Rattle.network.specs.laws.Each.{Each, each_at, each_so, each_both}
use Rattle.network.specs.laws.Acceptance.{ground, bus_record_same}

-- the record of a source is accepted at place j over these buses
abbrev pub AcceptedAt : List Bus → ℕ → Source → Type 0
AcceptedAt l j p = source_record_number l j p ≡ 0

-- "14 first source not a feeder, feeder elsewhere than bus 0, or a second one.": the first source is accepted at place 0, each other one at
-- place 1, which stands for every place but 0 (`source_record_past`). Said so, and not place by place, it still holds if
-- sources behind the first are left out, rewritten or added.
abbrev pub SourcesAccepted : List Bus → List Source → Type 0
SourcesAccepted l [] = Unit
SourcesAccepted l (p ∷ ps) = AcceptedAt l 0 p × Each (AcceptedAt l 1) ps

pub record Rebuilt (n : Network) : Type 0 where
  -- 6 or 10
  pub tolerance : tolerance_ok n.tolerance ≡ true
  pub bus_room : length n.buses ≤ max_buses
  -- the record of each bus among the buses, those after it being of no account (`bus_record_same`)
  pub bus_records : (i : ℕ) → i < length n.buses → bus_record_number n.buses i ≡ 0
  pub source_room : length n.sources ≤ max_sources
  -- the record of each source, over all the buses
  pub source_records : SourcesAccepted n.buses n.sources
  -- closed with a source
  pub fed : n.closed ≡ true → 0 < length n.sources

-- ---- sources by their places
-- ground 14 asks of a place only whether it is 0
pub source_record_past : (l : List Bus) (j k : ℕ) (p : Source) → 0 < j → 0 < k → source_record_number l j p ≡ source_record_number l k p
unfolding source_record_number
source_record_past l j k p a b = rw (ne_eqb j 0 (omega arith), lt-ltb 0 j a, ne_eqb k 0 (omega arith), lt-ltb 0 k b)

accepted_at : (l : List Bus) (ps : List Source) → SourcesAccepted l ps → (j : ℕ) → j < length ps → AcceptedAt l j (source_at ps j)
accepted_at l [] s j h = absurd (omega arith)
accepted_at l (p ∷ ps) s zero h = s.0
accepted_at l (p ∷ ps) s (suc j) h =
    source_record_past l (suc j) 1 (source_at ps j) (omega arith) (omega arith) ∙ each_at (AcceptedAt l 1) blank_source ps s.1 j (omega arith)

-- the record of each source at its place
pub source_record : {n : Network} → Rebuilt n → (j : ℕ) → j < length n.sources → source_record_number n.buses j (source_at n.sources j) ≡ 0
source_record {n} r j h = accepted_at n.buses n.sources r.source_records j h

-- ---- starting
pub rebuilt_empty : (t : ℕ) → tolerance_ok t ≡ true → Rebuilt (empty_of t)
rebuilt_empty t e = record {
  tolerance = e;
  bus_room = omega arith;
  bus_records = λ i h. absurd (omega arith);
  source_room = omega arith;
  source_records = tt;
  fed = λ c. never c;
}

pub rebuilt_start : (t : ℕ) → Rebuilt (start_network t)
rebuilt_start t =
    rebuilt_empty (cond (tolerance_ok t) t 6)
    (by_test (tolerance_ok t) (λ e. rw e e) (λ e. rw e))

-- ---- one record more
-- an accepted bus leaves the earlier ones accepted
bus_records_more : (l : List Bus) (b : Bus) → ((i : ℕ) → i < length l → bus_record_number l i ≡ 0) → bus_record_number (l ++ (b ∷ [])) (length l) ≡ 0 → (i : ℕ) → i < length (l ++ (b ∷ [])) → bus_record_number (l ++ (b ∷ [])) i ≡ 0
bus_records_more l b all one i h =
    by_test (ltb i (length l))
    (λ t.
    let u = ltb-true i (length l) t in
    bus_record_same (l ++ (b ∷ [])) l i (λ k p. get_or-append l (b ∷ []) blank k (omega arith)) ∙ all i u)
    (λ t.
    let u = ltb-false i (length l) t in
    let v : i ≡ length l = omega (arith, length-append l (b ∷ [])) in
    rw v one)

-- and the sources: the grounds of each ask for its own bus alone
source_record_more : (l : List Bus) (b : Bus) (j : ℕ) (p : Source) → source_record_number l j p ≡ 0 → source_record_number (l ++ (b ∷ [])) j p ≡ 0
unfolding source_record_number
source_record_more l b j p e =
    let at = ltb-true p.bus (length l) (ground (source_grounds l j p) 11 refl e) in
    let more : p.bus < length (l ++ (b ∷ [])) = omega (arith, length-append l (b ∷ [])) in
    rw (lt-ltb p.bus (length (l ++ (b ∷ []))) more, get_or-append l (b ∷ []) blank p.bus at) (rw (lt-ltb p.bus (length l) at) at e)

sources_more_buses : (l : List Bus) (b : Bus) (ps : List Source) → SourcesAccepted l ps → SourcesAccepted (l ++ (b ∷ [])) ps
sources_more_buses l b [] s = tt
sources_more_buses l b (p ∷ ps) s = (source_record_more l b 0 p s.0, each_so (AcceptedAt l 1) (AcceptedAt (l ++ (b ∷ [])) 1) ps (source_record_more l b 1) s.1)

-- a source that is accepted at the next place leaves all of them accepted
sources_more : (l : List Bus) (ps : List Source) (p : Source) → SourcesAccepted l ps → AcceptedAt l (length ps) p → SourcesAccepted l (ps ++ (p ∷ []))
sources_more l [] p s e = (e, tt)
sources_more l (q ∷ ps) p s e =
    (s.0, each_both (AcceptedAt l 1) ps (p ∷ []) s.1 (source_record_past l 1 (length (q ∷ ps)) p (omega arith) (omega arith) ∙ e, tt))

-- ---- a network with other sources that are accepted over its buses: few enough, and at least one if it is closed
pub rebuilt_sources : {n : Network} → Rebuilt n → (ps : List Source) → SourcesAccepted n.buses ps → length ps ≤ max_sources → (n.closed ≡ true → 0 < length ps) → Rebuilt (with_sources n ps)
rebuilt_sources r ps s few some = record {
  tolerance = r.tolerance;
  bus_room = r.bus_room;
  bus_records = r.bus_records;
  source_room = few;
  source_records = s;
  fed = some;
}

-- with one source more
pub rebuilt_appended : {n : Network} → Rebuilt n → (p : Source) → length n.sources < max_sources → AcceptedAt n.buses (length n.sources) p → Rebuilt (with_source n p)
rebuilt_appended {n} r p room e =
    let more = length-append n.sources (p ∷ []) in
    rebuilt_sources r (n.sources ++ (p ∷ [])) (sources_more n.buses n.sources p r.source_records e) (omega arith) (λ _. omega arith)

-- ---- a network with a bus more that is accepted there
pub rebuilt_bus_more : {n : Network} → Rebuilt n → (b : Bus) → length n.buses < max_buses → bus_record_number (n.buses ++ (b ∷ [])) (length n.buses) ≡ 0 → Rebuilt (with_bus n b)
rebuilt_bus_more {n} r b room e = record {
  tolerance = r.tolerance;
  bus_room = omega (arith, length-append n.buses (b ∷ []));
  bus_records = bus_records_more n.buses b r.bus_records e;
  source_room = r.source_room;
  source_records = sources_more_buses n.buses b n.sources r.source_records;
  fed = r.fed;
}

-- ---- closed or open; a closed one has a source
pub rebuilt_closed_as : {n : Network} → Rebuilt n → (c : Bool) → (c ≡ true → 0 < length n.sources) → Rebuilt (closed_as c n)
rebuilt_closed_as r c some = record {
  tolerance = r.tolerance;
  bus_room = r.bus_room;
  bus_records = r.bus_records;
  source_room = r.source_room;
  source_records = r.source_records;
  fed = some;
}
