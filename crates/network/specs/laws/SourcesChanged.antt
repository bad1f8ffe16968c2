-- Networks made from one with the invariant by changing its sources behind the first: one left out, one rewritten, only those that pass a
-- test; one more is `rebuilt_appended` in Invariant. Each has the invariant, closed or open as the network was, so that demand 3 (`kept` in
-- Promise) speaks of every network made from an accepted one by withdrawing, re-rating or adding a source, or by counting those of a
-- season. The first source, the feeder, stays.
use Rattle.std.specs.Prelude.{◌≡◌, refl, Bool, true, List, [], ◌∷◌, ℕ, zero, suc, ◌≤◌, ◌<◌, length, set}
use Rattle.std.proofs.Common.{arith, length-set}
use Rattle.tree.specs.Grid.{filtered}
use Rattle.network.specs.declared.study.Source.{Source}
use Rattle.network.specs.Network.{Network, with_sources, removed, without_source, with_source_at, source_at}
use Rattle.tree.specs.Limits.{max_sources}
use Rattle.network.specs.laws.Each.{Each, each_removed, each_set, each_filtered, length_removed, length_filtered}
use Rattle.network.specs.laws.Invariant.{Rebuilt, AcceptedAt, SourcesAccepted, source_record_past, rebuilt_sources}

-- the first element as it is, those behind it changed by g
abbrev pub behind : {X : Type 0} → (List X → List X) → List X → List X
behind g [] = []
behind g (x ∷ l) = x ∷ g l

module _ {n : Network} (r : Rebuilt n) where
  -- any change behind the first that leaves them accepted and adds none
  pub rebuilt_behind : (g : List Source → List Source) → ((ps : List Source) → Each (AcceptedAt n.buses 1) ps → Each (AcceptedAt n.buses 1) (g ps)) → ((ps : List Source) → length (g ps) ≤ length ps) → Rebuilt (with_sources n (behind g n.sources))
  rebuilt_behind g accepted shorter = rebuilt_sources r (behind g n.sources) (all n.sources r.source_records) (few n.sources r.source_room) (λ c. some n.sources (r.fed c))
    where
      all : (ps : List Source) → SourcesAccepted n.buses ps → SourcesAccepted n.buses (behind g ps)
      all [] s = tt
      all (p ∷ ps) s = (s.0, accepted ps s.1)

      few : (ps : List Source) → length ps ≤ max_sources → length (behind g ps) ≤ max_sources
      few [] h = h
      few (p ∷ ps) h = omega (arith, shorter ps)

      some : (ps : List Source) → 0 < length ps → 0 < length (behind g ps)
      some [] h = h
      some (p ∷ ps) h = omega arith

  -- without the source at a place behind the first
  pub rebuilt_removed : (j : ℕ) → 0 < j → Rebuilt (without_source n j)
  rebuilt_removed zero z = absurd (omega arith)
  rebuilt_removed (suc j) z = rw (as_behind n.sources) (rebuilt_behind (removed j) (each_removed (AcceptedAt n.buses 1) j) (length_removed j))
    where
      as_behind : (ps : List Source) → removed (suc j) ps ≡ behind (removed j) ps
      as_behind [] = refl
      as_behind (p ∷ ps) = refl

  -- with a record there that is accepted at that place
  pub rebuilt_rewritten : (j : ℕ) → 0 < j → (p : Source) → AcceptedAt n.buses j p → Rebuilt (with_source_at n j p)
  rebuilt_rewritten zero z p e = absurd (omega arith)
  rebuilt_rewritten (suc j) z p e =
      let at_one : AcceptedAt n.buses 1 p = rw (source_record_past n.buses 1 (suc j) p (omega arith) (omega arith)) e in
      rw (as_behind n.sources) (rebuilt_behind (λ ps. set ps j p) (each_set (AcceptedAt n.buses 1) j p at_one) (λ ps. omega (arith, length-set ps j p)))
    where
      as_behind : (ps : List Source) → set ps (suc j) p ≡ behind (λ qs. set qs j p) ps
      as_behind [] = refl
      as_behind (q ∷ ps) = refl

  -- with those behind the first that pass a test
  pub rebuilt_filtered : (f : Source → Bool) → Rebuilt (with_sources n (behind (filtered f) n.sources))
  rebuilt_filtered f = rebuilt_behind (filtered f) (each_filtered (AcceptedAt n.buses 1) f) (length_filtered f)

  -- and with all that pass it, where the first does
  pub rebuilt_passing : (f : Source → Bool) → (0 < length n.sources → f (source_at n.sources 0) ≡ true) → Rebuilt (with_sources n (filtered f n.sources))
  rebuilt_passing f h = rw (as_behind n.sources h) (rebuilt_filtered f)
    where
      as_behind : (ps : List Source) → (0 < length ps → f (source_at ps 0) ≡ true) → filtered f ps ≡ behind (filtered f) ps
      as_behind [] h = refl
      as_behind (p ∷ ps) h = rw (h (omega arith))
