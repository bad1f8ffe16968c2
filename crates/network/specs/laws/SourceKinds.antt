-- The machines by name: of the kinds that ground 10 lets pass, all but the converters are feeders, generators, motors and units. Assumes
-- nothing.
use Rattle.std.specs.Prelude.{◌≡◌, true, ◌||◌, ◌⊎◌}
use Rattle.std.proofs.Common.{inl, inr, ⊎_elim, arith, eqb-true}
use Rattle.std.proofs.lemmas.Bool.{eqb-false, not-true}
use Rattle.network.specs.declared.study.Source.{Source}
use Rattle.network.specs.laws.Tests.{by_test, in_range_law}
use Rattle.network.specs.SourceKinds.{is_feeder, is_generator, is_motor, is_converter, is_unit, is_machine, has_generator, source_kind_ok}

-- which of the kinds a machine has
pub machine_cases : (p : Source) → source_kind_ok p ≡ true → is_machine p ≡ true → (p.kind ≡ 1) ⊎ ((p.kind ≡ 2) ⊎ ((p.kind ≡ 3) ⊎ (p.kind ≡ 5)))
machine_cases p k m =
    let w = in_range_law p.kind 1 5 k in
    let c = eqb-false p.kind 4 (not-true (is_converter p) m) in
    by_test (is_feeder p) (λ e. inl (eqb-true p.kind 1 e))
    (λ e. by_test (is_generator p) (λ d. inr (inl (eqb-true p.kind 2 d)))
    (λ d. by_test (is_motor p) (λ f. inr (inr (inl (eqb-true p.kind 3 f))))
    (λ f. inr (inr (inr (omega (arith, c, eqb-false p.kind 1 e, eqb-false p.kind 2 d, eqb-false p.kind 3 f)))))))

-- "each feeder, generator and motor", and each unit
pub machine_named : (p : Source) → source_kind_ok p ≡ true → is_machine p ≡ (is_feeder p || (is_generator p || (is_motor p || is_unit p)))
machine_named p k =
    by_test (is_converter p)
    (λ c. rw (eqb-true p.kind 4 c))
    (λ c. ⊎_elim (λ e. rw e) (⊎_elim (λ e. rw e) (⊎_elim (λ e. rw e) (λ e. rw e))) (machine_cases p k (rw c)))

-- which of two kinds a source with a generator has
pub generator_cases : (p : Source) → has_generator p ≡ true → (p.kind ≡ 2) ⊎ (p.kind ≡ 5)
generator_cases p g = by_test (is_generator p) (λ e. inl (eqb-true p.kind 2 e)) (λ e. inr (eqb-true p.kind 5 (rw e at g)))
