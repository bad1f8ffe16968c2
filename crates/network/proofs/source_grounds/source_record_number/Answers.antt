-- `source_record_number` meets its contract: what the tests and the chain of `unless` ensure, put together. The bus's record is asked for
-- only where the bus is there.
use Rattle.std.specs.Prelude.{◌≡◌, refl, Bool, true, false, cond, ℕ}
use Rattle.std.proofs.Common.{sym, ◌∙◌, ap}
use Rattle.network.specs.declared.study.Bus.{Bus}
use Rattle.network.specs.SourceKinds.{source_kind_ok, fields_ok}
use Rattle.network.specs.Grounds.{machine_volts_ok, unit_volts_ok, feeder_place_ok, source_record_number}
use Rattle.network.proofs.source_grounds.source_record_number.Goals as goal

-- a chain with another answer behind the test of the bus
chain : (kind there fields v w : Bool) (rest : ℕ) → (there ≡ true → v ≡ w)
    → ◌≡◌ {A = ℕ} (cond kind (cond there (cond fields (cond v rest 13) 12) 11) 10) (cond kind (cond there (cond fields (cond w rest 13) 12) 11) 10)
chain kind true fields v w rest h = rw (h refl)
chain kind false fields v w rest h = refl

pub returns : goal.returns
unfolding source_record_number
returns c = λ l e h.
    let a = c.args in
    let rest : ℕ = cond (unit_volts_ok a.p) (cond (feeder_place_ok a.j a.p) 0 14) 32 in
    let chained : c.unless-5.result ≡ cond (source_kind_ok a.p) (cond a.there (cond (fields_ok a.p) (cond (machine_volts_ok a.b a.p) (cond (unit_volts_ok a.p) (cond (feeder_place_ok a.j a.p) 0 14) 32) 13) 12) 11) 10 = cc in
    rw e (chained ∙ chain (source_kind_ok a.p) a.there (fields_ok a.p) (machine_volts_ok a.b a.p) _ rest (λ u. ap (λ (b : Bus). machine_volts_ok b a.p) (sym (h u))))
