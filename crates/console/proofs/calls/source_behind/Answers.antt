-- `console::calls::source_behind` is the record of the numbers behind the first. Assumes nothing.
use Rattle.std.specs.Prelude.{refl}
use Rattle.console.specs.laws.EffectsLaw.{record_behind_law}
use Rattle.console.proofs.calls.source_behind.Goals as goal

pub returns : goal.returns
returns c = record_behind_law _ _ refl
