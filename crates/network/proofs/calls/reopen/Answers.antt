-- `reopen` meets its contract: by whether the study is closed.
use Rattle.std.specs.Prelude.{refl}
use Rattle.std.proofs.lemmas.Bool.{not-true, not-false}
use Rattle.network.specs.Grounds.{reopen_number, after_reopen}
use Rattle.network.proofs.calls.reopen.Goals as goal

pub returns-then-not-s : goal.returns-then-not-s
unfolding reopen_number after_reopen
returns-then-not-s c = let o = not-true c.args.s.closed c.if-not-s.true in record { number = rw o; kept = λ _. refl; network = rw o }

pub returns : goal.returns
unfolding reopen_number after_reopen
returns c = let o = not-false c.args.s.closed c.if-not-s.false in record { number = rw o; kept = λ z. absurd (z refl); network = rw o }
