-- `start` meets its contract: the test of the tolerance decides the number and the study.
use Rattle.network.proofs.calls.start.Goals as goal

pub returns-then-tolerance : goal.returns-then-tolerance
returns-then-tolerance c = let e = c.if-tolerance.true in record { number = rw e; network = rw e c.empty_study-study.ensures }

pub returns : goal.returns
returns c = let e = c.if-tolerance.false in record { number = rw e; network = rw e c.empty_study-study-2.ensures }
