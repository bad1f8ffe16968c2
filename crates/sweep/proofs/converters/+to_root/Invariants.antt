-- `to_root` meets its contract, by recursion towards bus 0.
use Rattle.sweep.proofs.converters.+to_root.Given as goal

abbrev pub decreases-to_root : goal.decreases-to_root
decreases-to_root l = l.b
