-- `from_root` meets its contract, by recursion towards bus 0.
use Rattle.sweep.proofs.converters.+from_root.Given as goal

abbrev pub decreases-from_root : goal.decreases-from_root
decreases-from_root l = l.b
