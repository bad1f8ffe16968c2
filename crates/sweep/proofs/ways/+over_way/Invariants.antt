-- `over_way` meets its contract, by recursion: of two bus numbers the greater falls.
use Rattle.std.specs.Prelude.{◌+◌}
use Rattle.sweep.proofs.ways.+over_way.Given as goal

abbrev pub decreases-over_way : goal.decreases-over_way
decreases-over_way l = l.b + l.j
