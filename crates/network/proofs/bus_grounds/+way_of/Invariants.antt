-- `way_of` meets its contract. The bus's number falls with each call; `counted_more` and `counted_end` are the two cases of a step, and
-- the counts are at most the number, so that the sums fit.
use Rattle.network.proofs.bus_grounds.+way_of.Given as goal

abbrev pub decreases-way_of : goal.decreases-way_of
decreases-way_of l = l.i
