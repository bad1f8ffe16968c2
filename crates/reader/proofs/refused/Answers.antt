-- `refused` meets its contract: starting with 6 leaves an empty open study of tolerance 6.
use Rattle.reader.proofs.refused.Goals as goal

pub returns : goal.returns
returns c = rw c.start-left.ensures.network
