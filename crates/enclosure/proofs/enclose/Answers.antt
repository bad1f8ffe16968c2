-- `enclosure::enclose` computes its definition. Assumes nothing.
use Rattle.enclosure.proofs.enclose.Goals as goal

pub returns : goal.returns
returns c = rw (c.lower.ensures, c.upper.ensures)
