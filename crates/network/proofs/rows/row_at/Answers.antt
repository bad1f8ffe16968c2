-- `row_at` gives what a bus gets, by the equations of the functions that it calls.
use Rattle.network.proofs.rows.row_at.Goals as goal

pub returns : goal.returns
returns c = λ n. rw (c.figures.ensures, c.voltage_factor-c.ensures, c.from_root-x.ensures n, c.seen_at-y.ensures)
