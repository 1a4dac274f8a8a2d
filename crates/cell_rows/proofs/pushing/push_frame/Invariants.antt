-- The rows of the first tints were pushed, and told their flags.
use Rattle.cell_rows.proofs.DoneLemmas.{AreDone, PushedIn}
use Rattle.cell_rows.proofs.pushing.push_frame.Given as goal

abbrev pub invariant-loop-number : goal.invariant-loop-number
invariant-loop-number l = AreDone (PushedIn l.rate l.turn l.tints l.flags) l.number l.fn.pool l.pool
