-- The first tints are written over.
use Rattle.cell_tints.proofs.FollowLemmas.{AreTintsTill}
use Rattle.cell_tints.proofs.following.paint_changed.Given as goal

abbrev pub invariant-loop-i : goal.invariant-loop-i
invariant-loop-i l = AreTintsTill l.scene l.cuts l.chosen l.before l.states l.i l.tints
