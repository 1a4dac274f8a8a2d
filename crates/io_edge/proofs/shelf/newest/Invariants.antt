use Rattle.io_edge.proofs.Newest.{IsNewestOf}
use Rattle.io_edge.proofs.shelf.newest.Given as goal

abbrev pub invariant-loop-i : goal.invariant-loop-i
invariant-loop-i l = IsNewestOf l.i l.files l.name l.found
