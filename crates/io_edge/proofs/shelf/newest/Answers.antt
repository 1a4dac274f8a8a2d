use Rattle.std.proofs.Common.{arith}
use Rattle.io_edge.proofs.Newest.{newest_none, newest_more, newest_kept}
use Rattle.io_edge.proofs.shelf.newest.Goals as goal
use Rattle.io_edge.proofs.shelf.newest.Goals.{then-eq, else-eq}

pub loop-i-init : goal.loop-i-init
loop-i-init c = newest_none c.args.files.now c.args.name.now

pub loop-i-preserved : goal.loop-i-preserved
loop-i-preserved c =
    elim c.if-eq.branch [
      | then-eq w ↦ rw w.found-is (newest_more c.args.files.now c.args.name.now c.loop-i.i c.index-files-i.result (omega arith) c.index-files-i.is (cc))
      | else-eq w ↦ rw w.found-is (newest_kept c.args.files.now c.args.name.now c.loop-i.i c.index-files-i.result c.loop-i.found (omega arith) c.index-files-i.is (cc) c.loop-i.invariant)
    ]
