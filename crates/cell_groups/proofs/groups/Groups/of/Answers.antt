use Rattle.cell_groups.proofs.GroupLemmas.{groups-more}
use Rattle.cell_groups.proofs.groups.Groups.of.Goals as goal

pub loop-cell-preserved : goal.loop-cell-preserved
loop-cell-preserved c =
    groups-more c.args.scene.now c.args.setup.now c.args.frames c.args.cuts.now _ c.loop-cell.cell c.loop-cell.groups c.add.new.self
    (rw c.as_slice.ensures.value c.in_ok-homes.ensures) c.loop-cell.invariant c.in_ok-add.ensures
