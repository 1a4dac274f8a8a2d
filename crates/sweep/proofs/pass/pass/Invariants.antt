use Rattle.std.specs.Prelude.{length}
use Rattle.cell_rows.specs.CellRows.{OnlyRows}
use Rattle.cell_tints.specs.Tints.{cells_of}
use Rattle.sweep.specs.Swept.{ArePaintedBefore, HasPlaces, IsSwept, groups_in}
use Rattle.sweep.proofs.pass.pass.Given as goal

abbrev pub invariant-frames : goal.invariant-frames
invariant-frames l = record {
  painted : ArePaintedBefore l.scene l.setup l.cuts l.groups l.frame l.room.states.items l.room.tints.items;
  swept : IsSwept l.scene l.setup l.cuts l.groups l.frame l.room.pool l.found;
  places : HasPlaces (length l.scene.layers) (cells_of l.cuts) (groups_in l.groups) l.room;
  only : OnlyRows (groups_in l.groups) l.fn.room.pool l.room.pool;
}
