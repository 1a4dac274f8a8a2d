-- The edges by cases on the boxes.
use Rattle.std.proofs.Common.{refl, arith}
use Rattle.page_values.proofs.CellLemmas.{columns-edges, rows-edges}
use Rattle.page_values.proofs.cell_values.three_boxes_cut.Goals as goal

pub returns : goal.returns
returns c = record {
  cuts = record { columns = columns-edges; rows = rows-edges };
  cells = refl;
  long_slide = λ xs ys one two. rw (one, two) refl;
  too_much = omega arith;
}
