-- The states compute, and the edges follow by cases on the frames.
use Rattle.std.proofs.Common.{refl}
use Rattle.page_values.proofs.SlideLemmas.{run_is, columns_are, rows_are}
use Rattle.page_values.proofs.cell_values.sliding_box_cuts.Goals as goal

pub returns : goal.returns
returns c = record { run = run_is; cuts = record { columns = columns_are; rows = rows_are }; cells = refl }
