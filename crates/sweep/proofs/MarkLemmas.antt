-- Marks tell the flags of the groups, and the best position is the best of these.
use Rattle.std.proofs.Common.{◌≡◌, ◌∙◌, ℤ, ap, ◌<◌, Bool, List, length, get_or, subst, sym}
use Rattle.page_model.specs.Cells.{cells_between}
use Rattle.cell_flags.specs.Marks.{IsBest}
use Rattle.cell_groups.specs.Groups.{Grouping, group_of}
use Rattle.flash_count.specs.declared.tracking.Flag.{Flag}
use Rattle.region_split.specs.Cutting.{Edges}
use Rattle.window_area.specs.declared.best.Best.{Best}
use Rattle.window_area.specs.FlaggedArea.{IsGreatest}
use Rattle.sweep.specs.declared.windows.Sort.{Sort}
use Rattle.sweep.specs.Told.{AreMarks, AreMarksOf, HaveFlags, spread, told, unflagged}
use Rattle.sweep.proofs.GroupLemmas.{spread-at}

pub marks-spread : (sort : Sort) (edges : Edges) (groups : Grouping) (flags : List Flag) (marks : List Bool) → HaveFlags edges groups flags
    → length marks ≡ cells_between edges.xs edges.ys → AreMarksOf sort groups.of flags (length marks) marks
    → AreMarks sort edges (spread groups flags) marks
marks-spread sort edges groups flags marks have all are = record {
  all = all;
  each = λ cell known.
      let flag : get_or (spread groups flags) cell unflagged ≡ get_or flags (group_of groups cell) unflagged =
      spread-at groups flags cell (subst (λ n. cell < n) (sym have.all) known) in
      are cell (subst (λ n. cell < n) (sym all) known) ∙ sym (ap (told sort) flag);
}

pub best-of : (edges : Edges) (marks : List Bool) (best : Best) (x y : ℤ) → IsGreatest edges.xs edges.ys marks best → x ≡ best.x → y ≡ best.y
    → IsBest edges marks best.area x y
best-of edges marks best x y is column row = rw (column, row) (record {
  most_of = is.most;
  has = is.has;
  right = is.right;
  down = is.down;
  first_row = is.first_row;
  first_column = is.first_column;
})
