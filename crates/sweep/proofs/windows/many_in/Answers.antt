-- The rectangle holds more than a quarter, and its first position with the most is told.
use Rattle.std.proofs.Common.{◌≡◌, ◌∙◌, Bool, List, length, rules, subst, sym}
use Rattle.page_model.specs.Cells.{cells_between}
use Rattle.window_area.specs.FlaggedArea.{IsGreatest}
use Rattle.sweep.specs.Told.{AreMarksOf}
use Rattle.sweep.proofs.MarkLemmas.{best-of, marks-spread}
use Rattle.sweep.proofs.windows.many_in.Goals as goal

pub returns : goal.returns
returns c =
    let cuts = c.args.cuts.now in
    let marks : List Bool = c.mark.new.marks in
    let long : length marks ≡ cells_between cuts.xs cuts.ys = search rules in
    let old : length c.args.marks.now ≡ length marks = c.requires.marks ∙ sym long in
    let are : AreMarksOf c.args.sort c.args.groups.now.of c.args.flags.now (length marks) marks =
    subst (λ n. AreMarksOf c.args.sort c.args.groups.now.of c.args.flags.now n marks) old (rw c.of_cells.ensures at c.mark.ensures) in
    let best = c.in_ok-best.ensures in
    let greatest : IsGreatest cuts.xs cuts.ys marks c.in_ok-best.best = rw (c.xs.ensures.value, c.ys.ensures.value) at best.1 in
    record {
      start_is = c.window_at.ensures.start;
      many = record {
        most = c.in_ok-best.best.area;
        best = record {
          marks = marks;
          are = marks-spread c.args.sort cuts c.args.groups.now c.args.flags.now marks c.requires.flags long are;
          best = best-of cuts marks c.in_ok-best.best c.window_at.result.x c.window_at.result.y greatest c.window_at.ensures.x c.window_at.ensures.y;
        };
        many = best.0;
      };
    }
