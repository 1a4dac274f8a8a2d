use Rattle.window_area.proofs.AreaLemmas.{area-anywhere, area-held}
use Rattle.window_area.proofs.best.greatest.Goals as goal

pub returns-clause-most : goal.returns-clause-most
returns-clause-most c =
    rw c.told.ensures
    (area-anywhere c.args.xs.now c.args.ys.now c.args.flags.now c.best_row.result.most.area c.best_row.ensures.best.greatest)

pub returns-clause-has : goal.returns-clause-has
returns-clause-has c =
    rw c.told.ensures
    (area-held c.args.xs.now c.args.ys.now c.args.flags.now c.best_row.result.most.place c.best_row.result.row c.best_row.result.most.area
    c.best_row.ensures.best.has (c.best_row.ensures.best.greatest c.best_row.result.most.place c.best_row.result.row))
