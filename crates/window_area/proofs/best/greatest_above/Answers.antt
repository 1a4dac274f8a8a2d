use Rattle.std.proofs.Common.{arith}
use Rattle.window_area.proofs.AreaLemmas.{area-anywhere}
use Rattle.window_area.proofs.GreatestLemmas.{row-greatest}
use Rattle.window_area.proofs.best.greatest_above.Goals as goal

pub returns-then-best-limit : goal.returns-then-best-limit
returns-then-best-limit c =
    area-anywhere c.args.xs.now c.args.ys.now c.args.flags.now c.args.limit
    (λ x y. let most = c.best_row-best.ensures.best.greatest x y in omega (arith, most, c.if-best-limit.true))

pub returns : goal.returns
returns c =
    rw c.told.ensures (
      omega (arith, c.if-best-limit.false),
      row-greatest c.args.xs.now c.args.ys.now c.args.flags.now c.args.limit c.best_row-best.result.row c.best_row-best.result.most.place
          c.best_row-best.result.most.area c.best_row-best.ensures.best (omega (arith, c.if-best-limit.false)),
    )
