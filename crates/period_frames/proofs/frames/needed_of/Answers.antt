-- What is known of the chosen layers' animations tells their horizon, or that there is none.
use Rattle.std.proofs.Common.{subst}
use Rattle.std.specs.List.{items_where_true}
use Rattle.page_model.specs.Horizon.{animations_of}
use Rattle.period_frames.specs.Repeats.{IsRepeat}
use Rattle.period_frames.proofs.frames.needed_of.Goals as goal

pub returns-clause-horizon : goal.returns-clause-horizon
returns-clause-horizon c =
    c.horizon_of.ensures.horizon c.args.setup.now (animations_of (items_where_true c.args.chosen.now c.args.scene.now.layers))
    (subst (λ layers. IsRepeat c.args.setup.now (animations_of (items_where_true c.args.chosen.now layers)) c.of_chosen.result)
    c.as_slice.ensures c.of_chosen.ensures)

pub returns-clause-many : goal.returns-clause-many
returns-clause-many c =
    c.horizon_of.ensures.many c.args.setup.now (animations_of (items_where_true c.args.chosen.now c.args.scene.now.layers))
    (record { some_num = c.num-num.ensures.some; some_den = c.den-den.ensures.some })
    (subst (λ layers. IsRepeat c.args.setup.now (animations_of (items_where_true c.args.chosen.now layers)) c.of_chosen.result)
    c.as_slice.ensures c.of_chosen.ensures)
