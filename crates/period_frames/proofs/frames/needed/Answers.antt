-- What is known of all animations tells their horizon, or that there is none.
use Rattle.std.proofs.Common.{subst}
use Rattle.std.proofs.lemmas.Option.{IfSome_then}
use Rattle.page_model.specs.Horizon.{all_animations, animations_of}
use Rattle.period_frames.specs.Repeats.{IsRepeat}
use Rattle.period_frames.proofs.NeededLemmas.{enough}
use Rattle.period_frames.proofs.frames.needed.Goals as goal

pub returns-clause-horizon : goal.returns-clause-horizon
returns-clause-horizon c =
    c.horizon_of.ensures.horizon c.args.setup.now (all_animations c.args.scene.now)
    (subst (λ layers. IsRepeat c.args.setup.now (animations_of layers) c.of_layers.result) c.as_slice.ensures c.of_layers.ensures)

pub returns-clause-many : goal.returns-clause-many
returns-clause-many c =
    c.horizon_of.ensures.many c.args.setup.now (all_animations c.args.scene.now)
    (record { some_num = c.num-num.ensures.some; some_den = c.den-den.ensures.some })
    (subst (λ layers. IsRepeat c.args.setup.now (animations_of layers) c.of_layers.result) c.as_slice.ensures c.of_layers.ensures)

pub returns-clause-for_ever : goal.returns-clause-for_ever
returns-clause-for_ever c =
    IfSome_then c.horizon_of.result (returns-clause-horizon c)
    (λ h is. enough c.args.scene.now c.args.setup.now h.settled h.period
    (record { some_num = c.num-num.ensures.some; some_den = c.den-den.ensures.some }) is)
