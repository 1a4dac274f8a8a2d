-- What is known of a layer's animations tells their horizon, or that there is none.
use Rattle.std.proofs.lemmas.Option.{IfSome_then}
use Rattle.horizon_laws.proofs.StateLemmas.{layer-repeats}
use Rattle.period_frames.proofs.NeededLemmas.{repeat-read}
use Rattle.period_frames.proofs.frames.needed_of_layer.Goals as goal

pub returns-clause-horizon : goal.returns-clause-horizon
returns-clause-horizon c l there =
    c.horizon_of.ensures.horizon c.args.setup.now l.anims
    (repeat-read c.args.setup.now c.args.scene.now.layers c.as_slice.result.now c.args.number c.from.result c.index-as_slice-from.result l
    c.as_slice-2.result.now c.of_animations.result c.as_slice.ensures c.from.ensures c.index-as_slice-from.is c.as_slice-2.ensures there
    c.of_animations.ensures)

pub returns-clause-many : goal.returns-clause-many
returns-clause-many c l there =
    c.horizon_of.ensures.many c.args.setup.now l.anims
    (record { some_num = c.num-num.ensures.some; some_den = c.den-den.ensures.some })
    (repeat-read c.args.setup.now c.args.scene.now.layers c.as_slice.result.now c.args.number c.from.result c.index-as_slice-from.result l
    c.as_slice-2.result.now c.of_animations.result c.as_slice.ensures c.from.ensures c.index-as_slice-from.is c.as_slice-2.ensures there
    c.of_animations.ensures)

pub returns-clause-repeats : goal.returns-clause-repeats
returns-clause-repeats c l there =
    IfSome_then c.horizon_of.result (returns-clause-horizon c l there)
    (λ h is. layer-repeats c.args.scene.now c.args.setup.now h.settled h.period l
    (record { some_num = c.num-num.ensures.some; some_den = c.den-den.ensures.some }) is)
