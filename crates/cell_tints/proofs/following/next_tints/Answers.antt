-- The tints of the frame before are by its states, and those that are written by the new ones.
use Rattle.std.proofs.Common.{◌≡◌, ◌-◌, length, take, rules, subst}
use Rattle.paint_blend.specs.Kept.{AreChanged}
use Rattle.cell_tints.proofs.FollowLemmas.{states-in, tints-by, tints-in, tints-still}
use Rattle.cell_tints.proofs.following.next_tints.Goals as goal

pub returns-then-count-eq0-clause-states : goal.returns-then-count-eq0-clause-states
returns-then-count-eq0-clause-states c =
    states-in c.args.scene.now c.args.setup.now c.from.result c.args.frame c.states_at.new.out c.from.ensures (search rules) c.states_at.ensures.own
    c.states_at.ensures.ranges

pub returns-then-count-eq0-clause-tints : goal.returns-then-count-eq0-clause-tints
returns-then-count-eq0-clause-tints c =
    let long : length c.states_at.new.out ≡ length c.args.scene.now.layers = search rules in
    tints-in c.args.scene.now c.args.setup.now c.args.cuts.now c.args.frame c.args.chosen.now c.states_at.new.out c.args.tints.now
    (states-in c.args.scene.now c.args.setup.now c.from.result c.args.frame c.states_at.new.out c.from.ensures long c.states_at.ensures.own
    c.states_at.ensures.ranges)
    (tints-still c.args.scene.now c.args.cuts.now c.args.chosen.now c.args.before.now c.states_at.new.out c.args.tints.now c.requires.valid long
    (subst (λ n. AreChanged c.args.before.now c.states_at.new.out (take n c.changed_in-count.new.changed)) c.if-count-eq0.true c.changed_in-count.ensures.are)
    (tints-by c.args.scene.now c.args.setup.now c.args.cuts.now (c.args.frame - 1) c.args.chosen.now c.args.before.now c.args.tints.now c.requires.valid
    c.requires.were c.requires.all c.requires.tints))

pub paint_changed-requires-clause-were : goal.paint_changed-requires-clause-were
paint_changed-requires-clause-were c =
    tints-by c.args.scene.now c.args.setup.now c.args.cuts.now (c.args.frame - 1) c.args.chosen.now c.args.before.now c.args.tints.now c.requires.valid
    c.requires.were c.requires.all c.requires.tints

pub returns-clause-states : goal.returns-clause-states
returns-clause-states c =
    states-in c.args.scene.now c.args.setup.now c.from.result c.args.frame c.states_at.new.out c.from.ensures (search rules) c.states_at.ensures.own
    c.states_at.ensures.ranges

pub returns-clause-tints : goal.returns-clause-tints
returns-clause-tints c =
    tints-in c.args.scene.now c.args.setup.now c.args.cuts.now c.args.frame c.args.chosen.now c.states_at.new.out c.paint_changed.new.tints
    (states-in c.args.scene.now c.args.setup.now c.from.result c.args.frame c.states_at.new.out c.from.ensures (search rules) c.states_at.ensures.own
    c.states_at.ensures.ranges) c.paint_changed.ensures
