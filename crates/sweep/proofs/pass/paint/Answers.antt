-- The states and tints that were written stand in the room.
use Rattle.std.proofs.Common.{◌≡◌, ◌∙◌, length, ap, rules}
use Rattle.sweep.proofs.PaintLemmas.{painted-there}
use Rattle.sweep.proofs.SweptLemmas.{written-back}
use Rattle.sweep.proofs.pass.paint.Goals as goal

pub returns-then-frame-eq0-clause-painted : goal.returns-then-frame-eq0-clause-painted
returns-then-frame-eq0-clause-painted c =
    let layers : length c.tints_in_frame.new.states ≡ c.args.room.now.states.len = search rules in
    let all : length c.tints_in_frame.new.tints ≡ c.args.room.now.tints.len = search rules in
    painted-there c.args.scene.now c.args.setup.now c.args.cuts.now c.args.groups.now c.args.frame c.firsts-firsts.result.now
    c.tints_in_frame.new.states _ c.tints_in_frame.new.tints _ c.firsts-firsts.ensures
    (written-back c.args.room.now.states.len c.tints_in_frame.new.states _ layers)
    (written-back c.args.room.now.tints.len c.tints_in_frame.new.tints _ all)
    c.tints_in_frame.ensures.states c.tints_in_frame.ensures.tints

pub returns-clause-painted : goal.returns-clause-painted
returns-clause-painted c =
    let layers : length c.next_tints.new.states ≡ c.args.room.now.next.len = search rules in
    let all : length c.next_tints.new.tints ≡ c.args.room.now.tints.len = search rules in
    painted-there c.args.scene.now c.args.setup.now c.args.cuts.now c.args.groups.now c.args.frame c.firsts-firsts.result.now
    c.next_tints.new.states _ c.next_tints.new.tints _ c.firsts-firsts.ensures
    (ap (λ list. list.items) c.swap.ensures.x_after ∙ written-back c.args.room.now.next.len c.next_tints.new.states _ layers)
    (written-back c.args.room.now.tints.len c.next_tints.new.tints _ all)
    c.next_tints.ensures.states c.next_tints.ensures.tints
