-- Both ends are one.
use Rattle.std.proofs.Common.{◌≡◌, ◌∙◌, ap}
use Rattle.page_model.specs.Slot.{Shade}
use Rattle.fix_span.specs.declared.frac.Frac.{Frac}
use Rattle.slot_values.specs.Channels.{channel_between, shade_as}
use Rattle.slot_values.specs.Ends.{end_of}
use Rattle.slot_values.proofs.ChannelLemmas.{left-is}
use Rattle.slot_values.proofs.channels.channel_at_ends.Goals as goal

pub returns-then-are_same : goal.returns-then-are_same
returns-then-are_same c =
    let from : Shade = shade_as c.args.from in
    let to : Shade = shade_as c.args.to in
    let one : c.args.least ≡ c.args.greatest = c.are_same.ensures.0 c.if-are_same.true in
    c.channel_left.ensures
    ∙ left-is from to (end_of c.args.least) (end_of c.args.least) _ _ _ _ c.made_at-first.ensures.product c.made_at-first.ensures.alpha
    c.made_at-first.ensures.product c.made_at-first.ensures.alpha
    ∙ ap (λ (x : Frac). channel_between from to (end_of c.args.least) (end_of x)) one
