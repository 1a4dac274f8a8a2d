-- The channel is that between the ends, which is the own kind's and is from 0 to 255.
use Rattle.std.proofs.Common.{sym, subst}
use Rattle.page_model.specs.Enclosure.{IsLooseChannel, Loose, own}
use Rattle.slot_values.specs.Channels.{eight_bits, shade_as}
use Rattle.slot_values.specs.Ends.{end_of}
use Rattle.slot_values.specs.Slots.{IsInSlot}
use Rattle.slot_values.proofs.ChannelLemmas.{channel-small, loose_channel-is}
use Rattle.slot_values.proofs.channels.channel_on.Goals as goal

pub returns-clause-own : goal.returns-clause-own
returns-clause-own c easing x ends =
    subst (λ (loose : Loose). IsLooseChannel own easing x (shade_as c.args.from) (shade_as c.args.to) loose) (sym c.channel_at_ends.ensures)
    (loose_channel-is easing x (shade_as c.args.from) (shade_as c.args.to) (end_of c.args.least) (end_of c.args.greatest) ends)

pub returns-clause-range : goal.returns-clause-range
returns-clause-range c =
    subst (λ (loose : Loose). IsInSlot eight_bits loose) (sym c.channel_at_ends.ensures)
    (channel-small (shade_as c.args.from) (shade_as c.args.to) (end_of c.args.least) (end_of c.args.greatest))
