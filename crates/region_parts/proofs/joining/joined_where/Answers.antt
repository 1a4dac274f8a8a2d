-- By cases on what joining them gives.
use Rattle.std.proofs.Common.{Option, Some, None, List, ◌++◌, true, refl}
use Rattle.std.specs.Prelude.{IfNone, IfSome, MatchOption}
use Rattle.page_model.specs.declared.animation.Anim.{Anim}
use Rattle.page_model.specs.declared.setup.Setup.{Setup}
use Rattle.page_model.specs.Horizon.{IsHorizon}
use Rattle.page_model.specs.Time.{HasFrames}
use Rattle.period_frames.specs.declared.frames.Horizon.{Horizon}
use Rattle.period_frames.specs.Needed.{NeedsMore}
use Rattle.period_frames.specs.Repeats.{IsShortHorizon}
use Rattle.region_parts.specs.Joining.{IsJoinedWhere, IsTooLongWhere}
use Rattle.region_parts.proofs.joining.joined_where.Goals as goal

by-both : (one own : Horizon) (found : Option Horizon)
    → ((setup : Setup) (some more : List Anim) → IsHorizon setup some one.settled one.period → IsHorizon setup more own.settled own.period
    → IfSome found (λ h. IsHorizon setup (some ++ more) h.settled h.period)) → IfSome found IsShortHorizon
    → ((setup : Setup) (some more : List Anim) → HasFrames setup → IsHorizon setup some one.settled one.period
    → IsHorizon setup more own.settled own.period → IfNone found (NeedsMore setup (some ++ more)))
    → MatchOption found (IsTooLongWhere true one own) (IsJoinedWhere true one own)
by-both one own (Some both) joins short many = record { horizon = joins; short = short }
by-both one own None joins short many = record { is_met = refl; long = many }

pub returns-then-met : goal.returns-then-met
returns-then-met c =
    rw c.if-met.true (by-both c.args.one c.args.own c.joined.result c.joined.ensures.horizon c.joined.ensures.few c.joined.ensures.many)
