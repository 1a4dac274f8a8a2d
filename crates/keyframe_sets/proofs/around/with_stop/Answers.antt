-- The new stop is the last that is reached, or the first ahead where there was none.
use Rattle.std.proofs.Common.{◌∙◌, sym, subst, Some, ◌++◌, ◌∷◌, []}
use Rattle.keyframe_sets.specs.declared.stops.Stop.{Stop}
use Rattle.keyframe_sets.specs.Around.{IsAround}
use Rattle.keyframe_sets.specs.Views.{stop_as, share_as}
use Rattle.keyframe_sets.proofs.AroundLemmas.{IsAround-reached, IsAround-ahead}
use Rattle.keyframe_sets.proofs.around.with_stop.Goals as goal

pub returns-then-is_reached-clause-around : goal.returns-then-is_reached-clause-around
returns-then-is_reached-clause-around c seen =
    IsAround-reached (share_as c.args.at) seen c.args.around c.args.stop (sym c.is_reached.ensures ∙ c.if-is_reached.true)

pub returns-else-is_reached-clause-around : goal.returns-else-is_reached-clause-around
returns-else-is_reached-clause-around c seen h =
    subst
    (λ (stop : Stop). IsAround (share_as c.args.at) (seen ++ stop_as c.args.stop ∷ []) (record { reached = c.args.around.reached; ahead = Some stop }))
    (sym c.unwrap_or.ensures)
    (IsAround-ahead (share_as c.args.at) seen c.args.around c.args.stop (sym c.is_reached.ensures ∙ c.if-is_reached.false) h)
