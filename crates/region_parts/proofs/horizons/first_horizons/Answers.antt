-- Each is that of no animation.
use Rattle.std.proofs.Common.{ℕ, [], replicate}
use Rattle.std.proofs.lemmas.List.{get_or-replicate, length-replicate}
use Rattle.page_model.specs.declared.setup.Setup.{Setup}
use Rattle.page_model.specs.Horizon.{IsHorizon}
use Rattle.period_frames.specs.declared.frames.Horizon.{Horizon}
use Rattle.period_frames.specs.Repeats.{IsShortHorizon}
use Rattle.region_parts.specs.Needs.{AreAllFirst}
use Rattle.region_parts.specs.Parts.{no_horizon}
use Rattle.region_parts.proofs.horizons.first_horizons.Goals as goal

all-first : (cells : ℕ) (first : Horizon) → ((setup : Setup) → IsHorizon setup [] first.settled first.period) → IsShortHorizon first
    → AreAllFirst cells (replicate cells first)
all-first cells first is short = record {
  one_each = length-replicate cells first;
  none = λ cell setup known. rw (get_or-replicate cells cell first no_horizon known) (is setup);
  short = λ cell known. rw (get_or-replicate cells cell first no_horizon known) short;
}

pub returns : goal.returns
returns c = rw (c.in_ok-vec.ensures.items_if_clones_equal (λ y same. same)) (all-first c.args.cells c.of_none.result c.of_none.ensures.horizon c.of_none.ensures.few)
