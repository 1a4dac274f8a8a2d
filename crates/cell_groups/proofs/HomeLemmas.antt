-- Two states that have a layer in one place.
use Rattle.std.proofs.Common.{◌≡◌}
use Rattle.page_model.specs.Enclosure.{LooseState}
use Rattle.frame_state.specs.Places.{place_in}
use Rattle.region_split.specs.Moving.{AreInOnePlace}

pub one-place : (state again : LooseState) → AreInOnePlace state again → place_in state ≡ place_in again
one-place state again same = λ i. record { left = same.left i; top = same.top i; width = same.width i; height = same.height i }
