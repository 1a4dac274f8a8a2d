-- Pages that need too many frames, and what the needed frames are for: windows that start before them are enough.
use Rattle.std.specs.Prelude.{ℕ, ◌<◌, List}
use Rattle.page_model.specs.declared.setup.Setup.{Setup}
use Rattle.page_model.specs.declared.animation.Anim.{Anim}
use Rattle.page_model.specs.Horizon.{IsNeeded}
pub use Rattle.horizon_laws.specs.ForeverLaws.{AreEnough, IsAsBad, LayerRepeats, NoneBadBefore, NoneEver, NoneIn}

-- so many frames are needed, and they are more than 100,000
pub record NeedsMore (setup : Setup) (anims : List Anim) : Type 0 where
  pub needed : ℕ
  pub is_needed : IsNeeded setup anims needed
  pub many : 100000 < needed
