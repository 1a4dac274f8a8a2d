-- What is said of a scene that needs too many frames: it passes region by region, or not.
use Rattle.std.specs.Prelude.{ℕ}
use Rattle.page_model.specs.declared.scene.Scene.{Scene}
use Rattle.page_model.specs.declared.setup.Setup.{Setup}
use Rattle.page_model.specs.Horizon.{all_animations}
use Rattle.page_model.specs.SeparateJudgement.{IsJudgedApart, IsNotApart}
use Rattle.apart_laws.specs.PartedPages.{IsSafeForEver}
use Rattle.period_frames.specs.Needed.{NeedsMore}

-- Each region was looked at in the windows that it needs by itself, at most so many, and those that are possibly
-- flagged in any of their own windows are small enough together, wherever the rectangle lies: so no window is bad,
-- from the first frame on for ever.
pub record IsPassApart (scene : Scene) (setup : Setup) (frames : ℕ) : Type 0 where
  pub beyond : NeedsMore setup (all_animations scene)
  pub apart : IsJudgedApart scene setup frames
  pub for_ever : IsSafeForEver scene setup

-- more windows have to be looked at than are, and the regions can't be judged by themselves
pub record IsPastFrames (scene : Scene) (setup : Setup) : Type 0 where
  pub beyond : NeedsMore setup (all_animations scene)
  pub not_apart : IsNotApart scene setup
