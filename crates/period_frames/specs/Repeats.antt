-- What is known of some animations while more are joined to them.
use Rattle.std.specs.Prelude.{◌+◌, ◌≤◌, List}
use Rattle.page_model.specs.declared.setup.Setup.{Setup}
use Rattle.page_model.specs.declared.animation.Anim.{Anim}
use Rattle.page_model.specs.Horizon.{IsSettled}
use Rattle.period_frames.specs.Periods.{IsPeriodOrLong}
use Rattle.period_frames.specs.declared.frames.Horizon.{Horizon}
use Rattle.period_frames.specs.declared.repeats.Repeat.{Repeat}

pub record IsRepeat (setup : Setup) (anims : List Anim) (known : Repeat) : Type 0 where
  pub settled : IsSettled setup anims known.settled
  pub period : IsPeriodOrLong setup anims known.period

-- a horizon of at most 100,000 frames
pub record IsShortHorizon (horizon : Horizon) : Type 0 where
  pub some : 1 ≤ horizon.period
  pub few : horizon.settled + horizon.period ≤ 100000
