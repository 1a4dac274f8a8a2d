-- Periods, which are told where they are at most 100,000 frames.
use Rattle.std.specs.Prelude.{ℕ, ◌≡◌, ◌<◌, ◌≤◌, nat_le, List, Option, Some, None, if◌then◌else◌}
use Rattle.page_model.specs.declared.setup.Setup.{Setup}
use Rattle.page_model.specs.declared.animation.Anim.{Anim}
use Rattle.page_model.specs.Horizon.{IsPeriod, AreWholeCycles}
use Rattle.period_frames.specs.Multiples.{IsLeastMultiple}

-- from 1 to 100,000 frames
pub record IsShort (frames : ℕ) : Type 0 where
  pub some : 1 ≤ frames
  pub few : frames ≤ 100000

-- so many, or none where they are more
abbrev pub short_or_none : ℕ → Option ℕ
short_or_none frames = if nat_le frames 100000 then Some frames else None

-- the least common multiple of two periods, or none where it is more
pub record IsJoined (one other : ℕ) (both : Option ℕ) : Type 0 where
  pub multiple : ℕ
  pub is_least : IsLeastMultiple one other multiple
  pub short : both ≡ short_or_none multiple

-- and none where one of both is none
abbrev pub AreJoined : Option ℕ → Option ℕ → Option ℕ → Type 0
AreJoined (Some one) (Some other) both = IsJoined one other both
AreJoined None other both = both ≡ None
AreJoined (Some one) None both = both ≡ None

-- the period, or none because no 100,000 frames are a whole number of cycles of each
abbrev pub IsPeriodOrLong : Setup → List Anim → Option ℕ → Type 0
IsPeriodOrLong setup anims (Some period) = IsPeriod setup anims period
IsPeriodOrLong setup anims None = (frames : ℕ) → AreWholeCycles setup anims frames → 100000 < frames
