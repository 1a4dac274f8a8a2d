-- What settled frames and periods are for: behind the settled frame each animation's progress is the same one period later.
use Rattle.std.specs.Prelude.{ℕ, pos, true, false, ◌≡◌, ◌+◌, ◌%◌, ◌≤◌, List, All}
use Rattle.page_model.specs.declared.setup.Setup.{Setup}
use Rattle.page_model.specs.declared.animation.Anim.{Anim}
use Rattle.page_model.specs.declared.animation.Count.TheVariants.{Infinite}
use Rattle.page_model.specs.declared.animation.Direction.TheVariants.{Alternate}
use Rattle.page_model.specs.declared.animation.Fill.TheVariants.{Absent}
use Rattle.page_model.specs.Horizon.{IsHorizon, is_endless, has_settled, cycle_of}
use Rattle.page_model.specs.Progress.{progress_of}
use Rattle.page_model.specs.Time.{HasFrames, time_of}
use Rattle.time_values.specs.Examples.{at_rate, animation, fraction, Is}
use Rattle.horizon_laws.specs.WrongCycle.{single_cycle_of}

-- an endless animation that has begun has the same progress a whole number of cycles later
abbrev pub RepeatsBy : (Setup → Anim → ℕ) → Type 0
RepeatsBy cycle =
    (setup : Setup) (anim : Anim) (frame frames : ℕ) → HasFrames setup → is_endless anim ≡ true
    → has_settled setup anim frame ≡ true → time_of setup frames % cycle setup anim ≡ 0
    → progress_of setup anim (frame + frames) ≡ progress_of setup anim frame

-- and one that is paused or over has the same progress in each later frame
abbrev pub StaysSettled : Type 0
StaysSettled =
    (setup : Setup) (anim : Anim) (frame later : ℕ) → is_endless anim ≡ false → has_settled setup anim frame ≡ true
    → progress_of setup anim (frame + later) ≡ progress_of setup anim frame

-- so all of some animations have the same progress one period later
abbrev pub RepeatsBehindSettled : Type 0
RepeatsBehindSettled =
    (setup : Setup) (anims : List Anim) (settled period frame : ℕ) → HasFrames setup → IsHorizon setup anims settled period
    → settled ≤ frame → All (λ (anim : Anim). progress_of setup anim (frame + period) ≡ progress_of setup anim frame) anims

pub record ProgressRepeats : Type 0 where
  pub endless : RepeatsBy cycle_of
  pub others : StaysSettled
  pub together : RepeatsBehindSettled

-- a second there and a second back, for ever
abbrev pub there_and_back : Anim
there_and_back = animation 1000 (pos 0) Infinite Alternate Absent

-- one second is no whole number of its cycles: a quarter there, three quarters back
pub record WrongCycleBreaks : Type 0 where
  pub whole_by_single : time_of (at_rate 60) 60 % single_cycle_of (at_rate 60) there_and_back ≡ 0
  pub there : Is (progress_of (at_rate 60) there_and_back 15) (fraction 1 4)
  pub back : Is (progress_of (at_rate 60) there_and_back 75) (fraction 3 4)
  pub breaks : RepeatsBy single_cycle_of → ⊥
