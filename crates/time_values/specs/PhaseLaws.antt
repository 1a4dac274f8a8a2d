-- The boundaries between the phases of an animation: each belongs to the later of the two.
use Rattle.std.specs.Prelude.{ℕ, pos, ◌≡◌}
use Rattle.page_model.specs.declared.setup.Setup.{Setup}
use Rattle.page_model.specs.declared.animation.Anim.{Anim}
use Rattle.page_model.specs.declared.animation.Count.TheVariants.{Times}
use Rattle.page_model.specs.declared.animation.Direction.TheVariants.{Normal}
use Rattle.page_model.specs.declared.animation.Fill.TheVariants.{Absent}
use Rattle.page_model.specs.Progress.{Phase, before, active, after, finite, active_from, after_from, local_time_of, phase_of}
use Rattle.time_values.specs.Examples.{at_rate, animation}
use Rattle.time_values.specs.WrongPhase.{late_phase_of}

-- at the before-active boundary an animation is no longer before, and at the active-after boundary no longer active
pub record BoundariesBelongToTheLater (phase : Setup → Anim → ℕ → Phase) : Type 0 where
  pub start : (setup : Setup) (anim : Anim) (frame : ℕ) → local_time_of setup anim frame ≡ active_from setup anim
      → phase setup anim frame ≡ before → ⊥
  pub end : (setup : Setup) (anim : Anim) (frame : ℕ) → after_from setup anim ≡ finite (local_time_of setup anim frame)
      → phase setup anim frame ≡ active → ⊥

abbrev pub PhaseBoundaries : Type 0
PhaseBoundaries = BoundariesBelongToTheLater phase_of

-- a second with a delay of a second: at a rate of 60 it begins in frame 60, and is over in frame 120
abbrev pub delayed_second : Anim
delayed_second = animation 1000 (pos 1000) (Times 1000) Normal Absent

pub record WrongPhaseBreaks : Type 0 where
  pub begins : phase_of (at_rate 60) delayed_second 60 ≡ active
  pub begins_late : late_phase_of (at_rate 60) delayed_second 60 ≡ before
  pub is_over : phase_of (at_rate 60) delayed_second 120 ≡ after
  pub is_over_late : late_phase_of (at_rate 60) delayed_second 120 ≡ active
  pub breaks : BoundariesBelongToTheLater late_phase_of → ⊥
