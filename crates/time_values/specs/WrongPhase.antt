-- A wrong definition, which nothing but a law cites: both boundaries of the active phase belong to the earlier phase.
use Rattle.std.specs.Prelude.{ℕ, ℤ, Bool, false, int_lt, int_le, if◌then◌else◌}
use Rattle.page_model.specs.declared.setup.Setup.{Setup}
use Rattle.page_model.specs.declared.animation.Anim.{Anim}
use Rattle.page_model.specs.Progress.{Extent, finite, endless, Phase, before, active, after, active_from, after_from, local_time_of}

-- a moment is past a time
abbrev has_passed : ℤ → Extent → Bool
has_passed moment (finite time) = int_lt time moment
has_passed moment endless = false

abbrev pub late_phase_of : Setup → Anim → ℕ → Phase
late_phase_of setup anim frame =
    if int_le (local_time_of setup anim frame) (active_from setup anim) then before
    else (if has_passed (local_time_of setup anim frame) (after_from setup anim) then after else active)
