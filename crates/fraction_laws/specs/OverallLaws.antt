-- The overall progress is the active time over the duration, as Web Animations has it, however the definition writes the fraction.
use Rattle.std.specs.Prelude.{ℕ, ◌≡◌, ◌<◌, Some}
use Rattle.page_model.specs.declared.setup.Setup.{Setup}
use Rattle.page_model.specs.declared.animation.Anim.{Anim}
use Rattle.page_model.specs.Fraction.{Fraction, SameNumber}
use Rattle.page_model.specs.Progress.{Iterations, so_many, infinite, active_time_of, duration_of, overall_progress, phase_of}

-- a number of iterations is this number
abbrev pub AreSoMany : Iterations → Fraction → Type 0
AreSoMany (so_many x) told = SameNumber x told
AreSoMany infinite told = ⊥

-- in each frame with an effect, of an animation that takes time
abbrev pub OverallIsQuotient : Type 0
OverallIsQuotient =
    (setup : Setup) (anim : Anim) (frame time : ℕ) → 0 < duration_of setup anim → active_time_of setup anim frame ≡ Some time
    → AreSoMany (overall_progress (phase_of setup anim frame) anim.count (duration_of setup anim) time)
    (record { num = time; den = duration_of setup anim })
