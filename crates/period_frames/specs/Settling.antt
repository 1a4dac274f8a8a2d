-- The moments at which animations settle.
use Rattle.std.specs.Prelude.{ℕ, pos, ◌+ℤ◌, if◌then◌else◌}
use Rattle.page_model.specs.declared.setup.Setup.{Setup}
use Rattle.page_model.specs.declared.animation.Anim.{Anim}
use Rattle.page_model.specs.declared.animation.Count.{Count}
use Rattle.page_model.specs.declared.animation.Count.TheVariants.{Times, Infinite}
use Rattle.page_model.specs.Progress.{above_zero, delay_of}
use Rattle.page_model.specs.Time.{thousandths_of}

-- how long after its delay an animation has settled: at the end of its iterations, and at once where they are infinitely many,
-- since those either go on for ever or take no time
abbrev pub length_for : Setup → ℕ → Count → ℕ
length_for setup milliseconds (Times thousandths) = thousandths_of setup thousandths milliseconds
length_for setup milliseconds Infinite = 0

abbrev pub length_of : Setup → Anim → ℕ
length_of setup anim = length_for setup anim.duration anim.count

-- the moment from the start on at which it has; a paused one has at once
abbrev pub settled_time_of : Setup → Anim → ℕ
settled_time_of setup anim = if anim.paused then 0 else above_zero (delay_of setup anim +ℤ pos (length_of setup anim))
