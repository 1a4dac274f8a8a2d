-- A wrong definition, which nothing but a law cites: the cycle of an animation is its duration, whether it turns round or not.
use Rattle.std.specs.Prelude.{ℕ}
use Rattle.page_model.specs.declared.setup.Setup.{Setup}
use Rattle.page_model.specs.declared.animation.Anim.{Anim}
use Rattle.page_model.specs.Progress.{duration_of}

abbrev pub single_cycle_of : Setup → Anim → ℕ
single_cycle_of setup anim = duration_of setup anim
