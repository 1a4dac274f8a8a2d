-- Small pages and animations of which values are told, and how a told value is compared.
use Rattle.std.specs.Prelude.{ℕ, ℤ, true, false, Option, Some, None}
use Rattle.page_model.specs.declared.setup.Setup.{Setup}
use Rattle.page_model.specs.declared.animation.Anim.{Anim}
use Rattle.page_model.specs.declared.animation.Count.{Count}
use Rattle.page_model.specs.declared.animation.Direction.{Direction}
use Rattle.page_model.specs.declared.animation.Fill.{Fill}
use Rattle.page_model.specs.declared.colour.Rgb.{Rgb}
use Rattle.page_model.specs.declared.easing.Easing.TheVariants.{Linear}
use Rattle.page_model.specs.Fraction.{Fraction, SameNumber}

-- the usual viewport at a rate
abbrev pub at_rate : ℕ → Setup
at_rate rate = record { width = 1024; height = 768; num = rate; den = 1 }

-- and at a rate over 1,001
abbrev pub over_1001 : ℕ → Setup
over_1001 num = record { width = 1024; height = 768; num = num; den = 1001 }

-- a linear animation that runs: its duration and delay in milliseconds, its count, direction and fill
abbrev pub animation : ℕ → ℤ → Count → Direction → Fill → Anim
animation duration delay count direction fill = record {
  set = 0;
  duration = duration;
  delay = delay;
  count = count;
  direction = direction;
  fill = fill;
  easing = Linear;
  paused = false;
}

-- the same animation, paused
abbrev pub paused : Anim → Anim
paused anim = record anim { paused = true }

-- num / den, as it is told
abbrev pub fraction : ℕ → ℕ → Fraction
fraction num den = record { num = num; den = den }

-- a progress is the number that is told
abbrev pub Is : Option Fraction → Fraction → Type 0
Is None told = ⊥
Is (Some x) told = SameNumber x told

-- a colour by its channels, and a grey
abbrev pub rgb : ℕ → ℕ → ℕ → Rgb
rgb r g b = record { r = r; g = g; b = b }

abbrev pub grey : ℕ → Rgb
grey level = rgb level level level
