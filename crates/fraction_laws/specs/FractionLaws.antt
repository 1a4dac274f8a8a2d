-- A progress, and a distance between two keyframes, is a number from 0 to 1: so it has a positive denominator, whatever the scene.
use Rattle.std.specs.Prelude.{ℕ, ◌≡◌, ◌*◌, ◌<◌, ◌≤◌, List, Some}
use Rattle.page_model.specs.declared.setup.Setup.{Setup}
use Rattle.page_model.specs.declared.animation.Anim.{Anim}
use Rattle.page_model.specs.declared.easing.Easing.{Easing}
use Rattle.page_model.specs.declared.easing.Jump.{Jump}
use Rattle.page_model.specs.declared.keyframe.Keyframe.{Keyframe}
use Rattle.page_model.specs.declared.keyframe.KeyframeSet.{KeyframeSet}
use Rattle.page_model.specs.declared.property.Prop.{Prop}
use Rattle.page_model.specs.declared.property.Value.{Value}
use Rattle.page_model.specs.Curve.{stepped}
use Rattle.page_model.specs.Fraction.{Fraction}
use Rattle.page_model.specs.Keyframes.{Interval, interval_of}
use Rattle.page_model.specs.Progress.{progress_of}
use Rattle.page_model.specs.ValidScene.{AreSteps, IsAnimation, IsSet}

-- a number from 0 to 1
pub record IsPart (x : Fraction) : Type 0 where
  pub positive : 0 < x.den
  pub at_most_one : x.num ≤ x.den

abbrev pub ProgressIsPart : Type 0
ProgressIsPart = (setup : Setup) (anim : Anim) (frame : ℕ) (x : Fraction) → progress_of setup anim frame ≡ Some x → IsPart x

-- keyframes in any order: the one that is reached is always before the one that isn't
abbrev pub DistanceIsPart : Type 0
DistanceIsPart =
    (frames : List Keyframe) (prop : Prop) (own : Value) (easing : Easing) (at : Fraction) (interval : Interval) → IsPart at
    → interval_of frames prop own easing at ≡ Some interval → IsPart interval.distance

-- the output of steps that a valid scene has
abbrev pub SteppedIsPart : Type 0
SteppedIsPart = (count : ℕ) (jump : Jump) (at : Fraction) → AreSteps count jump → IsPart (stepped count jump at)

-- for a scene in its limits, at a rate of up to 240,000 frames in 1 or 1,001 seconds, a progress has a denominator of at most 24,000,000,000
abbrev pub ProgressIsSmall : Type 0
ProgressIsSmall =
    (setup : Setup) (sets : ℕ) (anim : Anim) (frame : ℕ) (x : Fraction) → setup.num ≤ 240000 → IsAnimation sets anim
    → progress_of setup anim frame ≡ Some x → x.den ≤ 24000000000

-- and a distance one of at most 10,000 times the progress's
abbrev pub DistanceIsSmall : Type 0
DistanceIsSmall =
    (set : KeyframeSet) (prop : Prop) (own : Value) (easing : Easing) (at : Fraction) (interval : Interval) → IsSet set
    → interval_of set.frames prop own easing at ≡ Some interval → interval.distance.den ≤ 10000 * at.den
