-- How many frames have to be looked at, over some animations: those until each of them has settled, and those of one period of
-- the endless ones. Behind them all repeats. This is the project's own.
use Rattle.std.specs.Prelude.{ℕ, pos, Bool, true, false, not, ◌≡◌, ◌+◌, ◌*◌, ◌%◌, ◌≤◌, ◌==◌, ◌&&◌, ◌||◌, List, int_le, IsTrue, All, filter, flat_map, if◌then◌else◌}
use Rattle.page_model.specs.declared.setup.Setup.{Setup}
use Rattle.page_model.specs.declared.animation.Anim.{Anim}
use Rattle.page_model.specs.declared.animation.Count.{Count}
use Rattle.page_model.specs.declared.animation.Count.TheVariants.{Times, Infinite}
use Rattle.page_model.specs.declared.animation.Direction.{Direction}
use Rattle.page_model.specs.declared.animation.Direction.TheVariants.{Normal, Reverse, Alternate, AlternateReverse}
use Rattle.page_model.specs.declared.scene.Layer.{Layer}
use Rattle.page_model.specs.declared.scene.Scene.{Scene}
use Rattle.page_model.specs.Least.{IsLeast}
use Rattle.page_model.specs.Progress.{has_come, delay_of, duration_of, after_from}
use Rattle.page_model.specs.Time.{time_of, window_of}

abbrev pub is_infinite : Count → Bool
is_infinite (Times thousandths) = false
is_infinite Infinite = true

-- an animation runs for ever: it isn't paused, and has infinitely many iterations that take time
abbrev pub is_endless : Anim → Bool
is_endless anim = not anim.paused && (is_infinite anim.count && not (anim.duration == 0))

-- an animation has settled by a frame: an endless one has begun, a paused one never stirs, each other one is over
abbrev pub has_settled : Setup → Anim → ℕ → Bool
has_settled setup anim frame =
    if is_endless anim then int_le (delay_of setup anim) (pos (time_of setup frame))
    else anim.paused || has_come (pos (time_of setup frame)) (after_from setup anim)

-- the least frame by which all have settled
abbrev pub IsSettled : Setup → List Anim → ℕ → Type 0
IsSettled setup anims settled = IsLeast (λ frame. All (λ anim. IsTrue (has_settled setup anim frame)) anims) settled

-- whether every other iteration runs the other way
abbrev pub turns_round : Direction → Bool
turns_round Normal = false
turns_round Reverse = false
turns_round Alternate = true
turns_round AlternateReverse = true

-- the time after which an endless animation does the same again: its duration, or twice its duration where it turns round
abbrev pub cycle_of : Setup → Anim → ℕ
cycle_of setup anim = if turns_round anim.direction then 2 * duration_of setup anim else duration_of setup anim

-- so many frames, at least one, are a whole number of cycles of an animation
pub record IsWholeCycles (setup : Setup) (anim : Anim) (frames : ℕ) : Type 0 where
  pub some : 1 ≤ frames
  pub whole : time_of setup frames % cycle_of setup anim ≡ 0

-- an endless animation's term of the period is the least such number
abbrev pub IsTerm : Setup → Anim → ℕ → Type 0
IsTerm setup anim term = IsLeast (IsWholeCycles setup anim) term

-- so many frames, at least one, are a whole number of cycles of each of these endless animations
pub record AreWholeCycles (setup : Setup) (anims : List Anim) (frames : ℕ) : Type 0 where
  pub some : 1 ≤ frames
  pub whole : All (λ anim. time_of setup frames % cycle_of setup anim ≡ 0) (filter is_endless anims)

-- the period is the least such number: 1 where no animation is endless
abbrev pub IsPeriod : Setup → List Anim → ℕ → Type 0
IsPeriod setup anims period = IsLeast (AreWholeCycles setup anims) period

-- the settled frame and the period of some animations
pub record IsHorizon (setup : Setup) (anims : List Anim) (settled period : ℕ) : Type 0 where
  pub settled_is : IsSettled setup anims settled
  pub period_is : IsPeriod setup anims period

-- so many windows have to be looked at: those that start before the settled frame, and those of one period from there on
pub record IsNeeded (setup : Setup) (anims : List Anim) (needed : ℕ) : Type 0 where
  pub settled : ℕ
  pub period : ℕ
  pub horizon : IsHorizon setup anims settled period
  pub needed_is : needed ≡ settled + period

-- and so many frames: one more than any of those windows needs
abbrev pub frames_for : Setup → ℕ → ℕ
frames_for setup needed = needed + window_of setup + 1

-- the animations of some layers, and of a whole scene
abbrev pub animations_of : List Layer → List Anim
animations_of layers = flat_map (λ (layer : Layer). layer.anims) layers

abbrev pub all_animations : Scene → List Anim
all_animations scene = animations_of scene.layers
