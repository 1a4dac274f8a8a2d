-- Some scenes are safe, and some have a bad window: so neither is said of all scenes.
use Rattle.std.specs.Prelude.{pos, false, ◌≡◌, All, []}
use Rattle.page_model.specs.declared.setup.Setup.{Setup}
use Rattle.page_model.specs.declared.animation.Anim.{Anim}
use Rattle.page_model.specs.declared.animation.Count.TheVariants.{Infinite}
use Rattle.page_model.specs.declared.animation.Direction.TheVariants.{Normal}
use Rattle.page_model.specs.declared.animation.Fill.TheVariants.{Absent}
use Rattle.page_model.specs.declared.easing.Easing.TheVariants.{Linear}
use Rattle.page_model.specs.declared.scene.Layer.{Layer}
use Rattle.page_model.specs.declared.scene.Scene.{Scene}
use Rattle.page_model.specs.Colour.{IsBadWindow, IsSafeScene}
use Rattle.page_model.specs.ValidScene.{IsValid}
use Rattle.state_laws.specs.ExamplePage.{page_with}

-- a scene without animations is safe, at each setup
abbrev pub StillIsSafe : Type 0
StillIsSafe =
    (scene : Scene) (setup : Setup) → IsValid scene → All (λ (layer : Layer). layer.anims ≡ []) scene.layers
    → IsSafeScene scene setup

-- black for a tenth of a second and white for another, and so on for ever
abbrev pub blinks : Anim
blinks = record {
  set = 0;
  duration = 200;
  delay = pos 0;
  count = Infinite;
  direction = Normal;
  fill = Absent;
  easing = Linear;
  paused = false;
}

abbrev pub blinking_page : Scene
blinking_page = page_with blinks 5000

-- a viewport of the size of the rectangle, at ten frames a second
abbrev pub ten_a_second : Setup
ten_a_second = record { width = 341; height = 256; num = 10; den = 1 }

-- the page is a valid scene, and bad from the first frame on, at the upper left pixel
pub record BlinkingIsBad : Type 0 where
  pub valid : IsValid blinking_page
  pub bad : IsBadWindow blinking_page ten_a_second 0 (pos 0) (pos 0)
