-- A wrong definition of a run, of which there is none in an example: what is said of all its runs would be empty talk.
use Rattle.std.specs.Prelude.{ℕ, ℤ, pos, neg_ℤ, false, ◌≡◌, ◌+◌, ◌≤◌, ◌≤ℤ◌, ◌<ℤ◌, ◌+ℤ◌, Some, slice_get}
use Rattle.page_model.specs.declared.setup.Setup.{Setup}
use Rattle.page_model.specs.declared.animation.Anim.{Anim}
use Rattle.page_model.specs.declared.animation.Count.TheVariants.{Infinite}
use Rattle.page_model.specs.declared.animation.Direction.TheVariants.{Normal}
use Rattle.page_model.specs.declared.animation.Fill.TheVariants.{Absent}
use Rattle.page_model.specs.declared.easing.Easing.{Easing}
use Rattle.page_model.specs.declared.easing.Easing.TheVariants.{Cubic}
use Rattle.page_model.specs.declared.property.Prop.TheVariants.{Background}
use Rattle.page_model.specs.declared.scene.Layer.{Layer}
use Rattle.page_model.specs.declared.scene.Scene.{Scene}
use Rattle.page_model.specs.LayerAt.{Course, still, moving, course_of, cover_of, no_colour}
use Rattle.page_model.specs.Slot.{Slot, RoundsTo, cover}
use Rattle.page_model.specs.Time.{window_of}
use Rattle.page_model.specs.ValidScene.{IsValid}
use Rattle.state_laws.specs.ExamplePage.{page_of}

-- wrong: the greatest number that is reached, in the range, with no word of the least of it
pub record IsReachedIn (slot : Slot) (Holds : ℤ → Type 0) (v : ℤ) : Type 0 where
  pub at_least : slot.least ≤ℤ v
  pub at_most : v ≤ℤ slot.greatest
  pub reached : Holds v
  pub greatest : v <ℤ slot.greatest → Holds (v +ℤ pos 1) → ⊥

-- the cover of a layer, by such a slot
abbrev pub IsCoverOn : Course → ℤ → Type 0
IsCoverOn (still x) v = v ≡ cover_of x
IsCoverOn (moving i) v = IsReachedIn cover (RoundsTo cover i.easing i.distance (cover_of i.from) (cover_of i.to)) v

-- a run of such covers: of each frame and each layer, by number
abbrev pub IsCoverRunIn : Scene → Setup → ℕ → (ℕ → ℕ → ℤ) → Type 0
IsCoverRunIn scene setup start run =
    (frame number : ℕ) (layer : Layer) → start ≤ frame → frame ≤ start + window_of setup
    → slice_get scene.layers number ≡ Some layer → IsCoverOn (course_of scene setup frame layer Background) (run frame number)

-- a curve that goes far below 0 before it rises
abbrev pub diving : Easing
diving = Cubic 500 (neg_ℤ (pos 4000)) 500 (neg_ℤ (pos 4000))

-- from transparent to white in two seconds, for ever
abbrev pub dives : Anim
dives = record {
  set = 0;
  duration = 2000;
  delay = pos 0;
  count = Infinite;
  direction = Normal;
  fill = Absent;
  easing = diving;
  paused = false;
}

abbrev pub diving_page : Scene
diving_page = page_of no_colour dives 10000

abbrev pub one_a_second : Setup
one_a_second = record { width = 1; height = 1; num = 1; den = 1 }

-- the page is a valid scene, and after a second it has no such cover: so its first window has no run
pub record CoverRunBreaks : Type 0 where
  pub valid : IsValid diving_page
  pub empty : (run : ℕ → ℕ → ℤ) → IsCoverRunIn diving_page one_a_second 0 run → ⊥
