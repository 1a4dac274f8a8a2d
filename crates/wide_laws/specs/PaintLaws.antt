-- What is painted is a colour: each channel is from 0 to 255. And what blending does at its ends.
use Rattle.std.specs.Prelude.{ℕ, ◌≡◌, ◌+◌, ◌≤◌}
use Rattle.page_model.specs.declared.setup.Setup.{Setup}
use Rattle.page_model.specs.declared.colour.Rgb.{Rgb}
use Rattle.page_model.specs.declared.scene.Scene.{Scene}
use Rattle.page_model.specs.Colour.{Run, IsRunIn, blended, painting_of}
use Rattle.page_model.specs.Time.{window_of}
use Rattle.page_model.specs.ValidScene.{IsValid}

-- the colour of a pixel has channels from 0 to 255
pub record IsPixel (c : Rgb) : Type 0 where
  pub red : c.r ≤ 255
  pub green : c.g ≤ 255
  pub blue : c.b ≤ 255

-- a pixel of a run of exact states has such a colour
abbrev pub PixelIsColour : Type 0
PixelIsColour =
    (scene : Scene) (setup : Setup) (start : ℕ) (run : Run) (frame column row : ℕ) → IsValid scene → IsRunIn scene setup start run
    → start ≤ frame → frame ≤ start + window_of setup → IsPixel (painting_of scene run frame column row)

-- alpha 255 gives the source, alpha 0 the backdrop, and a channel over itself stays as it is
pub record BlendEnds : Type 0 where
  pub opaque : (source backdrop : ℕ) → blended source 255 backdrop ≡ source
  pub clear : (source backdrop : ℕ) → blended source 0 backdrop ≡ backdrop
  pub same : (channel alpha : ℕ) → alpha ≤ 255 → blended channel alpha channel ≡ channel

-- blending doesn't fall where source and backdrop don't
abbrev pub BlendGrows : Type 0
BlendGrows =
    (source more alpha backdrop above : ℕ) → source ≤ more → backdrop ≤ above
    → blended source alpha backdrop ≤ blended more alpha above
