-- A tint holds each colour that is painted by states that its loose states hold: of the wide kind, by each run of exact states.
use Rattle.std.specs.Prelude.{ℕ, pos, ◌+◌, ◌<◌, ◌≤◌, ◌≤ℤ◌, length}
use Rattle.page_model.specs.declared.colour.Rgb.{Rgb}
use Rattle.page_model.specs.declared.colour.Tint.{Tint}
use Rattle.page_model.specs.declared.scene.Scene.{Scene}
use Rattle.page_model.specs.declared.setup.Setup.{Setup}
use Rattle.page_model.specs.Colour.{IsRunIn, Run, painted, painting_of}
use Rattle.page_model.specs.Enclosure.{LooseRun, LooseState, wide}
use Rattle.page_model.specs.LayerAt.{State}
use Rattle.page_model.specs.Time.{window_of}
use Rattle.page_model.specs.TintOf.{IsLooseRunIn, Span, blue_span, green_span, red_span, tint_of, tints_of}
use Rattle.page_model.specs.ValidScene.{IsValid}
use Rattle.wide_laws.specs.LooseLaws.{HoldsState}

-- a channel lies between the least and the greatest
pub record IsInSpan (span : Span) (n : ℕ) : Type 0 where
  pub least : span.lo ≤ n
  pub greatest : n ≤ span.hi

-- and so does each channel of a colour
pub record IsInTint (tint : Tint) (c : Rgb) : Type 0 where
  pub red : IsInSpan (red_span tint) c.r
  pub green : IsInSpan (green_span tint) c.g
  pub blue : IsInSpan (blue_span tint) c.b

-- a loose state holds a state, and has neither cover nor alpha above 255
pub record IsHeld (loose : LooseState) (state : State) : Type 0 where
  pub holds : HoldsState loose state
  pub cover : loose.cover.hi ≤ℤ pos 255
  pub alpha : loose.alpha.hi ≤ℤ pos 255

-- whatever loose states hold the states: the tint holds the pixel's colour
abbrev pub TintHoldsColour : Type 0
TintHoldsColour =
    (scene : Scene) (loose : ℕ → LooseState) (states : ℕ → State) (column row : ℕ) → IsValid scene
    → ((number : ℕ) → number < length scene.layers → IsHeld (loose number) (states number))
    → IsInTint (tint_of scene loose column row) (painted scene states column row)

-- so does the tint of the wide kind, in each frame of a window
abbrev pub WideTintHoldsColour : Type 0
WideTintHoldsColour =
    (scene : Scene) (setup : Setup) (start : ℕ) (loose : LooseRun) (run : Run) (frame column row : ℕ) → IsValid scene
    → IsLooseRunIn wide scene setup start loose → IsRunIn scene setup start run → start ≤ frame → frame ≤ start + window_of setup
    → IsInTint (tints_of scene loose frame column row) (painting_of scene run frame column row)
