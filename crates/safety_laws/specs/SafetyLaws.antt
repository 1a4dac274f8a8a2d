-- Safe scenes and bad windows: which run of exact states is taken makes no difference, a scene can't be safe and bad, and a scene of
-- which no window is bad is safe. A window is bad, or not, by its own frames alone.
use Rattle.std.specs.Prelude.{ℕ, ℤ, ◌≡◌, ◌↔◌, ◌+◌, ◌≤◌}
use Rattle.page_model.specs.declared.setup.Setup.{Setup}
use Rattle.page_model.specs.declared.scene.Scene.{Scene}
use Rattle.page_model.specs.Colour.{Run, IsRunIn, IsBadWindow, IsSafeScene, painting_of}
use Rattle.page_model.specs.Flash.{Painting, IsBad, IsSafe}
use Rattle.page_model.specs.Time.{window_of}
use Rattle.page_model.specs.ValidScene.{IsValid}

-- no scene is safe that has a bad window
abbrev pub BadAndSafeExclude : Type 0
BadAndSafeExclude =
    (scene : Scene) (setup : Setup) (start : ℕ) (x y : ℤ) → IsBadWindow scene setup start x y → IsSafeScene scene setup → ⊥

-- two paintings look alike in the frames of a window
abbrev pub LookAlike : Painting → Painting → Setup → ℕ → Type 0
LookAlike one other setup start =
    (frame column row : ℕ) → start ≤ frame → frame ≤ start + window_of setup → one frame column row ≡ other frame column row

-- two runs of exact states look alike
abbrev pub RunsLookAlike : Type 0
RunsLookAlike =
    (scene : Scene) (setup : Setup) (start : ℕ) (one other : Run) → IsValid scene → IsRunIn scene setup start one
    → IsRunIn scene setup start other → LookAlike (painting_of scene one) (painting_of scene other) setup start

-- what looks alike in a window is bad there alike
abbrev pub BadByLooks : Type 0
BadByLooks =
    (one other : Painting) (setup : Setup) (start : ℕ) (x y : ℤ) → LookAlike one other setup start → IsBad one setup start x y
    → IsBad other setup start x y

-- so one run tells whether a window is bad
abbrev pub OneRunTells : Type 0
OneRunTells =
    (scene : Scene) (setup : Setup) (start : ℕ) (x y : ℤ) (run : Run) → IsValid scene → IsRunIn scene setup start run
    → (IsBad (painting_of scene run) setup start x y ↔ IsBadWindow scene setup start x y)

-- and a scene is safe exactly where no window is bad
abbrev pub SafeWhereNoneIsBad : Type 0
SafeWhereNoneIsBad =
    (scene : Scene) (setup : Setup) → IsValid scene
    → (IsSafeScene scene setup ↔ ((start : ℕ) (x y : ℤ) → IsBadWindow scene setup start x y → ⊥))

-- where a run has the exact states in all frames, the scene is safe exactly where its painting is
abbrev pub SafeByOnePainting : Type 0
SafeByOnePainting =
    (scene : Scene) (setup : Setup) (run : Run) → IsValid scene → ((start : ℕ) → IsRunIn scene setup start run)
    → (IsSafeScene scene setup ↔ IsSafe (painting_of scene run) setup)
