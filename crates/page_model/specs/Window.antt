-- Windows that are possibly bad, and surely bad, by the tints of a kind and its changes. What is sure by the wide kind is sure by
-- the own kind and so is bad, and what is bad is possible by the own kind and so by the wide kind. This is the project's own.
use Rattle.std.specs.Prelude.{ℕ, ℤ, ◌⊎◌}
use Rattle.page_model.specs.declared.setup.Setup.{Setup}
use Rattle.page_model.specs.declared.colour.Tint.{Tint}
use Rattle.page_model.specs.declared.scene.Scene.{Scene}
use Rattle.page_model.specs.Change.{IsPossibleRise, IsSureRise, IsPossibleFall, IsSureFall, IsPossiblyIntoRed, IsPossiblyOutOfRed, IsSurelyIntoRed, IsSurelyOutOfRed, IsPossiblyIntoRedWidely, IsPossiblyOutOfRedWidely, IsSurelyIntoRedWidely, IsSurelyOutOfRedWidely}
use Rattle.page_model.specs.Enclosure.{Kind, exact, own, wide, LooseRun}
use Rattle.page_model.specs.Flash.{HasChain, HasManyFlagged}
use Rattle.page_model.specs.Time.{window_of}
use Rattle.page_model.specs.TintOf.{IsLooseRunIn, tints_of}

-- the two changes of red that a kind takes for possible, and for sure; the exact kind has the own tests
abbrev pub PossiblyInto : Kind → Tint → Tint → Type 0
PossiblyInto exact a b = IsPossiblyIntoRed a b
PossiblyInto own a b = IsPossiblyIntoRed a b
PossiblyInto wide a b = IsPossiblyIntoRedWidely a b

abbrev pub PossiblyOut : Kind → Tint → Tint → Type 0
PossiblyOut exact a b = IsPossiblyOutOfRed a b
PossiblyOut own a b = IsPossiblyOutOfRed a b
PossiblyOut wide a b = IsPossiblyOutOfRedWidely a b

abbrev pub SurelyInto : Kind → Tint → Tint → Type 0
SurelyInto exact a b = IsSurelyIntoRed a b
SurelyInto own a b = IsSurelyIntoRed a b
SurelyInto wide a b = IsSurelyIntoRedWidely a b

abbrev pub SurelyOut : Kind → Tint → Tint → Type 0
SurelyOut exact a b = IsSurelyOutOfRed a b
SurelyOut own a b = IsSurelyOutOfRed a b
SurelyOut wide a b = IsSurelyOutOfRedWidely a b

-- the tints of a pixel, frame by frame, possibly or surely flash more than three times in the window
abbrev pub PossiblyFlashes : Kind → (ℕ → Tint) → ℕ → ℕ → Type 0
PossiblyFlashes kind tints start window =
    HasChain IsPossibleRise IsPossibleFall tints start window
    ⊎ HasChain (PossiblyInto kind) (PossiblyOut kind) tints start window

abbrev pub SurelyFlashes : Kind → (ℕ → Tint) → ℕ → ℕ → Type 0
SurelyFlashes kind tints start window =
    HasChain IsSureRise IsSureFall tints start window
    ⊎ HasChain (SurelyInto kind) (SurelyOut kind) tints start window

-- a pixel is possibly, or surely, flagged by the tints of all pixels
abbrev pub IsPossiblyFlagged : Kind → (ℕ → ℕ → ℕ → Tint) → Setup → ℕ → ℕ → ℕ → Type 0
IsPossiblyFlagged kind tints setup start column row =
    PossiblyFlashes kind (λ frame. tints frame column row) start (window_of setup)

abbrev pub IsSurelyFlagged : Kind → (ℕ → ℕ → ℕ → Tint) → Setup → ℕ → ℕ → ℕ → Type 0
IsSurelyFlagged kind tints setup start column row =
    SurelyFlashes kind (λ frame. tints frame column row) start (window_of setup)

-- by the tints of a kind, whatever they are, the window is possibly bad, or surely bad, at the position
abbrev pub IsPossiblyBad : Kind → Scene → Setup → ℕ → ℤ → ℤ → Type 0
IsPossiblyBad kind scene setup start x y =
    (run : LooseRun) → IsLooseRunIn kind scene setup start run
    → HasManyFlagged (IsPossiblyFlagged kind (tints_of scene run) setup start) setup x y

abbrev pub IsSurelyBad : Kind → Scene → Setup → ℕ → ℤ → ℤ → Type 0
IsSurelyBad kind scene setup start x y =
    (run : LooseRun) → IsLooseRunIn kind scene setup start run
    → HasManyFlagged (IsSurelyFlagged kind (tints_of scene run) setup start) setup x y
