-- What a witness shows.
use Rattle.std.specs.Prelude.{ℕ, ◌*◌, ◌≤◌, sum_by}
use Rattle.page_model.specs.declared.colour.Tint.{Tint}
use Rattle.page_model.specs.declared.scene.Scene.{Scene}
use Rattle.page_model.specs.declared.setup.Setup.{Setup}
use Rattle.page_model.specs.declared.witness.Part.{Part}
use Rattle.page_model.specs.declared.witness.Witness.{Witness}
use Rattle.page_model.specs.Colour.{IsBadWindow}
use Rattle.page_model.specs.Enclosure.{own}
use Rattle.page_model.specs.Flash.{HasManyFlagged}
use Rattle.page_model.specs.ValidScene.{IsValid}
use Rattle.page_model.specs.Window.{IsSurelyFlagged}
use Rattle.page_model.specs.WitnessConditions.{IsWitness, PartsApart, PartsInside}
use Rattle.witness_laws.specs.Acceptance.{IsAccepted}

-- parts that lie in the rectangle and share no pixel have at most its pixels
abbrev pub PartsFitTheRectangle : Type 0
PartsFitTheRectangle =
    (setup : Setup) (w : Witness) → PartsInside setup w → PartsApart w
    → sum_by (λ (part : Part). part.width * part.height) w.parts ≤ 341 * 256

-- whatever the tints are: where all nine conditions hold, the window is surely bad at the stated position
abbrev pub WitnessesFlash : Type 0
WitnessesFlash =
    (setup : Setup) (tint_at : ℕ → ℕ → ℕ → Tint) (w : Witness) → IsWitness setup tint_at w
    → HasManyFlagged (IsSurelyFlagged own tint_at setup w.start) setup w.x w.y

-- the window of a witness that is accepted is bad at the stated position
abbrev pub AcceptedIsBad : Type 0
AcceptedIsBad = (scene : Scene) (setup : Setup) (w : Witness) → IsValid scene → IsAccepted scene setup w → IsBadWindow scene setup w.start w.x w.y
