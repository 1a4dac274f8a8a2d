-- Parts that may lie outside, or share pixels, can have more pixels than the rectangle.
use Rattle.std.specs.Prelude.{◌*◌, ◌≤◌, sum_by}
use Rattle.page_model.specs.declared.setup.Setup.{Setup}
use Rattle.page_model.specs.declared.witness.Part.{Part}
use Rattle.page_model.specs.declared.witness.Witness.{Witness}
use Rattle.page_model.specs.WitnessConditions.{PartsApart, PartsInside}

-- parts that meet a condition have at most the rectangle's pixels
abbrev pub FitBy : (Setup → Witness → Type 0) → Type 0
FitBy Condition =
    (setup : Setup) (w : Witness) → Condition setup w
    → sum_by (λ (part : Part). part.width * part.height) w.parts ≤ 341 * 256

-- that holds by neither condition alone
pub record OneConditionBreaks : Type 0 where
  pub inside : FitBy PartsInside → ⊥
  pub apart : FitBy (λ (setup : Setup) (w : Witness). PartsApart w) → ⊥
