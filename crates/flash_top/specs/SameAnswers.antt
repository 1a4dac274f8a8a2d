-- When two outcomes are the same answer, want of memory apart.
use Rattle.std.specs.Prelude.{ℕ, ◌≡◌, ◌⊎◌, List}
use Rattle.page_model.specs.Viewing.{Viewing}
use Rattle.page_model.specs.declared.colour.Rgb.{Rgb}
use Rattle.page_model.specs.declared.witness.Witness.{Witness}
use Rattle.page_judge.specs.Judgement.{IsSameAnswer}
use Rattle.page_judge.specs.declared.types.Judgement.{Judgement}
use Rattle.witness_checks.specs.Faults.{condition_of}
use Rattle.witness_checks.specs.declared.fault.WitnessFault.{WitnessFault}
use Rattle.flash_top.specs.Demos.{IsDemo}
use Rattle.flash_top.specs.Lighting.{IsLit}
use Rattle.flash_top.specs.Steps.{told}
use Rattle.flash_top.specs.Texts.{status_of, text_of}
use Rattle.flash_top.specs.Verdicts.{IsTinted, IsVerdict, IsVerified}
use Rattle.flash_words.specs.Words.{Spot}
use Rattle.flash_top.specs.declared.outcome.Outcome.{Outcome}
use Rattle.flash_top.specs.declared.outcome.Outcome.TheVariants.{Fail, Unaccepted, Accepted, NoMemory}

-- two outcomes are equal, or memory was refused for one of them
abbrev pub AreEqual : Outcome → Outcome → Type 0
AreEqual one other = (one ≡ NoMemory) ⊎ ((other ≡ NoMemory) ⊎ (other ≡ one))

-- they tell judgements that are the same answer: two witnesses tell the same window, position and area
pub record TellSame (one other : Outcome) : Type 0 where
  pub first : Judgement
  pub second : Judgement
  pub same : IsSameAnswer first second
  pub first_is : one ≡ told first
  pub second_is : other ≡ told second

-- they tell two faults of a witness, both of one condition
pub record TellFaults (one other : Outcome) : Type 0 where
  pub first : WitnessFault
  pub second : WitnessFault
  pub same : condition_of first ≡ condition_of second
  pub first_is : one ≡ Unaccepted first
  pub second_is : other ≡ Unaccepted second

-- the bytes of a page come to one answer by `check`
abbrev pub OneVerdict : Type 0
OneVerdict =
    (setup : Viewing) (bytes : List ℕ) (one other : Outcome) → IsVerdict setup bytes one → IsVerdict setup bytes other
    → AreEqual one other ⊎ TellSame one other

-- with those of a witness to one by `verify`; of a witness that isn't accepted both answers tell the same condition, at whatever place it fails
abbrev pub OneVerified : Type 0
OneVerified =
    (setup : Viewing) (bytes text : List ℕ) (one other : Outcome) → IsVerified setup bytes text one → IsVerified setup bytes text other
    → AreEqual one other ⊎ TellFaults one other

-- and for a pixel in a frame to one tint
abbrev pub OneTint : Type 0
OneTint =
    (setup : Viewing) (spot : Spot) (bytes : List ℕ) (one other : Outcome) → IsTinted setup spot bytes one → IsTinted setup spot bytes other
    → AreEqual one other

-- a colour comes to one answer by `light`
abbrev pub OneLight : Type 0
OneLight = (colour : Rgb) (one other : Outcome) → IsLit colour one → IsLit colour other → AreEqual one other

-- two outcomes are told by one text, with one status
pub record AreToldAlike (one other : Outcome) : Type 0 where
  pub text : text_of other ≡ text_of one
  pub status : status_of other ≡ status_of one

-- a number is told by one text by `demo`
abbrev pub OneDemo : Type 0
OneDemo =
    (setup : Viewing) (number : ℕ) (one other : Outcome) → IsDemo setup number one → IsDemo setup number other
    → (one ≡ NoMemory) ⊎ ((other ≡ NoMemory) ⊎ AreToldAlike one other)

-- `verify` accepts the line that tells a page that fails, as the file of a witness of that page at the same setup
abbrev pub ToldWitnessIsAccepted : Type 0
ToldWitnessIsAccepted =
    (setup : Viewing) (bytes : List ℕ) (witness : Witness) (outcome : Outcome) → IsVerdict setup bytes (Fail witness)
    → IsVerified setup bytes (text_of (Fail witness)) outcome → (outcome ≡ Accepted witness.start witness.area) ⊎ (outcome ≡ NoMemory)
