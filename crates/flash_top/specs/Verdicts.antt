-- The cause of each answer to the bytes of a page, and of a witness: the headline speaks of scenes, judgements and witnesses.
use Rattle.std.specs.Prelude.{ℕ, ◌≡◌, ◌<◌, ◌≤◌, ◌⊎◌, false, List, length, ⊤}
use Rattle.page_model.specs.Colour.{IsBadWindow, painted as painted_by}
use Rattle.page_model.specs.Enclosure.{LooseState}
use Rattle.page_model.specs.LayerAt.{State}
use Rattle.page_model.specs.TintOf.{single, tint_of}
use Rattle.page_model.specs.Viewing.{Viewing}
use Rattle.page_model.specs.declared.colour.Tint.{Tint}
use Rattle.page_model.specs.declared.scene.Scene.{Scene}
use Rattle.page_model.specs.declared.witness.Witness.{Witness}
use Rattle.flash_laws.specs.SureLaws.{IsOf}
use Rattle.frame_state.specs.Scenes.{is_cubic}
use Rattle.frame_state.specs.States.{AreOwn}
use Rattle.paint_blend.specs.Paint.{AreStates}
use Rattle.page_judge.specs.Judgement.{IsEnclosed, IsFail, IsPassBy, IsPastFrames, IsPastWork}
use Rattle.witness_laws.specs.Acceptance.{IsAccepted}
use Rattle.witness_checks.specs.Faults.{IsFirstFault}
use Rattle.witness_text.specs.WitnessForm.{IsTextOf}
use Rattle.flash_top.specs.Refusals.{IsLoadedAs, IsRefusal}
use Rattle.flash_words.specs.Words.{Spot}
use Rattle.flash_top.specs.declared.outcome.Outcome.{Outcome}
use Rattle.flash_top.specs.declared.outcome.Outcome.TheVariants.{WordsRefused, ReadFault, Refused, Pass, Fail, TooManyFrames, TooMuchWork, Enclosed, NoWitness, Unaccepted, Accepted, Painted, Lit, Shown, NoMemory}

-- the bytes are a page, and of its scene something holds
pub record IsPageOf (bytes : List ℕ) (Holds : Scene → Type 0) : Type 0 where
  pub scene : Scene
  pub loaded : IsLoadedAs bytes scene
  pub holds : Holds scene

-- What the bytes of a page come to by `check`, and why. Pass means that no window is bad, from the first frame on for ever; fail, that
-- the witness tells the first window that is surely bad and meets all nine conditions, and that the window is bad.
abbrev pub IsVerdict : Viewing → List ℕ → Outcome → Type 0
IsVerdict setup bytes WordsRefused = ⊥
IsVerdict setup bytes ReadFault = ⊥
IsVerdict setup bytes (Refused refusal) = IsRefusal bytes refusal
IsVerdict setup bytes (Pass frames apart) = IsPageOf bytes (λ scene. IsPassBy scene setup frames apart)
IsVerdict setup bytes (Fail witness) = IsPageOf bytes (λ scene. IsFail scene setup witness)
IsVerdict setup bytes TooManyFrames = IsPageOf bytes (λ scene. IsPastFrames scene setup)
IsVerdict setup bytes (TooMuchWork cells frames) = IsPageOf bytes (λ scene. IsPastWork scene setup cells frames)
IsVerdict setup bytes (Enclosed start x y) = IsPageOf bytes (λ scene. IsEnclosed scene setup start x y)
IsVerdict setup bytes NoWitness = ⊥
IsVerdict setup bytes (Unaccepted fault) = ⊥
IsVerdict setup bytes (Accepted start area) = ⊥
IsVerdict setup bytes (Painted tint) = ⊥
IsVerdict setup bytes (Lit light) = ⊥
IsVerdict setup bytes (Shown number judgement) = ⊥
IsVerdict setup bytes NoMemory = ⊤

-- the file of a witness has at most so many bytes
abbrev pub witness_limit : ℕ
witness_limit = 67108864

-- the bytes are few enough, and the text of this witness
pub record IsWitnessFile (bytes : List ℕ) (witness : Witness) : Type 0 where
  pub short : length bytes ≤ witness_limit
  pub is_text : IsTextOf bytes witness

-- they are too many, or the text of no witness
abbrev pub IsNoWitness : List ℕ → Type 0
IsNoWitness bytes = (witness_limit < length bytes) ⊎ ((witness : Witness) → IsTextOf bytes witness → ⊥)

-- the bytes are a witness of which something holds
pub record HasWitness (bytes : List ℕ) (Holds : Witness → Type 0) : Type 0 where
  pub witness : Witness
  pub is_file : IsWitnessFile bytes witness
  pub holds : Holds witness

-- A witness with this start and this area meets all nine conditions, and its window is bad at its position.
pub record IsGoodWitness (scene : Scene) (setup : Viewing) (witness : Witness) (start area : ℕ) : Type 0 where
  pub accepted : IsAccepted scene setup witness
  pub bad : IsBadWindow scene setup witness.start witness.x witness.y
  pub start_is : start ≡ witness.start
  pub area_is : area ≡ witness.area

-- what the bytes of a page and of a witness come to by `verify`, and why
abbrev pub IsVerified : Viewing → List ℕ → List ℕ → Outcome → Type 0
IsVerified setup bytes text WordsRefused = ⊥
IsVerified setup bytes text ReadFault = ⊥
IsVerified setup bytes text (Refused refusal) = IsRefusal bytes refusal
IsVerified setup bytes text (Pass frames apart) = ⊥
IsVerified setup bytes text (Fail witness) = ⊥
IsVerified setup bytes text TooManyFrames = ⊥
IsVerified setup bytes text (TooMuchWork cells frames) = ⊥
IsVerified setup bytes text (Enclosed start x y) = ⊥
IsVerified setup bytes text NoWitness = IsPageOf bytes (λ scene. IsNoWitness text)
IsVerified setup bytes text (Unaccepted fault) = IsPageOf bytes (λ scene. HasWitness text (λ witness. IsFirstFault scene setup witness fault))
IsVerified setup bytes text (Accepted start area) = IsPageOf bytes (λ scene. HasWitness text (λ witness. IsGoodWitness scene setup witness start area))
IsVerified setup bytes text (Painted tint) = ⊥
IsVerified setup bytes text (Lit light) = ⊥
IsVerified setup bytes text (Shown number judgement) = ⊥
IsVerified setup bytes text NoMemory = ⊤

-- There are states of the layers in the frame by the own kind of enclosure, and by them, whichever, this is the pixel's tint. By the exact
-- states, whatever they are, the pixel's colour lies in it, and is both of its ends where no easing is a curve.
pub record IsPainted (scene : Scene) (setup : Viewing) (spot : Spot) (tint : Tint) : Type 0 where
  pub states : ℕ → LooseState
  pub own_states : AreOwn scene setup spot.frame states
  pub is : (states : ℕ → LooseState) → AreOwn scene setup spot.frame states → tint ≡ tint_of scene states spot.column spot.row
  pub holds : (states : ℕ → State) → AreStates scene setup spot.frame states → IsOf tint (painted_by scene states spot.column spot.row)
  pub exact : is_cubic scene ≡ false → (states : ℕ → State) → AreStates scene setup spot.frame states
      → tint ≡ single (painted_by scene states spot.column spot.row)

-- what the bytes of a page come to for the tint of a pixel, and why
abbrev pub IsTinted : Viewing → Spot → List ℕ → Outcome → Type 0
IsTinted setup spot bytes WordsRefused = ⊥
IsTinted setup spot bytes ReadFault = ⊥
IsTinted setup spot bytes (Refused refusal) = IsRefusal bytes refusal
IsTinted setup spot bytes (Pass frames apart) = ⊥
IsTinted setup spot bytes (Fail witness) = ⊥
IsTinted setup spot bytes TooManyFrames = ⊥
IsTinted setup spot bytes (TooMuchWork cells frames) = ⊥
IsTinted setup spot bytes (Enclosed start x y) = ⊥
IsTinted setup spot bytes NoWitness = ⊥
IsTinted setup spot bytes (Unaccepted fault) = ⊥
IsTinted setup spot bytes (Accepted start area) = ⊥
IsTinted setup spot bytes (Painted tint) = IsPageOf bytes (λ scene. IsPainted scene setup spot tint)
IsTinted setup spot bytes (Lit light) = ⊥
IsTinted setup spot bytes (Shown number judgement) = ⊥
IsTinted setup spot bytes NoMemory = ⊤
