-- What a scene comes to at a setup: what the judge says, with a witness where it is bad.
use Rattle.std.specs.Prelude.{ℕ, ℤ, Bool, false, true, ◌≡◌, ◌≤◌, IsTrue}
use Rattle.page_model.specs.declared.scene.Scene.{Scene}
use Rattle.page_model.specs.declared.setup.Setup.{Setup}
use Rattle.page_model.specs.declared.witness.Witness.{Witness}
use Rattle.page_model.specs.Colour.{IsBadWindow, IsSafeScene}
use Rattle.page_model.specs.Enclosure.{LooseRun, own, wide}
use Rattle.page_model.specs.Horizon.{IsNeeded, all_animations, frames_for}
use Rattle.page_model.specs.TintOf.{IsLooseRunIn, tints_of}
use Rattle.page_model.specs.Window.{IsPossiblyBad, IsSurelyBad, IsSurelyFlagged}
use Rattle.enclosure_laws.specs.CauseLaws.{IsLeftOpen}
use Rattle.enclosure_laws.specs.ExactPageLaws.{IsExactPage}
use Rattle.region_split.specs.Cutting.{Edges, IsCut}
use Rattle.sweep.specs.declared.types.Reason.{Reason}
use Rattle.sweep.specs.declared.types.Reason.TheVariants as reason
use Rattle.sweep.specs.Apart.{IsPassApart}
pub use Rattle.sweep.specs.Apart.{IsPastFrames}
use Rattle.sweep.specs.Marks.{CountsFlagged}
use Rattle.sweep.specs.Verdicts.{IsFirstBad, IsPossibleMost, IsSureMost, IsTooMuch, NoneEver}
use Rattle.witness_laws.specs.Acceptance.{IsAccepted}
use Rattle.witness_text.specs.WitnessForm.{IsInForm}
use Rattle.page_judge.specs.declared.types.Judgement.{Judgement}
use Rattle.page_judge.specs.declared.types.Judgement.TheVariants.{Pass, Fail, Frames, Work, Enclosure}

-- so many windows have to be looked at, and neither they nor the cells in their frames are too many
pub record IsWithinBounds (scene : Scene) (setup : Setup) (needed : ℕ) : Type 0 where
  pub is_needed : IsNeeded setup (all_animations scene) needed
  pub few : needed ≤ 100000
  pub cuts : Edges
  pub cut : IsCut scene setup (frames_for setup needed) cuts

-- no window is bad, from the first frame on for ever, nor surely or possibly bad; it shows in so many windows
pub record IsPass (scene : Scene) (setup : Setup) (frames : ℕ) : Type 0 where
  pub bounds : IsWithinBounds scene setup frames
  pub none_surely : NoneEver (IsSurelyBad own scene setup)
  pub none_possibly : NoneEver (IsPossiblyBad own scene setup)
  pub safe : IsSafeScene scene setup

-- the same region by region, where the windows of the whole page are too many
abbrev pub IsPassBy : Scene → Setup → ℕ → Bool → Type 0
IsPassBy scene setup frames false = IsPass scene setup frames
IsPassBy scene setup frames true = IsPassApart scene setup frames

-- The witness tells the first window of all that is surely bad, and the first position where it is so most; its area is the number of
-- surely flagged pixels there. It meets all nine conditions, it is in form, so that its text reads as it, and the window is bad.
pub record IsFail (scene : Scene) (setup : Setup) (w : Witness) : Type 0 where
  pub needed : ℕ
  pub bounds : IsWithinBounds scene setup needed
  pub first : IsFirstBad (IsSurelyBad own scene setup) needed w.start w.x w.y
  pub most : IsSureMost scene setup w.start w.x w.y
  pub counts : (run : LooseRun) → IsLooseRunIn own scene setup w.start run
      → CountsFlagged (IsSurelyFlagged own (tints_of scene run) setup w.start) setup w.x w.y w.area
  pub accepted : IsAccepted scene setup w
  pub form : IsInForm w
  pub bad : IsBadWindow scene setup w.start w.x w.y

-- No window is surely bad, from the first frame on for ever, and this is the first of all that is possibly bad, at the first position
-- where it is so most. So it is by the wide kind, whose looseness is stated; and the page has a curve, or a saturated colour appears.
pub record IsEnclosed (scene : Scene) (setup : Setup) (start : ℕ) (x y : ℤ) : Type 0 where
  pub needed : ℕ
  pub bounds : IsWithinBounds scene setup needed
  pub none_surely : NoneEver (IsSurelyBad own scene setup)
  pub first : IsFirstBad (IsPossiblyBad own scene setup) needed start x y
  pub most : IsPossibleMost scene setup start x y
  pub widely : IsLeftOpen wide scene setup start x y
  pub inexact : IsExactPage scene setup → ⊥

-- cells times frames are too many
abbrev pub IsPastWork : Scene → Setup → ℕ → ℕ → Type 0
IsPastWork scene setup cells frames = IsTooMuch scene setup cells frames

-- the judgement that a reason of a sweep gives
abbrev pub judgement_for : Reason → Judgement
judgement_for reason.Frames = Frames
judgement_for (reason.Work cells frames) = Work cells frames
judgement_for (reason.Enclosure start x y) = Enclosure start x y

-- what a scene comes to, and why
abbrev pub IsJudgement : Scene → Setup → Judgement → Type 0
IsJudgement scene setup (Pass frames apart) = IsPassBy scene setup frames apart
IsJudgement scene setup (Fail w) = IsFail scene setup w
IsJudgement scene setup Frames = IsPastFrames scene setup
IsJudgement scene setup (Work cells frames) = IsPastWork scene setup cells frames
IsJudgement scene setup (Enclosure start x y) = IsEnclosed scene setup start x y

-- two witnesses tell the same window, position and area
pub record TellSame (one other : Witness) : Type 0 where
  pub start : one.start ≡ other.start
  pub x : one.x ≡ other.x
  pub y : one.y ≡ other.y
  pub area : one.area ≡ other.area

-- two answers are the same: the same cause, and the same numbers
abbrev pub IsSameAnswer : Judgement → Judgement → Type 0
IsSameAnswer (Pass frames apart) (Pass others also) = (frames ≡ others) × (apart ≡ also)
IsSameAnswer (Fail w) (Fail other) = TellSame w other
IsSameAnswer Frames Frames = Unit {0}
IsSameAnswer (Work cells frames) (Work other_cells others) = (cells ≡ other_cells) × (frames ≡ others)
IsSameAnswer (Enclosure start x y) (Enclosure other_start other_x other_y) = (start ≡ other_start) × (x ≡ other_x) × (y ≡ other_y)
IsSameAnswer one other = ⊥

-- a scene comes to one answer at a setup
abbrev pub OneAnswer : Type 0
OneAnswer =
    (scene : Scene) (setup : Setup) (one other : Judgement) → IsJudgement scene setup one → IsJudgement scene setup other
    → IsSameAnswer one other

-- an answer is no pass, and no enclosure either
abbrev pub IsNoPass : Judgement → Type 0
IsNoPass (Pass frames apart) = ⊥
IsNoPass other = Unit {0}

abbrev pub IsNeitherPassNorEnclosure : Judgement → Type 0
IsNeitherPassNorEnclosure (Pass frames apart) = ⊥
IsNeitherPassNorEnclosure (Enclosure start x y) = ⊥
IsNeitherPassNorEnclosure other = Unit {0}

-- The answers exclude each other for ever: a window that is bad or possibly bad, wherever it starts, excludes a pass, and one that is
-- surely bad excludes an enclosure too.
pub record OneJudgement : Type 0 where
  pub same : OneAnswer
  pub bad : (scene : Scene) (setup : Setup) (judgement : Judgement) (start : ℕ) (x y : ℤ) → IsJudgement scene setup judgement
      → IsBadWindow scene setup start x y → IsNoPass judgement
  pub possibly : (scene : Scene) (setup : Setup) (judgement : Judgement) (start : ℕ) (x y : ℤ) → IsJudgement scene setup judgement
      → IsPossiblyBad own scene setup start x y → IsNoPass judgement
  pub surely : (scene : Scene) (setup : Setup) (judgement : Judgement) (start : ℕ) (x y : ℤ) → IsJudgement scene setup judgement
      → IsSurelyBad own scene setup start x y → IsNeitherPassNorEnclosure judgement
