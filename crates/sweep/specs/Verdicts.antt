-- The verdict of a scene, of all its windows, by the tints of the own kind of enclosure; the first window of a sort
-- is one of those that have to be looked at. It is told by its start and by the position where the rectangle holds
-- the most flagged pixels.
use Rattle.std.specs.Prelude.{ℕ, ℤ, Bool, false, true, ◌≡◌, ◌<◌, ◌≤◌, [], ◌∷◌, Result, Ok, Err}
use Rattle.page_model.specs.declared.setup.Setup.{Setup}
use Rattle.page_model.specs.declared.scene.Scene.{Scene}
use Rattle.page_model.specs.Cells.{cells_between}
use Rattle.page_model.specs.Colour.{IsSafeScene}
use Rattle.page_model.specs.Enclosure.{LooseRun, own}
use Rattle.page_model.specs.Horizon.{IsNeeded, all_animations, frames_for}
use Rattle.page_model.specs.TintOf.{IsLooseRunIn, tints_of}
use Rattle.page_model.specs.ValidScene.{IsValid}
use Rattle.page_model.specs.Window.{IsPossiblyBad, IsPossiblyFlagged, IsSurelyBad, IsSurelyFlagged}
use Rattle.period_frames.specs.Needed.{AreEnough}
pub use Rattle.period_frames.specs.Needed.{NoneEver, NoneIn}
use Rattle.region_split.specs.Cutting.{Edges, IsCut, IsWork}
use Rattle.sweep.specs.declared.types.Reason.TheVariants as reason
use Rattle.sweep.specs.declared.types.Verdict.{Verdict}
use Rattle.sweep.specs.declared.types.Verdict.TheVariants.{Pass, Fail, Undecided}
use Rattle.sweep.specs.declared.types.OpenFault.{OpenFault}
use Rattle.sweep.specs.declared.types.OpenFault.TheVariants as fault
use Rattle.sweep.specs.Apart.{IsPassApart, IsPastFrames}
use Rattle.sweep.specs.Marks.{IsFirstMost}

-- a window is bad at a position, and none before it is bad anywhere
pub record IsFirstBad (Bad : ℕ → ℤ → ℤ → Type 0) (end start : ℕ) (x y : ℤ) : Type 0 where
  pub before : start < end
  pub bad : Bad start x y
  pub least : NoneIn Bad start

-- with the states of the own kind, whatever they are, the position is the first of those with the most flagged pixels
abbrev pub IsSureMost : Scene → Setup → ℕ → ℤ → ℤ → Type 0
IsSureMost scene setup start x y =
    (run : LooseRun) → IsLooseRunIn own scene setup start run
    → IsFirstMost (IsSurelyFlagged own (tints_of scene run) setup start) setup x y

abbrev pub IsPossibleMost : Scene → Setup → ℕ → ℤ → ℤ → Type 0
IsPossibleMost scene setup start x y =
    (run : LooseRun) → IsLooseRunIn own scene setup start run
    → IsFirstMost (IsPossiblyFlagged own (tints_of scene run) setup start) setup x y

-- The first window that is surely bad fails a scene. Where none is, wherever it starts, the first that is possibly
-- bad leaves it undecided. Else it passes.
pub record IsPass (scene : Scene) (setup : Setup) (needed frames : ℕ) : Type 0 where
  pub frames_are : frames ≡ needed
  pub none_surely : NoneEver (IsSurelyBad own scene setup)
  pub none_possibly : NoneEver (IsPossiblyBad own scene setup)
  pub safe : IsSafeScene scene setup

pub record IsFail (scene : Scene) (setup : Setup) (needed start : ℕ) (x y : ℤ) : Type 0 where
  pub first : IsFirstBad (IsSurelyBad own scene setup) needed start x y
  pub most : IsSureMost scene setup start x y

pub record IsUndecided (scene : Scene) (setup : Setup) (needed start : ℕ) (x y : ℤ) : Type 0 where
  pub none_surely : NoneEver (IsSurelyBad own scene setup)
  pub first : IsFirstBad (IsPossiblyBad own scene setup) needed start x y
  pub most : IsPossibleMost scene setup start x y

abbrev pub IsVerdict : Scene → Setup → ℕ → Verdict → Type 0
IsVerdict scene setup needed (Pass frames apart) = IsPass scene setup needed frames × (apart ≡ false)
IsVerdict scene setup needed (Fail window) = IsFail scene setup needed window.start window.x window.y
IsVerdict scene setup needed (Undecided reason.Frames) = ⊥
IsVerdict scene setup needed (Undecided (reason.Work cells frames)) = ⊥
IsVerdict scene setup needed (Undecided (reason.Enclosure start x y)) = IsUndecided scene setup needed start x y

-- where the regions were judged by themselves, they pass
pub record IsVerdictApart (scene : Scene) (setup : Setup) (needed frames : ℕ) : Type 0 where
  pub frames_are : frames ≡ needed
  pub passes : IsPassApart scene setup frames

abbrev pub IsPassApartOnly : Scene → Setup → ℕ → Verdict → Type 0
IsPassApartOnly scene setup needed (Pass frames apart) = IsVerdictApart scene setup needed frames × (apart ≡ true)
IsPassApartOnly scene setup needed other = ⊥

-- the verdict of the whole page, or of its regions
abbrev pub IsVerdictBy : Scene → Setup → ℕ → Bool → Verdict → Type 0
IsVerdictBy scene setup needed false verdict = IsVerdict scene setup needed verdict
IsVerdictBy scene setup needed true verdict = IsPassApartOnly scene setup needed verdict

-- a scene that can be judged at a setup: its edges, how many windows have to be looked at, how many rows are there
-- for its cells and how many of them are free, and whether its regions were judged by themselves
pub record Judged : Type 0 where
  pub scene : Scene
  pub setup : Setup
  pub cuts : Edges
  pub needed : ℕ
  pub rows : ℕ
  pub free : ℕ
  pub apart : Bool

-- one pass can be made over it: there is a row for each of its cells
pub record IsReadyWhole (judged : Judged) : Type 0 where
  pub is_needed : IsNeeded judged.setup (all_animations judged.scene) judged.needed
  pub few : judged.needed ≤ 100000
  pub for_ever : AreEnough judged.scene judged.setup judged.needed
  pub cut : IsCut judged.scene judged.setup (frames_for judged.setup judged.needed) judged.cuts
  pub rows_are : judged.rows ≡ cells_between judged.cuts.xs judged.cuts.ys

-- or its regions were judged by themselves, and pass: then there is one cell, and no row
pub record IsReadyApart (judged : Judged) : Type 0 where
  pub passes : IsPassApart judged.scene judged.setup judged.needed
  pub columns : judged.cuts.xs ≡ 0 ∷ judged.setup.width ∷ []
  pub rows : judged.cuts.ys ≡ 0 ∷ judged.setup.height ∷ []
  pub none : judged.rows ≡ 0

abbrev pub IsReadyBy : Bool → Judged → Type 0
IsReadyBy false judged = IsReadyWhole judged
IsReadyBy true judged = IsReadyApart judged

-- no row is out
pub record IsReady (judged : Judged) : Type 0 where
  pub valid : IsValid judged.scene
  pub free : judged.rows ≡ judged.free
  pub by : IsReadyBy judged.apart judged

-- a scene is opened as it was handed in
pub record IsOpened (scene : Scene) (setup : Setup) (judged : Judged) : Type 0 where
  pub scene_is : judged.scene ≡ scene
  pub setup_is : judged.setup ≡ setup
  pub ready : IsReady judged

-- cells times frames are too many
pub record IsTooMuch (scene : Scene) (setup : Setup) (cells frames : ℕ) : Type 0 where
  pub needed : ℕ
  pub is_needed : IsNeeded setup (all_animations scene) needed
  pub few : needed ≤ 100000
  pub frames_are : frames ≡ frames_for setup needed
  pub work : IsWork scene setup frames cells

abbrev pub IsOpening : Scene → Setup → Result Judged OpenFault → Type 0
IsOpening scene setup (Ok judged) = IsOpened scene setup judged
IsOpening scene setup (Err fault.Frames) = IsPastFrames scene setup
IsOpening scene setup (Err (fault.Work cells frames)) = IsTooMuch scene setup cells frames
IsOpening scene setup (Err fault.NoMemory) = Unit {0}
