-- Why a witness is not accepted: the first of the nine conditions that fails, and the first place where it fails. Each condition is
-- tested over all parts before the next one.
use Rattle.std.specs.Prelude.{ℕ, ◌≡◌, ◌⊎◌, ◌+◌, ◌*◌, ◌<◌, ◌≤◌, All, List, slice_get, Some, sum_by, take}
use Rattle.std.specs.List.Sorted.{IsStrictlyIncreasing}
use Rattle.page_model.specs.declared.colour.Tint.{Tint}
use Rattle.page_model.specs.declared.scene.Scene.{Scene}
use Rattle.page_model.specs.declared.setup.Setup.{Setup}
use Rattle.page_model.specs.declared.witness.Kind.{Kind}
use Rattle.page_model.specs.declared.witness.Part.{Part}
use Rattle.page_model.specs.declared.witness.Witness.{Witness}
use Rattle.page_model.specs.Enclosure.{LooseRun, own}
use Rattle.page_model.specs.Time.{window_of}
use Rattle.page_model.specs.TintOf.{IsLooseRunIn, tints_of}
use Rattle.page_model.specs.WitnessConditions.{AlternatesSurely, FramesRise, FramesWithin, HasArea, HasEnough, HasSetup, HasTints, IsOfPart, LiesInside, PartsApart, PartsInside, TintsHold}
use Rattle.witness_checks.specs.declared.fault.WitnessFault.{WitnessFault}
use Rattle.witness_checks.specs.declared.fault.WitnessFault.TheVariants.{OtherSetup, PartOutside, PartsOverlap, WrongArea, SmallArea, FramesOrder, FramesOutside, WrongTint, NotChange}

-- a part is the first of which something doesn't hold
pub record IsFirstPart (Holds : Part → Type 0) (parts : List Part) (number : ℕ) : Type 0 where
  pub part : Part
  pub there : slice_get parts number ≡ Some part
  pub broken : Holds part → ⊥
  pub before : (k : ℕ) (other : Part) → k < number → slice_get parts k ≡ Some other → Holds other

-- two parts share a pixel
pub record ShareAPixel (one other : Part) : Type 0 where
  pub column : ℕ
  pub row : ℕ
  pub in_one : IsOfPart one column row
  pub in_other : IsOfPart other column row

-- Two parts share a pixel, and no pair before them does: none whose first one comes earlier, nor one with the same first one and an
-- earlier second one.
pub record IsFirstOverlap (parts : List Part) (first second : ℕ) : Type 0 where
  pub one : Part
  pub other : Part
  pub rising : first < second
  pub at_first : slice_get parts first ≡ Some one
  pub at_second : slice_get parts second ≡ Some other
  pub shared : ShareAPixel one other
  pub before : (i j : ℕ) (a b : Part) → i < j → (i < first) ⊎ ((i ≡ first) × (j < second)) → slice_get parts i ≡ Some a
      → slice_get parts j ≡ Some b → ShareAPixel a b → ⊥

-- a part's frames rise strictly, and they lie in the window
abbrev pub Rises : Part → Type 0
Rises part = IsStrictlyIncreasing part.frames

abbrev pub LiesInWindow : Setup → Witness → Part → Type 0
LiesInWindow setup w part = All (λ k. (w.start ≤ k) × (k ≤ w.start + window_of setup)) part.frames

-- all pixels of a part have a tint in a frame
abbrev pub HaveTint : (ℕ → ℕ → ℕ → Tint) → Part → ℕ → Tint → Type 0
HaveTint tint_at part frame tint = (column row : ℕ) → IsOfPart part column row → tint_at frame column row ≡ tint

-- they have the stated tint in each turn before one
abbrev pub HaveTintsBefore : (ℕ → ℕ → ℕ → Tint) → Part → ℕ → Type 0
HaveTintsBefore tint_at part end =
    (turn frame : ℕ) (tint : Tint) → turn < end → slice_get part.frames turn ≡ Some frame → slice_get part.tints turn ≡ Some tint
    → HaveTint tint_at part frame tint

-- a pixel's tint in a turn of a part isn't the stated one, and all pixels before it have theirs: row by row, and column by column in a row
pub record IsFirstWrongPixel (tint_at : ℕ → ℕ → ℕ → Tint) (part : Part) (turn column row : ℕ) : Type 0 where
  pub frame : ℕ
  pub tint : Tint
  pub in_turn : slice_get part.frames turn ≡ Some frame
  pub stated : slice_get part.tints turn ≡ Some tint
  pub inside : IsOfPart part column row
  pub wrong : tint_at frame column row ≡ tint → ⊥
  pub before : (c r : ℕ) → IsOfPart part c r → (r < row) ⊎ ((r ≡ row) × (c < column)) → tint_at frame c r ≡ tint

-- the first pixel with a wrong tint: part by part, turn by turn, row by row, column by column
pub record IsFirstWrongTint (tint_at : ℕ → ℕ → ℕ → Tint) (parts : List Part) (number turn column row : ℕ) : Type 0 where
  pub part : Part
  pub there : slice_get parts number ≡ Some part
  pub parts_before : (k : ℕ) (other : Part) → k < number → slice_get parts k ≡ Some other → HasTints tint_at other
  pub turns_before : HaveTintsBefore tint_at part turn
  pub pixel : IsFirstWrongPixel tint_at part turn column row

-- tints change surely and in turn up to a turn, and no longer with it
pub record IsFirstUnchanged (kind : Kind) (tints : List Tint) (turn : ℕ) : Type 0 where
  pub from_one : 1 ≤ turn
  pub held : AlternatesSurely kind (take turn tints)
  pub broken : AlternatesSurely kind (take (turn + 1) tints) → ⊥

-- the first part whose tints cease to change, each by its own kind
pub record IsFirstNoChange (parts : List Part) (number turn : ℕ) : Type 0 where
  pub part : Part
  pub there : slice_get parts number ≡ Some part
  pub stops : IsFirstUnchanged part.kind part.tints turn
  pub before : (k : ℕ) (other : Part) → k < number → slice_get parts k ≡ Some other → AlternatesSurely other.kind other.tints

-- the first three conditions hold, the first five, the first seven, and the first eight
pub record IsPlaced (setup : Setup) (w : Witness) : Type 0 where
  pub same_setup : HasSetup setup w
  pub inside : PartsInside setup w
  pub apart : PartsApart w

pub record IsMeasured (setup : Setup) (w : Witness) : Type 0 where
  pub placed : IsPlaced setup w
  pub stated_area : HasArea w
  pub enough : HasEnough w

pub record IsTimed (setup : Setup) (w : Witness) : Type 0 where
  pub measured : IsMeasured setup w
  pub rise : FramesRise w
  pub within : FramesWithin setup w

-- the stated tints are those of the own kind, whatever these are
abbrev pub HoldsOwnTints : Scene → Setup → Witness → Type 0
HoldsOwnTints scene setup w = (run : LooseRun) → IsLooseRunIn own scene setup w.start run → TintsHold (tints_of scene run) w

pub record IsTinted (scene : Scene) (setup : Setup) (w : Witness) : Type 0 where
  pub timed : IsTimed setup w
  pub tints : HoldsOwnTints scene setup w

-- what a fault says beside the conditions before its own
pub record IsOutside (setup : Setup) (w : Witness) (part : ℕ) : Type 0 where
  pub same_setup : HasSetup setup w
  pub first : IsFirstPart (LiesInside setup w) w.parts part

pub record IsOverlap (setup : Setup) (w : Witness) (first second : ℕ) : Type 0 where
  pub same_setup : HasSetup setup w
  pub inside : PartsInside setup w
  pub overlap : IsFirstOverlap w.parts first second

pub record IsWrongArea (setup : Setup) (w : Witness) (stated found : ℕ) : Type 0 where
  pub placed : IsPlaced setup w
  pub stated_is : stated ≡ w.area
  pub found_is : found ≡ sum_by (λ (part : Part). part.width * part.height) w.parts
  pub differ : stated ≡ found → ⊥

pub record IsSmallArea (setup : Setup) (w : Witness) (area : ℕ) : Type 0 where
  pub placed : IsPlaced setup w
  pub stated_area : HasArea w
  pub area_is : area ≡ w.area
  pub small : area ≤ 21824

pub record IsOutOfOrder (setup : Setup) (w : Witness) (part : ℕ) : Type 0 where
  pub measured : IsMeasured setup w
  pub first : IsFirstPart Rises w.parts part

pub record IsOutOfWindow (setup : Setup) (w : Witness) (part : ℕ) : Type 0 where
  pub measured : IsMeasured setup w
  pub rise : FramesRise w
  pub first : IsFirstPart (LiesInWindow setup w) w.parts part

-- by the tints of the own kind, whatever they are
pub record IsWrongTint (scene : Scene) (setup : Setup) (w : Witness) (part turn x y : ℕ) : Type 0 where
  pub timed : IsTimed setup w
  pub first : (run : LooseRun) → IsLooseRunIn own scene setup w.start run → IsFirstWrongTint (tints_of scene run) w.parts part turn x y

pub record IsNoChange (scene : Scene) (setup : Setup) (w : Witness) (part turn : ℕ) : Type 0 where
  pub tinted : IsTinted scene setup w
  pub first : IsFirstNoChange w.parts part turn

-- a fault is told where its condition is the first that fails
abbrev pub IsFirstFault : Scene → Setup → Witness → WitnessFault → Type 0
IsFirstFault scene setup w OtherSetup = HasSetup setup w → ⊥
IsFirstFault scene setup w (PartOutside part) = IsOutside setup w part
IsFirstFault scene setup w (PartsOverlap first second) = IsOverlap setup w first second
IsFirstFault scene setup w (WrongArea stated found) = IsWrongArea setup w stated found
IsFirstFault scene setup w (SmallArea area) = IsSmallArea setup w area
IsFirstFault scene setup w (FramesOrder part) = IsOutOfOrder setup w part
IsFirstFault scene setup w (FramesOutside part) = IsOutOfWindow setup w part
IsFirstFault scene setup w (WrongTint part turn x y) = IsWrongTint scene setup w part turn x y
IsFirstFault scene setup w (NotChange part turn) = IsNoChange scene setup w part turn

-- the number of its condition
abbrev pub condition_of : WitnessFault → ℕ
condition_of OtherSetup = 1
condition_of (PartOutside part) = 2
condition_of (PartsOverlap first second) = 3
condition_of (WrongArea stated found) = 4
condition_of (SmallArea area) = 5
condition_of (FramesOrder part) = 6
condition_of (FramesOutside part) = 7
condition_of (WrongTint part turn x y) = 8
condition_of (NotChange part turn) = 9
