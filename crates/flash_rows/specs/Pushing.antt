-- What a push into a row reckons, whatever tints the row stands for.
use Rattle.std.specs.Prelude.{ℕ, suc, ◌≡◌, ◌⊎◌, ◌+◌, ◌-◌, ◌*◌, ◌<◌, IsTrue, List, [], ◌∷◌, ◌++◌, length, min, slice_index}
use Rattle.page_model.specs.declared.colour.Tint.{Tint}
use Rattle.tint_changes.specs.declared.changes.Change.{Change}
use Rattle.tint_changes.specs.declared.changes.Change.TheVariants.{PossibleRise, PossibleFall, SureRise, SureFall, PossiblyIntoRed, PossiblyOutOfRed, SurelyIntoRed, SurelyOutOfRed}
use Rattle.flash_rows.specs.declared.latest.KindStarts.{KindStarts}
use Rattle.flash_rows.specs.declared.latest.Latest.{Latest}
use Rattle.tint_changes.specs.declared.made.Made.{Made}
use Rattle.tint_changes.specs.Counting.{Makes}
use Rattle.byte_lanes.specs.Lanes.{AreBelow, numbers_of}
use Rattle.tint_changes.specs.Made.{MadeByLight, MadeByRed}
use Rattle.flash_rows.specs.declared.bounds.Bounds.{Bounds}
use Rattle.flash_rows.specs.declared.ended.Ended.{Ended}
use Rattle.flash_rows.specs.Bounds.{AreWithin}
use Rattle.flash_rows.specs.Rows.{AreEnded, EndsWith, HasRun, StandsFor, TellsOf, byte, column_of, number_of, opposite_of, tint_in, words_at}
use Rattle.flash_rows.specs.Starts.{IsLatest}

-- of the eight numbers of a change, each is made no greater than that of a frame so many frames before, with one change more
abbrev pub Lowered : List ℕ → ℕ → ℕ → List ℕ → Type 0
Lowered best word age least =
    (n : ℕ) → n < 8 → slice_index least n ≡ min (slice_index best n) (number_of word n + age)

-- they are so where a change is made, and else they stay
abbrev pub LoweredIf : Type 0 → List ℕ → ℕ → ℕ → List ℕ → Type 0
LoweredIf Made best word age least = (Made × Lowered best word age least) ⊎ ((Made → ⊥) × (least ≡ best))

-- the numbers of the changes of one kind are so where they are made: each goes on from what its opposite ends, and their four words
-- stand side by side from a place on
pub record LoweredKind (made : Made) (row : List ℕ) (start age : ℕ) (best least : KindStarts) : Type 0 where
  pub up : LoweredIf (IsTrue made.up) (numbers_of best.up) (slice_index row (start + 1)) age (numbers_of least.up)
  pub down : LoweredIf (IsTrue made.down) (numbers_of best.down) (slice_index row start) age (numbers_of least.down)
  pub surely_up : LoweredIf (IsTrue made.surely_up) (numbers_of best.surely_up) (slice_index row (start + 3)) age (numbers_of least.surely_up)
  pub surely_down : LoweredIf (IsTrue made.surely_down) (numbers_of best.surely_down) (slice_index row (start + 2)) age (numbers_of least.surely_down)

-- they are so by the changes of luminance between the tint of the frame at a place and the next one
abbrev pub LoweredByLight : List ℕ → ℕ → Tint → ℕ → KindStarts → KindStarts → Type 0
LoweredByLight row place tint age best least =
    (made : Made) × MadeByLight (tint_in (slice_index row (9 * place))) tint made × LoweredKind made row (9 * place + 1) age best least

-- and by those of red
abbrev pub LoweredByRed : List ℕ → ℕ → Tint → ℕ → KindStarts → KindStarts → Type 0
LoweredByRed row place tint age best least =
    (made : Made) × MadeByRed (tint_in (slice_index row (9 * place))) tint made × LoweredKind made row (9 * place + 5) age best least

-- the numbers of a change among those of all
abbrev pub latest_of : Change → Latest → List ℕ
latest_of PossibleRise latest = numbers_of latest.light.up
latest_of PossibleFall latest = numbers_of latest.light.down
latest_of SureRise latest = numbers_of latest.light.surely_up
latest_of SureFall latest = numbers_of latest.light.surely_down
latest_of PossiblyIntoRed latest = numbers_of latest.red.up
latest_of PossiblyOutOfRed latest = numbers_of latest.red.down
latest_of SurelyIntoRed latest = numbers_of latest.red.surely_up
latest_of SurelyOutOfRed latest = numbers_of latest.red.surely_down

-- all numbers are of one byte
pub record AreKindSmall (starts : KindStarts) : Type 0 where
  pub up : AreBelow 256 starts.up
  pub down : AreBelow 256 starts.down
  pub surely_up : AreBelow 256 starts.surely_up
  pub surely_down : AreBelow 256 starts.surely_down

pub record AreSmall (latest : Latest) : Type 0 where
  pub light : AreKindSmall latest.light
  pub red : AreKindSmall latest.red

-- the numbers of all changes are lowered by way of the frame at a place: each change goes on from what its opposite ends
abbrev pub LoweredBy : List ℕ → ℕ → Tint → ℕ → Latest → Latest → Type 0
LoweredBy row place tint age best least =
    (change : Change) → LoweredIf (Makes change (tint_in (slice_index row (9 * place))) tint) (latest_of change best)
    (slice_index row (9 * place + column_of (opposite_of change))) age (latest_of change least)

-- whatever tints a row stands for, as many as were pushed: the latest starts of chains that end at the next frame with a change
abbrev pub AreStartsAfter : ℕ → List ℕ → ℕ → Tint → Change → List ℕ → Type 0
AreStartsAfter rate row turn tint change starts =
    (tints : List Tint) → length tints ≡ turn → StandsFor rate tints row
    → (n : ℕ) → n < 8 → IsLatest (EndsWith change (tints ++ tint ∷ []) (suc n) turn) rate turn (slice_index starts n)

-- where the latest chains start that ended before, or end with one of the latest changes
abbrev pub ended_with : Ended → Latest → Ended
ended_with before latest = record {
  possible = min (min (min (min before.possible (slice_index (latest_of PossibleRise latest) 7)) (slice_index (latest_of PossibleFall latest) 7))
      (slice_index (latest_of PossiblyIntoRed latest) 7)) (slice_index (latest_of PossiblyOutOfRed latest) 7);
  sure = min (min (min (min before.sure (slice_index (latest_of SureRise latest) 7)) (slice_index (latest_of SureFall latest) 7))
      (slice_index (latest_of SurelyIntoRed latest) 7)) (slice_index (latest_of SurelyOutOfRed latest) 7);
}

-- those of the next frame
abbrev pub EndedAfter : ℕ → List ℕ → ℕ → Tint → Ended → Type 0
EndedAfter rate row turn tint ended =
    (tints : List Tint) → length tints ≡ turn → StandsFor rate tints row → AreEnded rate (tints ++ tint ∷ []) (turn + 1) turn ended

-- of how many frames up to the next one, which follow one another, its tint is the tint
abbrev pub RunAfter : ℕ → List ℕ → ℕ → Tint → ℕ → Type 0
RunAfter rate row turn tint run =
    (tints : List Tint) → length tints ≡ turn → StandsFor rate tints row → HasRun (tints ++ tint ∷ []) turn run

-- nine words have a tint, a number of frames, and the latest starts
pub record HaveStarts (tint : Tint) (run : ℕ) (latest : Latest) (words : List ℕ) : Type 0 where
  pub tint_is : tint_in (slice_index words 0) ≡ tint
  pub run_is : byte (slice_index words 0) 6 ≡ run
  pub starts : (change : Change) (n : ℕ) → n < 8
      → byte (slice_index words (column_of change)) n ≡ slice_index (latest_of change latest) n

-- nine words tell of the next frame
abbrev pub TellAfter : ℕ → List ℕ → ℕ → Tint → List ℕ → Type 0
TellAfter rate row turn tint words =
    (tints : List Tint) → length tints ≡ turn → StandsFor rate tints row
    → TellsOf rate (tints ++ tint ∷ []) turn (λ i. slice_index words i)

-- bounds hold the last tints and the next one
abbrev pub BoundsAfter : ℕ → List ℕ → ℕ → Tint → Bounds → Type 0
BoundsAfter rate row turn tint bounds =
    (tints : List Tint) → length tints ≡ turn → StandsFor rate tints row → AreWithin rate (tints ++ tint ∷ []) bounds

-- in the row the frame before has the next tint, and no change lies between the two
pub record IsStill (rate : ℕ) (row : List ℕ) (turn : ℕ) (tint : Tint) : Type 0 where
  pub some : 0 < turn
  pub before : tint_in (words_at rate row (turn - 1) 0) ≡ tint
  pub never : (change : Change) → Makes change tint tint → ⊥
