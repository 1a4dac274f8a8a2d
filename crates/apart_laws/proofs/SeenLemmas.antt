-- A pixel shows in a window what it shows in an earlier one, which its own cell needs.
use Rattle.std.proofs.Common.{◌≡◌, ℕ, ◌+◌, ◌<◌, ◌≤◌, length, Bool, true, false, arith, inl, inr, refl, subst, sym}
use Rattle.std.specs.Prelude.{Some, slice_get, slice_index}
use Rattle.std.proofs.lemmas.Option.{slice_get_cases}
use Rattle.page_model.specs.declared.colour.Tint.{Tint}
use Rattle.page_model.specs.declared.scene.Layer.{Layer}
use Rattle.page_model.specs.declared.scene.Scene.{Scene}
use Rattle.page_model.specs.declared.setup.Setup.{Setup}
use Rattle.page_model.specs.Change.{IsPossibleFall, IsPossibleRise, IsPossiblyIntoRed, IsPossiblyOutOfRed}
use Rattle.page_model.specs.Enclosure.{IsLooseStateAt, LooseRun, own}
use Rattle.page_model.specs.Flash.{Between, HasChain}
use Rattle.page_model.specs.Horizon.{frames_for}
use Rattle.page_model.specs.SeparateJudgement.{BoxMeets, IsCellNeeded, IsFlaggedInCell, IsInCell, frame_limit}
use Rattle.page_model.specs.Time.{window_of}
use Rattle.page_model.specs.TintOf.{IsLooseRunIn, tints_of}
use Rattle.page_model.specs.Window.{IsPossiblyFlagged}
use Rattle.tint_laws.proofs.WindowLemmas.{layer-at}
use Rattle.flash_laws.specs.FlagLaws.{CarriesOver}
use Rattle.flash_laws.proofs.ChainLemmas.{has_chain-carried}
use Rattle.horizon_laws.specs.ForeverLaws.{HasEarlier}
use Rattle.horizon_laws.proofs.StateLemmas.{among-repeats}
use Rattle.horizon_laws.proofs.WindowLemmas.{FlaggedBy, flagged-earlier, seen_later}
use Rattle.wide_laws.proofs.LooseLemmas.{loose_state-unique}
use Rattle.apart_laws.proofs.MeetLemmas.{IsParted, box-leaves}
use Rattle.apart_laws.proofs.PaintLemmas.{PaintsAlike, tint-alike}

-- a pixel of a cell in a window, by states of that window, and the earlier window of the layers that meet the cell
pub record IsPixelSeen (scene : Scene) (setup : Setup) (run other : LooseRun) (greatest start column row : ℕ) : Type 0 where
  pub parted : IsParted scene setup run greatest
  pub is : IsLooseRunIn own scene setup start other
  pub i : ℕ
  pub j : ℕ
  pub cell : IsInCell parted.safe.xs parted.safe.ys i j column row
  pub need : IsCellNeeded scene setup run parted.safe.needed_of (slice_index parted.safe.xs i) (slice_index parted.safe.ys j)
      (parted.safe.cell_needed i j)
  pub first : HasEarlier scene setup need.needed_is.settled need.needed_is.period start

-- a frame of that earlier window, and a layer
pub record IsSeenAt {scene : Scene} {setup : Setup} {run other : LooseRun} {greatest start column row : ℕ}
    (seen : IsPixelSeen scene setup run other greatest start column row) (frame number : ℕ) : Type 0 where
  pub from : seen.first.earlier ≤ frame
  pub to : frame ≤ seen.first.earlier + window_of setup
  pub layer : Layer
  pub there : slice_get scene.layers number ≡ Some layer

-- its states in both windows
pub record HasBoth {scene : Scene} {setup : Setup} {run other : LooseRun} {greatest start column row : ℕ}
    (seen : IsPixelSeen scene setup run other greatest start column row) (frame number : ℕ) (layer : Layer) : Type 0 where
  pub later : IsLooseStateAt own scene setup (frame + seen.first.later) layer (other (frame + seen.first.later) number)
  pub now : IsLooseStateAt own scene setup frame layer (run frame number)

has-both : (scene : Scene) (setup : Setup) (run other : LooseRun) (greatest start column row frame number : ℕ)
    (seen : IsPixelSeen scene setup run other greatest start column row) (at : IsSeenAt seen frame number)
    → HasBoth seen frame number at.layer
has-both scene setup run other greatest start column row frame number seen at =
    let sum = seen.first.sum in
    let from = at.from in
    let to = at.to in
    let most = seen.parted.safe.is_greatest seen.i seen.j seen.cell.is_column seen.cell.is_row in
    let before : frame < frames_for setup frame_limit =
    omega (arith, seen.first.before, seen.need.needed_is.needed_is, most, seen.parted.safe.cells_bounded, to) in
    record {
      later = seen.is (frame + seen.first.later) number at.layer (omega arith) (omega arith) at.there;
      now = seen.parted.are frame number at.layer before at.there;
    }

-- a layer that meets the cell has one state in both
marked-same : (scene : Scene) (setup : Setup) (run other : LooseRun) (greatest start column row frame number : ℕ)
    (seen : IsPixelSeen scene setup run other greatest start column row) → IsSeenAt seen frame number
    → slice_get seen.need.marks number ≡ Some true → other (frame + seen.first.later) number ≡ run frame number
marked-same scene setup run other greatest start column row frame number seen at marked =
    let states = has-both scene setup run other greatest start column row frame number seen at in
    let need = seen.need.needed_is in
    let repeats = among-repeats scene setup need.settled need.period number seen.need.marks at.layer seen.parted.rate need.horizon
    marked at.there in
    loose_state-unique own scene setup frame at.layer (other (frame + seen.first.later) number) (run frame number)
    (seen.first.is_as at.layer own frame (other (frame + seen.first.later) number) repeats at.from states.later) states.now

-- a box that doesn't leaves the backdrop in both
unmarked-leave : (scene : Scene) (setup : Setup) (run other : LooseRun) (greatest start column row frame number : ℕ)
    (seen : IsPixelSeen scene setup run other greatest start column row) → IsSeenAt seen frame number → 1 ≤ number
    → (BoxMeets run (seen.parted.safe.needed_of number) number (slice_index seen.parted.safe.xs seen.i)
    (slice_index seen.parted.safe.ys seen.j) → ⊥)
    → PaintsAlike (other (frame + seen.first.later) number) (run frame number) column row
unmarked-leave scene setup run other greatest start column row frame number seen at some unmet =
    let states = has-both scene setup run other greatest start column row frame number seen at in
    inr (
      box-leaves scene setup run greatest seen.parted seen.i seen.j column row (frame + seen.first.later) number
          (other (frame + seen.first.later) number)
          (record { cell = seen.cell; is_box = some; layer = at.layer; there = at.there; is = states.later }) unmet,
      box-leaves scene setup run greatest seen.parted seen.i seen.j column row frame number (run frame number)
          (record { cell = seen.cell; is_box = some; layer = at.layer; there = at.there; is = states.now }) unmet,
    )

-- so each box paints alike
box-alike : (scene : Scene) (setup : Setup) (run other : LooseRun) (greatest start column row frame number : ℕ)
    (seen : IsPixelSeen scene setup run other greatest start column row) → IsSeenAt seen frame number → 1 ≤ number
    → number < length scene.layers → PaintsAlike (other (frame + seen.first.later) number) (run frame number) column row
box-alike scene setup run other greatest start column row frame number seen at some known =
    elim (slice_get_cases seen.need.marks number).1 [
      | inl found ↦ by_mark found.0 found.2
      | inr past ↦ absurd (let far = past.0 in omega (arith, far, seen.need.one_each))
    ]
  where
    by_mark : (mark : Bool) → slice_get seen.need.marks number ≡ Some mark
        → PaintsAlike (other (frame + seen.first.later) number) (run frame number) column row
    by_mark true is = inl (marked-same scene setup run other greatest start column row frame number seen at is)
    by_mark false is =
        unmarked-leave scene setup run other greatest start column row frame number seen at some (λ meets.
        let marked = (seen.need.meets number known).1 (inr (some, meets)) in cc)

-- and the pixel has one tint in both windows
tints-same : (scene : Scene) (setup : Setup) (run other : LooseRun) (greatest start column row frame : ℕ)
    (seen : IsPixelSeen scene setup run other greatest start column row) → seen.first.earlier ≤ frame
    → frame ≤ seen.first.earlier + window_of setup
    → tints_of scene other (frame + seen.first.later) column row ≡ tints_of scene run frame column row
tints-same scene setup run other greatest start column row frame seen from to =
    tint-alike scene (other (frame + seen.first.later)) (run frame) column row seen.parted.valid (record {
      body = λ some.
          let known = seen.parted.valid.some_layer in
          marked-same scene setup run other greatest start column row frame 0 seen (at 0 (omega arith))
          ((seen.need.meets 0 (omega arith)).1 (inl (refl, some)));
      boxes = λ number some known.
          box-alike scene setup run other greatest start column row frame number seen (at number known) some known;
    })
  where
    at : (number : ℕ) → number < length scene.layers → IsSeenAt seen frame number
    at number known =
        let found = layer-at scene.layers number known in
        record { from = from; to = to; layer = found.0; there = found.1 }

-- where tints are the same in the frames of a window, so are their changes
carried : (Change : Tint → Tint → Type 0) (one other : ℕ → Tint) (start window : ℕ)
    → ((frame : ℕ) → start ≤ frame → frame ≤ start + window → one frame ≡ other frame)
    → CarriesOver start window (Between Change one) (Between Change other)
carried Change one other start window same j k from less to change =
    let first : one j ≡ other j = same j from (omega arith) in
    let second : one k ≡ other k = same k (omega arith) to in
    subst (λ (t : Tint). Change (other j) t) second (subst (λ (t : Tint). Change t (one k)) first change)

chain-carried : (Up Down : Tint → Tint → Type 0) (one other : ℕ → Tint) (start window : ℕ)
    → ((frame : ℕ) → start ≤ frame → frame ≤ start + window → one frame ≡ other frame)
    → HasChain Up Down one start window → HasChain Up Down other start window
chain-carried Up Down one other start window same =
    has_chain-carried Up Down Up Down one other start window (carried Up one other start window same)
    (carried Down one other start window same)

-- so where the pixel is flagged it is flagged in a window that its cell needs
pub flagged-in_cell : (scene : Scene) (setup : Setup) (run other : LooseRun) (greatest start column row : ℕ)
    (seen : IsPixelSeen scene setup run other greatest start column row)
    → IsPossiblyFlagged own (tints_of scene other) setup start column row
    → IsFlaggedInCell scene setup run seen.parted.safe.xs seen.parted.safe.ys seen.parted.safe.cell_needed column row
flagged-in_cell scene setup run other greatest start column row seen flagged = record {
  i = seen.i;
  j = seen.j;
  cell = seen.cell;
  start = seen.first.earlier;
  needed = omega (arith, seen.first.before, seen.need.needed_is.needed_is);
  flagged = now (flagged-earlier IsPossibleRise IsPossibleFall IsPossiblyIntoRed IsPossiblyOutOfRed (tints_of scene other)
      seen.first.earlier (window_of setup) seen.first.later column row later);
} where
  later : FlaggedBy IsPossibleRise IsPossibleFall IsPossiblyIntoRed IsPossiblyOutOfRed (tints_of scene other)
      (seen.first.earlier + seen.first.later) (window_of setup) column row
  later =
      subst (λ k. FlaggedBy IsPossibleRise IsPossibleFall IsPossiblyIntoRed IsPossiblyOutOfRed (tints_of scene other) k (window_of setup)
      column row) (sym seen.first.sum) flagged

  same : (frame : ℕ) → seen.first.earlier ≤ frame → frame ≤ seen.first.earlier + window_of setup
      → tints_of scene other (frame + seen.first.later) column row ≡ tints_of scene run frame column row
  same frame from to = tints-same scene setup run other greatest start column row frame seen from to

  now : FlaggedBy IsPossibleRise IsPossibleFall IsPossiblyIntoRed IsPossiblyOutOfRed (seen_later seen.first.later (tints_of scene other))
      seen.first.earlier (window_of setup) column row
      → IsPossiblyFlagged own (tints_of scene run) setup seen.first.earlier column row
  now (inl light) =
      inl (chain-carried IsPossibleRise IsPossibleFall (λ frame. tints_of scene other (frame + seen.first.later) column row)
      (λ frame. tints_of scene run frame column row) seen.first.earlier (window_of setup) same light)
  now (inr red) =
      inr (chain-carried IsPossiblyIntoRed IsPossiblyOutOfRed (λ frame. tints_of scene other (frame + seen.first.later) column row)
      (λ frame. tints_of scene run frame column row) seen.first.earlier (window_of setup) same red)
