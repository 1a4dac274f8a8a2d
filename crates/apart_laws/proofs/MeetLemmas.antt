-- A box that doesn't meet a cell leaves the backdrop at each pixel of the cell, in each frame.
use Rattle.std.proofs.Common.{◌≡◌, ◌≢◌, ◌∙◌, ℕ, ◌+◌, ◌<◌, ◌≤◌, ◌⊎◌, List, arith, inl, inr, refl, subst, sym}
use Rattle.std.specs.Prelude.{Some, slice_get, slice_index}
use Rattle.std.proofs.lemmas.Option.{slice_get_within}
use Rattle.page_model.specs.declared.scene.Layer.{Layer}
use Rattle.page_model.specs.declared.scene.Scene.{Scene}
use Rattle.page_model.specs.declared.setup.Setup.{Setup}
use Rattle.page_model.specs.Enclosure.{IsLooseStateAt, LooseRun, LooseState, Sureness, maybe, own, surely, surely_not}
use Rattle.page_model.specs.Horizon.{frames_for}
use Rattle.page_model.specs.SeparateJudgement.{BoxMeets, IsInCell, IsOwnRun, IsSeparatelySafe, frame_limit}
use Rattle.page_model.specs.Time.{HasFrames}
use Rattle.page_model.specs.TintOf.{both, covers_surely}
use Rattle.page_model.specs.ValidScene.{IsValid}
use Rattle.cell_laws.specs.CellLaws.{IsBoxCut}
use Rattle.cell_laws.proofs.BoxLemmas.{boxes-alike}
use Rattle.horizon_laws.proofs.EarlierLemmas.{frames_have-earlier}
use Rattle.horizon_laws.proofs.StateLemmas.{layer-repeats}
use Rattle.wide_laws.proofs.LooseLemmas.{loose_state-unique}
use Rattle.apart_laws.proofs.PaintLemmas.{Leaves}

-- a scene that is judged region by region, by a run of its own states
pub record IsParted (scene : Scene) (setup : Setup) (run : LooseRun) (greatest : ℕ) : Type 0 where
  pub valid : IsValid scene
  pub rate : HasFrames setup
  pub are : IsOwnRun scene setup run
  pub safe : IsSeparatelySafe scene setup run greatest

-- a box of it in a frame, whichever, and a pixel of a cell
pub record IsBoxAt {scene : Scene} {setup : Setup} {run : LooseRun} {greatest : ℕ} (parted : IsParted scene setup run greatest)
    (i j column row frame number : ℕ) (state : LooseState) : Type 0 where
  pub cell : IsInCell parted.safe.xs parted.safe.ys i j column row
  pub is_box : 1 ≤ number
  pub layer : Layer
  pub there : slice_get scene.layers number ≡ Some layer
  pub is : IsLooseStateAt own scene setup frame layer state

-- a thing surely isn't so, or it may be
is-not : (s : Sureness) → (s ≡ surely_not) ⊎ (s ≢ surely_not)
is-not surely = inr (λ e. cc)
is-not surely_not = inl refl
is-not maybe = inr (λ e. cc)

both-never : (s : Sureness) → both s surely_not ≡ surely_not
both-never surely = refl
both-never surely_not = refl
both-never maybe = refl

-- a box that isn't met in a frame that it needs is hidden there, or misses the cell
unmet-leaves : (run : LooseRun) (needed frame number x y column row : ℕ) → frame < needed
    → covers_surely (run frame number) column row ≡ covers_surely (run frame number) x y → (BoxMeets run needed number x y → ⊥)
    → Leaves (run frame number) column row
unmet-leaves run needed frame number x y column row early alike unmet =
    elim (is-not (run frame number).shown) [
      | inl hidden ↦ rw hidden refl
      | inr shown ↦ elim (is-not (covers_surely (run frame number) x y)) [
        | inl misses ↦ rw (alike ∙ misses) (both-never (run frame number).shown)
        | inr covers ↦ absurd (unmet (record { frame = frame; needed_frame = early; shown = shown; covers = covers }))
      ]
    ]

-- a box has its state of any frame in one that it needs
pub record IsNeededState {scene : Scene} {setup : Setup} {run : LooseRun} {greatest : ℕ} (parted : IsParted scene setup run greatest)
    (number : ℕ) (layer : Layer) (state : LooseState) : Type 0 where
  pub frame : ℕ
  pub early : frame < parted.safe.needed_of number
  pub is : IsLooseStateAt own scene setup frame layer (run frame number)
  pub same : run frame number ≡ state

needed-state : (scene : Scene) (setup : Setup) (run : LooseRun) (greatest : ℕ) (parted : IsParted scene setup run greatest)
    (frame number : ℕ) (layer : Layer) (state : LooseState) → slice_get scene.layers number ≡ Some layer
    → IsLooseStateAt own scene setup frame layer state → IsNeededState parted number layer state
needed-state scene setup run greatest parted frame number layer state there is =
    let need = parted.safe.layers_need number layer there in
    let few : parted.safe.needed_of number ≤ frame_limit =
    parted.safe.layers_bounded number (slice_get_within scene.layers number layer there) in
    let first = frames_have-earlier scene setup need.settled need.period frame need.horizon.period_is.holds.some in
    let early : first.earlier < parted.safe.needed_of number = omega (arith, first.before, need.needed_is) in
    let before : first.earlier < frames_for setup frame_limit = omega (arith, early, few) in
    let then_is : IsLooseStateAt own scene setup (first.earlier + first.later) layer state =
    subst (λ k. IsLooseStateAt own scene setup k layer state) (sym first.sum) is in
    let now_is : IsLooseStateAt own scene setup first.earlier layer state =
    first.is_as layer own first.earlier state (layer-repeats scene setup need.settled need.period layer parted.rate need.horizon)
    (omega arith) then_is in
    let run_is = parted.are first.earlier number layer before there in
    record {
      frame = first.earlier;
      early = early;
      is = run_is;
      same = loose_state-unique own scene setup first.earlier layer (run first.earlier number) state run_is now_is;
    }

-- so it leaves the backdrop in that frame
pub box-leaves : (scene : Scene) (setup : Setup) (run : LooseRun) (greatest : ℕ) (parted : IsParted scene setup run greatest)
    (i j column row frame number : ℕ) (state : LooseState) → IsBoxAt parted i j column row frame number state
    → (BoxMeets run (parted.safe.needed_of number) number (slice_index parted.safe.xs i) (slice_index parted.safe.ys j) → ⊥)
    → Leaves state column row
box-leaves scene setup run greatest parted i j column row frame number state box unmet =
    let xs : List ℕ = parted.safe.xs in
    let ys : List ℕ = parted.safe.ys in
    let cell = box.cell in
    let first = needed-state scene setup run greatest parted frame number box.layer state box.there box.is in
    let corner : IsInCell xs ys i j (slice_index xs i) (slice_index ys j) = record {
      is_column = cell.is_column;
      is_row = cell.is_row;
      right_of = omega arith;
      left_of = omega (arith, cell.right_of, cell.left_of);
      below = omega arith;
      above = omega (arith, cell.below, cell.above);
    } in
    let cut : IsBoxCut scene setup parted.safe.needed_of run first.frame number = record {
      is_box = box.is_box;
      looked_at = first.early;
      layer = box.layer;
      there = box.there;
      state = first.is;
    } in
    let alike = boxes-alike scene setup parted.safe.needed_of run xs ys i j first.frame number column row (slice_index xs i)
    (slice_index ys j) parted.valid parted.safe.cuts cut cell corner in
    subst (λ (s : LooseState). Leaves s column row) first.same
    (unmet-leaves run (parted.safe.needed_of number) first.frame number (slice_index xs i) (slice_index ys j) column row first.early
    alike unmet)
