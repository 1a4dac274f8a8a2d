-- Why a scene can't be parted: some cell needs too many frames.
use Rattle.std.proofs.Common.{ℕ, ◌≡◌, ◌⊎◌, ◌+◌, ◌*◌, ◌/◌, ◌%◌, ◌<◌, ◌≤◌, List, length, arith, inl, inr, refl, subst, sym}
use Rattle.std.specs.Prelude.{Some, slice_get, slice_index}
use Rattle.std.proofs.lemmas.Bool.{cases_lt}
use Rattle.std.proofs.lemmas.Option.{slice_get_within}
use Rattle.std.proofs.Math.Nat.{mul-div-le, mul-le-mul_left}
use Rattle.page_model.specs.declared.scene.Layer.{Layer}
use Rattle.page_model.specs.declared.scene.Scene.{Scene}
use Rattle.page_model.specs.declared.setup.Setup.{Setup}
use Rattle.page_model.specs.Cells.{AreCuts, cells_between, work_limit}
use Rattle.page_model.specs.Enclosure.{LooseRun}
use Rattle.page_model.specs.Horizon.{IsNeeded, frames_for}
use Rattle.page_model.specs.SeparateJudgement.{IsCellNeeded, IsOwnRun, frame_limit}
use Rattle.cell_laws.proofs.EdgeLemmas.{cuts-one}
use Rattle.horizon_laws.proofs.LeastLemmas.{needed-unique}
use Rattle.period_frames.specs.declared.frames.Horizon.{Horizon}
use Rattle.period_frames.specs.Needed.{NeedsMore}
use Rattle.region_split.specs.Cutting.{AreSoundBoth, Edges, IsLooseRunOver, bands, cell_of}
use Rattle.region_split.specs.Marks.{frames_in}
use Rattle.tint_laws.proofs.WindowLemmas.{layer-at}
use Rattle.page_model.specs.Enclosure.{own}
use Rattle.region_parts.specs.Needs.{AreNeeds, IsCutByNeeds, IsNeed, horizon_in}
use Rattle.region_parts.specs.Parts.{CanNotBeParted, IsParted}
use Rattle.region_parts.proofs.MeetLemmas.{IsAgreed}

-- what a layer needs
pub need-at : (scene : Scene) (setup : Setup) (horizons : List Horizon) (frames : List ℕ) (number : ℕ) → AreNeeds scene setup horizons frames
    → number < length scene.layers → (layer : Layer) × IsNeed scene setup layer (horizon_in horizons number)
need-at scene setup horizons frames number needs known =
    let found = layer-at scene.layers number known in
    (found.0, needs.each number found.0 known found.1)

-- the frames of a layer are those that it needs
pub layer-needed : (scene : Scene) (setup : Setup) (horizons : List Horizon) (frames : List ℕ) (number : ℕ) (layer : Layer)
    → AreNeeds scene setup horizons frames → number < length scene.layers → slice_get scene.layers number ≡ Some layer
    → IsNeeded setup layer.anims (frames_in frames number)
layer-needed scene setup horizons frames number layer needs known there = record {
  settled = (horizon_in horizons number).settled;
  period = (horizon_in horizons number).period;
  horizon = (needs.each number layer known there).horizon_is;
  needed_is = needs.frames_are number known;
}

pub frames-bounded : (scene : Scene) (setup : Setup) (horizons : List Horizon) (frames : List ℕ) (number : ℕ)
    → AreNeeds scene setup horizons frames → number < length scene.layers → frames_in frames number ≤ frame_limit
frames-bounded scene setup horizons frames number needs known =
    let found = layer-at scene.layers number known in
    let short = (needs.each number found.0 known found.1).short in
    let few = short.few in
    let is = needs.frames_are number known in
    omega arith

-- so a run tells the states of each in its frames, also by what it needs otherwise
pub agreed-by : (scene : Scene) (setup : Setup) (horizons : List Horizon) (frames : List ℕ) (run : LooseRun) (xs ys : List ℕ)
    (cell_needed : ℕ → ℕ → ℕ) (greatest : ℕ) → AreNeeds scene setup horizons frames → IsOwnRun scene setup run
    → (parted : IsParted scene setup run xs ys cell_needed greatest) → IsAgreed scene setup run (frames_in frames) parted.needed_of
agreed-by scene setup horizons frames run xs ys cell_needed greatest needs are parted = record {
  own_run = are;
  bounded = λ number known. frames-bounded scene setup horizons frames number needs known;
  same = λ number known.
      let found = layer-at scene.layers number known in
      needed-unique setup found.0.anims (parted.needed_of number) (frames_in frames number) (parted.layers_need number found.0 found.1)
      (layer-needed scene setup horizons frames number found.0 needs known found.1);
}

-- and in the frames of each box
pub run-over : (scene : Scene) (setup : Setup) (horizons : List Horizon) (frames : List ℕ) (run : LooseRun)
    → AreNeeds scene setup horizons frames → IsOwnRun scene setup run → IsLooseRunOver own scene setup (frames_in frames) run
run-over scene setup horizons frames run needs are frame number layer before there =
    let known = slice_get_within scene.layers number layer there in
    let bound = frames-bounded scene setup horizons frames number needs known in
    are frame number layer (omega arith) there

-- the place of a cell among the columns and rows of cells
pub record IsPlace (edges : Edges) (cell : ℕ) : Type 0 where
  pub column : cell % bands edges.xs + 1 < length edges.xs
  pub row : cell / bands edges.xs + 1 < length edges.ys

pub place-of : (edges : Edges) (cell : ℕ) → AreSoundBoth edges.xs edges.ys → cell < cells_between edges.xs edges.ys → IsPlace edges cell
place-of edges cell sound known =
    let some = sound.columns.two in
    let across : 0 < bands edges.xs = omega arith in
    let column : cell % bands edges.xs < bands edges.xs = omega arith in
    let row : cell / bands edges.xs < bands edges.ys = elim (cases_lt (cell / bands edges.xs) (bands edges.ys)) [
      | inl less ↦ less
      | inr past ↦
          let rows = mul-le-mul_left (bands edges.xs) past in
          let whole = mul-div-le cell (bands edges.xs) in
          absurd (omega (arith, rows, whole))
    ] in
    record { column = omega arith; row = omega arith }

-- so many frames are too many for a cell, or for all
abbrev pub AreTooMany : Setup → Edges → ℕ → Type 0
AreTooMany setup edges n = (frame_limit < n) ⊎ (work_limit < cells_between edges.xs edges.ys * frames_for setup n)

not-many : (setup : Setup) (edges : Edges) (n greatest : ℕ) → n ≤ greatest → greatest ≤ frame_limit
    → cells_between edges.xs edges.ys * frames_for setup greatest ≤ work_limit → AreTooMany setup edges n → ⊥
not-many setup edges n greatest most bounded work (inl many) = absurd (omega arith)
not-many setup edges n greatest most bounded work (inr many) =
    let more : frames_for setup n ≤ frames_for setup greatest = omega arith in
    let product = mul-le-mul_left (cells_between edges.xs edges.ys) more in
    absurd (omega (arith, product, many, work))

-- what a cell needs at least is too much
pub refuted : (scene : Scene) (setup : Setup) (horizons : List Horizon) (frames : List ℕ) (edges : Edges) (cell n : ℕ)
    → IsCutByNeeds scene setup horizons frames edges → cell < cells_between edges.xs edges.ys
    → ((run : LooseRun) (needed_of : ℕ → ℕ) (needed : ℕ) → IsAgreed scene setup run (frames_in frames) needed_of
    → IsCellNeeded scene setup run needed_of (cell_of edges.xs edges.ys cell).x (cell_of edges.xs edges.ys cell).y needed → n ≤ needed)
    → AreTooMany setup edges n → CanNotBeParted scene setup
refuted scene setup horizons frames edges cell n cut known least many run xs ys cell_needed greatest are parted =
    let agreed = agreed-by scene setup horizons frames run xs ys cell_needed greatest cut.needs are parted in
    let cuts : AreCuts setup scene (frames_in frames) run edges.xs edges.ys =
    cut.cut.cuts run (run-over scene setup horizons frames run cut.needs are) in
    let same = cuts-one scene setup parted.needed_of (frames_in frames) run run xs ys edges.xs edges.ys
    (record { frames = agreed.same; states = λ frame number there before. refl }) parted.cuts cuts in
    let place = place-of edges cell cut.cut.sound known in
    let i : ℕ = cell % bands edges.xs in
    let j : ℕ = cell / bands edges.xs in
    let column : i + 1 < length xs = subst (λ zs. i + 1 < length zs) (sym same.0) place.column in
    let row : j + 1 < length ys = subst (λ zs. j + 1 < length zs) (sym same.1) place.row in
    let there : IsCellNeeded scene setup run parted.needed_of (slice_index edges.xs i) (slice_index ys j) (cell_needed i j) =
    subst (λ zs. IsCellNeeded scene setup run parted.needed_of (slice_index zs i) (slice_index ys j) (cell_needed i j)) same.0
    (parted.cells_need i j column row) in
    let here : IsCellNeeded scene setup run parted.needed_of (slice_index edges.xs i) (slice_index edges.ys j) (cell_needed i j) =
    subst (λ zs. IsCellNeeded scene setup run parted.needed_of (slice_index edges.xs i) (slice_index zs j) (cell_needed i j)) same.1 there in
    let at_least = least run parted.needed_of (cell_needed i j) agreed here in
    let at_most = parted.is_greatest i j column row in
    let work : cells_between edges.xs edges.ys * frames_for setup greatest ≤ work_limit =
    subst (λ zs. cells_between zs edges.ys * frames_for setup greatest ≤ work_limit) same.0
    (subst (λ zs. cells_between xs zs * frames_for setup greatest ≤ work_limit) same.1 parted.work_bounded) in
    not-many setup edges n greatest (omega (arith, at_least, at_most)) parted.cells_bounded work many

-- a layer that needs too many frames by itself
pub layer-refuted : (scene : Scene) (setup : Setup) (number : ℕ) (layer : Layer) → number < length scene.layers
    → slice_get scene.layers number ≡ Some layer → NeedsMore setup layer.anims → CanNotBeParted scene setup
layer-refuted scene setup number layer known there more run xs ys cell_needed greatest are parted =
    let same = needed-unique setup layer.anims (parted.needed_of number) more.needed (parted.layers_need number layer there) more.is_needed in
    let bound = parted.layers_bounded number known in
    let many = more.many in
    absurd (omega arith)
