-- The parts of a scene, from the horizons of its cells.
use Rattle.std.proofs.Common.{ℕ, ◌≡◌, ◌+◌, ◌*◌, ◌/◌, ◌%◌, ◌<◌, ◌≤◌, List, length, take, arith, inr, refl, subst, sym}
use Rattle.std.specs.Prelude.{slice_index}
use Rattle.std.specs.List.{items_where_true}
use Rattle.std.proofs.lemmas.List.{take_all}
use Rattle.std.proofs.lemmas.Nat.{div-add-mod', div-mul-add, mod-mul-add}
use Rattle.std.proofs.lemmas.Option.{slice_get_within}
use Rattle.std.proofs.Math.Nat.{mul-le-mul_right}
use Rattle.page_model.specs.declared.scene.Scene.{Scene}
use Rattle.page_model.specs.declared.setup.Setup.{Setup}
use Rattle.page_model.specs.Cells.{cells_between}
use Rattle.page_model.specs.Enclosure.{LooseRun}
use Rattle.page_model.specs.Horizon.{IsHorizon, IsNeeded, animations_of, frames_for}
use Rattle.page_model.specs.SeparateJudgement.{IsCellNeeded, IsOwnRun, frame_limit}
use Rattle.period_frames.specs.declared.frames.Horizon.{Horizon}
use Rattle.region_split.specs.Cutting.{AreEnoughOfEach, Edges, bands, cell_of}
use Rattle.region_split.specs.Marks.{frames_in}
use Rattle.region_split.proofs.RepeatLemmas.{repeats-enough}
use Rattle.region_parts.specs.Needs.{AreHorizonsBefore, IsCutByNeeds, IsGreatestIn, IsHorizonBefore, horizon_in, needed_in}
use Rattle.region_parts.specs.Parts.{ArePartsOf, CanNotBeParted, IsPartedBy, Parts, cell_needed}
use Rattle.region_parts.proofs.HorizonLemmas.{past_limit}
use Rattle.region_parts.proofs.MeetLemmas.{IsAgreed, before-least, meets-run, run-meets}
use Rattle.region_parts.proofs.RefuteLemmas.{frames-bounded, layer-needed, place-of, refuted, run-over}

-- the horizon of all layers that meet a cell is what the cell needs
cell-is : (scene : Scene) (setup : Setup) (run : LooseRun) (frames_of : ℕ → ℕ) (column row : ℕ) (horizon : Horizon)
    → IsAgreed scene setup run frames_of frames_of → IsHorizonBefore scene setup frames_of column row (length scene.layers) horizon
    → IsCellNeeded scene setup run frames_of column row (horizon.settled + horizon.period)
cell-is scene setup run frames_of column row horizon agreed so = record {
  marks = so.marks;
  one_each = so.are_met.one_each;
  meets = λ number known. (
    λ marked. meets-run scene setup run frames_of frames_of number column row agreed known ((so.are_met.meets number known).0 marked),
    λ meets. (so.are_met.meets number known).1 (run-meets scene setup run frames_of frames_of number column row agreed known meets),
  );
  needed_is = record {
    settled = horizon.settled;
    period = horizon.period;
    horizon = subst (λ layers. IsHorizon setup (animations_of (items_where_true so.marks layers)) horizon.settled horizon.period)
        (take_all (length scene.layers) scene.layers (omega arith)) so.horizon_is;
    needed_is = refl;
  };
}

-- the cell at a place among the columns and rows of cells has a number
pub record IsNumbered (edges : Edges) (i j : ℕ) : Type 0 where
  pub known : j * bands edges.xs + i < cells_between edges.xs edges.ys
  pub column : (j * bands edges.xs + i) % bands edges.xs ≡ i
  pub row : (j * bands edges.xs + i) / bands edges.xs ≡ j

numbered : (edges : Edges) (i j : ℕ) → i + 1 < length edges.xs → j + 1 < length edges.ys → IsNumbered edges i j
numbered edges i j column row =
    let across : i < bands edges.xs = omega arith in
    let down : j + 1 ≤ bands edges.ys = omega arith in
    let rows = mul-le-mul_right (bands edges.xs) down in
    record {
      known = omega (arith, rows, across);
      column = mod-mul-add j (bands edges.xs) i across;
      row = div-mul-add j (bands edges.xs) i across;
    }

-- what the parts are made of
pub record AreMadeOf (scene : Scene) (setup : Setup) (horizons : List Horizon) (frames : List ℕ) (edges : Edges) (cells : List Horizon)
    (greatest : ℕ) : Type 0 where
  pub cut : IsCutByNeeds scene setup horizons frames edges
  pub all : AreHorizonsBefore scene setup (frames_in frames) edges (length scene.layers) cells
  pub most : IsGreatestIn cells greatest

agreed-own : (scene : Scene) (setup : Setup) (horizons : List Horizon) (frames : List ℕ) (edges : Edges) (run : LooseRun)
    → IsCutByNeeds scene setup horizons frames edges → IsOwnRun scene setup run
    → IsAgreed scene setup run (frames_in frames) (frames_in frames)
agreed-own scene setup horizons frames edges run cut are = record {
  own_run = are;
  bounded = λ number known. frames-bounded scene setup horizons frames number cut.needs known;
  same = λ number known. refl;
}

greatest-bounded : (scene : Scene) (setup : Setup) (horizons : List Horizon) (frames : List ℕ) (edges : Edges) (cells : List Horizon)
    (greatest : ℕ) → AreMadeOf scene setup horizons frames edges cells greatest → greatest ≤ frame_limit
greatest-bounded scene setup horizons frames edges cells greatest made =
    let number = made.most.is_some.0 in
    let many = made.all.one_each in
    let within = made.most.is_some.1 in
    let short = (made.all.each number (omega arith)).short in
    let few = short.few in
    let is = made.most.is_some.2 in
    omega arith

cell-at : (scene : Scene) (setup : Setup) (horizons : List Horizon) (frames : List ℕ) (edges : Edges) (cells : List Horizon)
    (greatest : ℕ) (run : LooseRun) (i j : ℕ) → AreMadeOf scene setup horizons frames edges cells greatest → IsOwnRun scene setup run
    → i + 1 < length edges.xs → j + 1 < length edges.ys
    → IsCellNeeded scene setup run (frames_in frames) (slice_index edges.xs i) (slice_index edges.ys j) (needed_in cells (j * bands edges.xs + i))
cell-at scene setup horizons frames edges cells greatest run i j made are column row =
    let number = numbered edges i j column row in
    let place : ℕ = j * bands edges.xs + i in
    let before : IsHorizonBefore scene setup (frames_in frames) (slice_index edges.xs i) (slice_index edges.ys j) (length scene.layers) (horizon_in cells place) =
    subst (λ n. IsHorizonBefore scene setup (frames_in frames) (slice_index edges.xs n) (slice_index edges.ys j) (length scene.layers) (horizon_in cells place)) number.column
    (subst (λ n. IsHorizonBefore scene setup (frames_in frames) (slice_index edges.xs (place % bands edges.xs)) (slice_index edges.ys n) (length scene.layers) (horizon_in cells place)) number.row
    (made.all.each place number.known)) in
    cell-is scene setup run (frames_in frames) (slice_index edges.xs i) (slice_index edges.ys j) (horizon_in cells place)
    (agreed-own scene setup horizons frames edges run made.cut are) before

-- so a run is parted by them
parted-run : (scene : Scene) (setup : Setup) (horizons : List Horizon) (frames : List ℕ) (edges : Edges) (cells : List Horizon)
    (greatest : ℕ) (run : LooseRun) → AreMadeOf scene setup horizons frames edges cells greatest
    → cells_between edges.xs edges.ys * frames_for setup greatest ≤ 4194304 → IsOwnRun scene setup run
    → IsPartedBy scene setup run (record { cuts = edges; horizons = cells; frames = greatest })
unfolding cell-at cell-is
parted-run scene setup horizons frames edges cells greatest run made work are = record {
  parted = record {
    needed_of = frames_in frames;
    layers_need = λ number layer there.
        layer-needed scene setup horizons frames number layer made.cut.needs (slice_get_within scene.layers number layer there) there;
    layers_bounded = λ number known. frames-bounded scene setup horizons frames number made.cut.needs known;
    cuts = made.cut.cut.cuts run (run-over scene setup horizons frames run made.cut.needs are);
    cells_need = λ i j column row. cell-at scene setup horizons frames edges cells greatest run i j made are column row;
    is_greatest = λ i j column row.
        let number = numbered edges i j column row in
        let many = made.all.one_each in
        made.most.most (j * bands edges.xs + i) (omega (arith, number.known, many));
    is_some = some;
    cells_bounded = greatest-bounded scene setup horizons frames edges cells greatest made;
    work_bounded = work;
  };
  horizons_are = λ i j column row. record { settled_is = refl; period_is = refl };
} where
  parts : Parts
  parts = record { cuts = edges; horizons = cells; frames = greatest }

  some : (i : ℕ) × (j : ℕ) × (i + 1 < length edges.xs) × (j + 1 < length edges.ys) × (cell_needed parts i j ≡ greatest)
  some =
      let number = made.most.is_some.0 in
      let many = made.all.one_each in
      let within = made.most.is_some.1 in
      let place = place-of edges number made.cut.cut.sound (omega arith) in
      let sum : number / bands edges.xs * bands edges.xs + number % bands edges.xs ≡ number = div-add-mod' number (bands edges.xs) in (
        number % bands edges.xs,
        number / bands edges.xs,
        place.column,
        place.row,
        subst (λ n. needed_in cells n ≡ greatest) (sym sum) made.most.is_some.2,
      )

-- and in any frames each layer's states are those of its own
enough-of_each : (scene : Scene) (setup : Setup) (horizons : List Horizon) (frames : List ℕ) (edges : Edges) (n : ℕ)
    → IsCutByNeeds scene setup horizons frames edges → AreEnoughOfEach scene setup (frames_in frames) n
enough-of_each scene setup horizons frames edges n cut number layer there =
    let known = slice_get_within scene.layers number layer there in
    let need = cut.needs.each number layer known there in
    let is : frames_in frames number ≡ needed_in horizons number = cut.needs.frames_are number known in
    repeats-enough scene setup layer (horizon_in horizons number).settled (horizon_in horizons number).period n (frames_in frames number)
    need.short.some need.repeats (λ frame below early. omega (arith, is, early))

pub parts-made : (scene : Scene) (setup : Setup) (horizons : List Horizon) (frames : List ℕ) (edges : Edges) (cells : List Horizon)
    (greatest : ℕ) → AreMadeOf scene setup horizons frames edges cells greatest
    → cells_between edges.xs edges.ys * frames_for setup greatest ≤ 4194304
    → ArePartsOf scene setup (record { cuts = edges; horizons = cells; frames = greatest })
parts-made scene setup horizons frames edges cells greatest made work = record {
  sound = made.cut.cut.sound;
  one_each = made.all.one_each;
  few = greatest-bounded scene setup horizons frames edges cells greatest made;
  few_enough = work;
  by_run = λ run are. parted-run scene setup horizons frames edges cells greatest run made work are;
  alike = λ n run are. made.cut.cut.alike n run (enough-of_each scene setup horizons frames edges n made.cut) are;
}

-- where the cells are too many for the greatest of them
pub greatest-refuted : (scene : Scene) (setup : Setup) (horizons : List Horizon) (frames : List ℕ) (edges : Edges) (cells : List Horizon)
    (greatest : ℕ) → AreMadeOf scene setup horizons frames edges cells greatest
    → (cells_between edges.xs edges.ys * frames_for setup greatest ≤ 4194304 → ⊥) → CanNotBeParted scene setup
greatest-refuted scene setup horizons frames edges cells greatest made much =
    let number = made.most.is_some.0 in
    let many = made.all.one_each in
    let within = made.most.is_some.1 in
    let known : number < cells_between edges.xs edges.ys = omega arith in
    let column : ℕ = (cell_of edges.xs edges.ys number).x in
    let row : ℕ = (cell_of edges.xs edges.ys number).y in
    let before = made.all.each number known in
    let is : IsNeeded setup (animations_of (items_where_true before.marks (take (length scene.layers) scene.layers))) greatest = record {
      settled = (horizon_in cells number).settled;
      period = (horizon_in cells number).period;
      horizon = before.horizon_is;
      needed_is = sym made.most.is_some.2;
    } in
    refuted scene setup horizons frames edges number greatest made.cut known
    (λ run needed_of needed agreed cell. before-least scene setup run (frames_in frames) needed_of (length scene.layers) column row greatest needed
    before.marks agreed (omega arith) before.are_met is cell)
    (inr (past_limit (cells_between edges.xs edges.ys * frames_for setup greatest) much))
