-- The horizons of cells, layer by layer.
use Rattle.std.proofs.Common.{ℕ, zero, suc, ◌≡◌, ◌↔◌, ◌+◌, ◌-◌, ◌*◌, ◌/◌, ◌%◌, ◌<◌, ◌≤◌, Bool, true, false, List, [], ◌∷◌, ◌++◌, length, take, arith, inl, inr, refl, subst, sym}
use Rattle.std.specs.Prelude.{Some, slice_get}
use Rattle.std.specs.List.{items_where_true}
use Rattle.std.proofs.lemmas.Bool.{cases_lt}
use Rattle.std.proofs.lemmas.Grind.{take_at_read}
use Rattle.std.proofs.lemmas.List.{length-take-le, length_push}
use Rattle.std.proofs.lemmas.Option.{get_or_from_slice_get, slice_get_within}
use Rattle.std.proofs.Math.Nat.{mul-le-mul}
use Rattle.page_model.specs.declared.scene.Layer.{Layer}
use Rattle.page_model.specs.declared.scene.Scene.{Scene}
use Rattle.page_model.specs.declared.setup.Setup.{Setup}
use Rattle.page_model.specs.Cells.{cells_between}
use Rattle.page_model.specs.Horizon.{IsHorizon, animations_of, frames_for}
use Rattle.page_model.specs.Time.{HasFrames}
use Rattle.period_frames.specs.declared.frames.Horizon.{Horizon}
use Rattle.period_frames.specs.Needed.{NeedsMore}
use Rattle.period_frames.proofs.ChosenLemmas.{chosen-more, left-more}
use Rattle.region_split.specs.Cutting.{Edges, IsCutInto, bands, cell_of}
use Rattle.region_split.specs.Marks.{frames_in}
use Rattle.tint_laws.proofs.WindowLemmas.{layer-at}
use Rattle.region_parts.specs.declared.areas.Area.{Area}
use Rattle.region_parts.specs.Joining.{AreJoinedBefore, IsJoinedWhere, IsTooLongSomewhere, MeetSomeCell, is_met}
use Rattle.region_parts.specs.Meeting.{AreAreasOf, IsPixel, MayMeet}
use Rattle.region_parts.specs.Needs.{AreAllFirst, AreHorizonsBefore, AreMetBefore, IsCutByNeeds, IsHorizonBefore, IsNeed, horizon_in}
use Rattle.region_parts.specs.Parts.{CanNotBeParted}
use Rattle.region_parts.proofs.MeetLemmas.{before-least, layer-least}
use Rattle.region_parts.proofs.RefuteLemmas.{layer-needed, place-of, refuted}

-- no layer yet
pub horizons-first : (scene : Scene) (setup : Setup) (frames_of : ℕ → ℕ) (edges : Edges) (horizons : List Horizon)
    → AreAllFirst (cells_between edges.xs edges.ys) horizons → AreHorizonsBefore scene setup frames_of edges 0 horizons
horizons-first scene setup frames_of edges horizons first = record {
  one_each = first.one_each;
  each = λ cell known. record {
    marks = [];
    are_met = record { one_each = refl; meets = λ n below. absurd (omega arith) };
    horizon_is = first.none cell setup known;
    short = first.short cell known;
  };
}

-- the first pixel of a cell lies in the viewport
pub first-pixel : (scene : Scene) (setup : Setup) (frames_of : ℕ → ℕ) (edges : Edges) (cell : ℕ) → IsCutInto scene setup frames_of edges
    → cell < cells_between edges.xs edges.ys
    → IsPixel setup (cell_of edges.xs edges.ys cell).x (cell_of edges.xs edges.ys cell).y
first-pixel scene setup frames_of edges cell cut known =
    let place = place-of edges cell cut.sound known in
    let column = cut.sound.columns.rise (cell % bands edges.xs) place.column in
    let row = cut.sound.rows.rise (cell / bands edges.xs) place.row in
    let last = cut.columns_within (cell % bands edges.xs + 1) place.column in
    let lowest = cut.rows_within (cell / bands edges.xs + 1) place.row in
    record { left_of = omega (arith, column, last); above = omega (arith, row, lowest) }

-- a mark for one layer more
get-early : {X : Type 0} (xs : List X) (x : X) (n : ℕ) → n < length xs → slice_get (xs ++ (x ∷ [])) n ≡ slice_get xs n
get-early [] x n below = absurd (omega arith)
get-early (y ∷ xs) x zero below = refl
get-early (y ∷ xs) x (suc n) below = get-early xs x n (omega arith)

get-last : {X : Type 0} (xs : List X) (x : X) (n : ℕ) → n ≡ length xs → slice_get (xs ++ (x ∷ [])) n ≡ Some x
get-last [] x zero same = refl
get-last [] x (suc n) same = absurd (omega arith)
get-last (y ∷ xs) x zero same = absurd (omega arith)
get-last (y ∷ xs) x (suc n) same = get-last xs x n (omega arith)

some-true : (b : Bool) → Some b ≡ Some true → b ≡ true
some-true b same = cc

met-more : (scene : Scene) (setup : Setup) (frames_of : ℕ → ℕ) (column row number : ℕ) (marks : List Bool) (met : Bool)
    → ((met ≡ true) ↔ MayMeet scene setup number (frames_of number) column row) → AreMetBefore scene setup frames_of column row number marks
    → AreMetBefore scene setup frames_of column row (number + 1) (marks ++ (met ∷ []))
met-more scene setup frames_of column row number marks met is so =
    let as_many = so.one_each in
    record {
      one_each = omega (arith, length_push marks met);
      meets = λ n below. elim (cases_lt n number) [
        | inl early ↦ rw (get-early marks met n (omega arith)) (so.meets n early)
        | inr late ↦
            let same : n ≡ number = omega arith in
            rw (same, get-last marks met number (omega arith))
            (λ marked. is.0 (some-true met marked), λ meets. rw (is.1 meets) refl)
      ];
    }

-- the layers before a number, and the one of that number
one-more : (layers : List Layer) (number : ℕ) (layer : Layer) → slice_get layers number ≡ Some layer
    → take (number + 1) layers ≡ take number layers ++ (layer ∷ [])
one-more layers number layer there =
    let within = slice_get_within layers number layer there in
    subst (λ l. take (number + 1) layers ≡ take number layers ++ (l ∷ [])) (get_or_from_slice_get layers number layer layer there)
    (take_at_read layers number layer within).1

as-many : (layers : List Layer) (number : ℕ) (marks : List Bool) → number < length layers → length marks ≡ number
    → length marks ≡ length (take number layers)
as-many layers number marks known is = let taken = length-take-le number layers (omega arith) in omega arith

pub met-animations : (scene : Scene) (number : ℕ) (marks : List Bool) (layer : Layer) → slice_get scene.layers number ≡ Some layer
    → length marks ≡ number
    → animations_of (items_where_true (marks ++ (true ∷ [])) (take (number + 1) scene.layers))
    ≡ animations_of (items_where_true marks (take number scene.layers)) ++ layer.anims
met-animations scene number marks layer there is =
    rw (one-more scene.layers number layer there)
    (chosen-more marks (take number scene.layers) layer (as-many scene.layers number marks (slice_get_within scene.layers number layer there) is))

left-animations : (scene : Scene) (number : ℕ) (marks : List Bool) (layer : Layer) → slice_get scene.layers number ≡ Some layer
    → length marks ≡ number
    → animations_of (items_where_true (marks ++ (false ∷ [])) (take (number + 1) scene.layers))
    ≡ animations_of (items_where_true marks (take number scene.layers))
left-animations scene number marks layer there is =
    rw (one-more scene.layers number layer there)
    (left-more marks (take number scene.layers) layer (as-many scene.layers number marks (slice_get_within scene.layers number layer there) is))

-- one layer more, which meets a cell or doesn't
horizon-more : (scene : Scene) (setup : Setup) (frames_of : ℕ → ℕ) (column row number : ℕ) (layer : Layer) (own old new : Horizon) (met : Bool)
    → slice_get scene.layers number ≡ Some layer → IsNeed scene setup layer own
    → ((met ≡ true) ↔ MayMeet scene setup number (frames_of number) column row) → IsJoinedWhere met old own new
    → IsHorizonBefore scene setup frames_of column row number old → IsHorizonBefore scene setup frames_of column row (number + 1) new
horizon-more scene setup frames_of column row number layer own old new true there need is joined so = record {
  marks = so.marks ++ (true ∷ []);
  are_met = met-more scene setup frames_of column row number so.marks true is so.are_met;
  horizon_is = subst (λ anims. IsHorizon setup anims new.settled new.period) (sym (met-animations scene number so.marks layer there so.are_met.one_each))
      (joined.horizon setup (animations_of (items_where_true so.marks (take number scene.layers))) layer.anims so.horizon_is need.horizon_is);
  short = joined.short;
}
horizon-more scene setup frames_of column row number layer own old new false there need is same so = record {
  marks = so.marks ++ (false ∷ []);
  are_met = met-more scene setup frames_of column row number so.marks false is so.are_met;
  horizon_is = rw (same, left-animations scene number so.marks layer there so.are_met.one_each) so.horizon_is;
  short = rw same so.short;
}

-- all that is known of a layer in turn
pub record IsTurnOf (scene : Scene) (setup : Setup) (frames_of : ℕ → ℕ) (edges : Edges) (number : ℕ) (own : Horizon) (areas : List Area) : Type 0 where
  pub layer : Layer
  pub there : slice_get scene.layers number ≡ Some layer
  pub need : IsNeed scene setup layer own
  pub areas_are : AreAreasOf scene setup number (frames_of number) areas

pub horizons-more : (scene : Scene) (setup : Setup) (frames_of : ℕ → ℕ) (edges : Edges) (number : ℕ) (own : Horizon) (areas : List Area)
    (old new : List Horizon) → IsCutInto scene setup frames_of edges → IsTurnOf scene setup frames_of edges number own areas
    → AreJoinedBefore edges areas own (cells_between edges.xs edges.ys) old new
    → AreHorizonsBefore scene setup frames_of edges number old → AreHorizonsBefore scene setup frames_of edges (number + 1) new
horizons-more scene setup frames_of edges number own areas old new cut turn joined so =
    let before = so.one_each in
    let as_many = joined.as_many in
    record {
      one_each = omega arith;
      each = λ cell known.
          let column : ℕ = (cell_of edges.xs edges.ys cell).x in
          let row : ℕ = (cell_of edges.xs edges.ys cell).y in
          horizon-more scene setup frames_of column row number turn.layer own (horizon_in old cell) (horizon_in new cell) (is_met edges areas cell)
          turn.there turn.need (turn.areas_are column row (first-pixel scene setup frames_of edges cell cut known)) (joined.each cell known)
          (so.each cell known);
    }

-- what isn't little work is too much
pub past_limit : (n : ℕ) → (n ≤ 4194304 → ⊥) → 4194304 < n
past_limit n much = elim (cases_lt 4194304 n) [
  | inl past ↦ past
  | inr within ↦ absurd (much within)
]

-- some columns and some rows make some cells
pub some-cells : (across down : ℕ) → 1 ≤ across → 1 ≤ down → 0 < across * down
some-cells across down one other = let product = mul-le-mul one other in omega (arith, product)

-- a cell that is met by a layer which needs too many frames for all cells
pub met-refuted : (scene : Scene) (setup : Setup) (horizons : List Horizon) (frames : List ℕ) (edges : Edges) (number : ℕ) (own : Horizon)
    (areas : List Area) → IsCutByNeeds scene setup horizons frames edges → IsTurnOf scene setup (frames_in frames) edges number own areas
    → MeetSomeCell edges areas → (cells_between edges.xs edges.ys * frames_for setup (frames_in frames number) ≤ 4194304 → ⊥)
    → CanNotBeParted scene setup
met-refuted scene setup horizons frames edges number own areas cut turn meets much =
    let column : ℕ = (cell_of edges.xs edges.ys meets.cell).x in
    let row : ℕ = (cell_of edges.xs edges.ys meets.cell).y in
    let pixel = first-pixel scene setup (frames_in frames) edges meets.cell cut.cut meets.known in
    let met = (turn.areas_are column row pixel).0 meets.met in
    let there = slice_get_within scene.layers number turn.layer turn.there in
    let is = layer-needed scene setup horizons frames number turn.layer cut.needs there turn.there in
    refuted scene setup horizons frames edges meets.cell (frames_in frames number) cut meets.known
    (λ run needed_of needed agreed cell. layer-least scene setup run (frames_in frames) needed_of number column row (frames_in frames number) needed
    turn.layer agreed turn.there met is cell)
    (inr (past_limit (cells_between edges.xs edges.ys * frames_for setup (frames_in frames number)) much))

-- and one that needs too many frames together with those before
pub long-refuted : (scene : Scene) (setup : Setup) (horizons : List Horizon) (frames : List ℕ) (edges : Edges) (number : ℕ) (own : Horizon)
    (areas : List Area) (old : List Horizon) → HasFrames setup → IsCutByNeeds scene setup horizons frames edges
    → IsTurnOf scene setup (frames_in frames) edges number own areas → IsTooLongSomewhere edges areas own old
    → AreHorizonsBefore scene setup (frames_in frames) edges number old → CanNotBeParted scene setup
long-refuted scene setup horizons frames edges number own areas old rate cut turn long so =
    let column : ℕ = (cell_of edges.xs edges.ys long.cell).x in
    let row : ℕ = (cell_of edges.xs edges.ys long.cell).y in
    let pixel = first-pixel scene setup (frames_in frames) edges long.cell cut.cut long.known in
    let before = so.each long.cell long.known in
    let known = slice_get_within scene.layers number turn.layer turn.there in
    let is : (true ≡ true) ↔ MayMeet scene setup number (frames_in frames number) column row =
    (λ e. (turn.areas_are column row pixel).0 long.long.is_met, λ meets. refl) in
    let met = met-more scene setup (frames_in frames) column row number before.marks true is before.are_met in
    let more : NeedsMore setup (animations_of (items_where_true (before.marks ++ (true ∷ [])) (take (number + 1) scene.layers))) =
    subst (NeedsMore setup) (sym (met-animations scene number before.marks turn.layer turn.there before.are_met.one_each))
    (long.long.long setup (animations_of (items_where_true before.marks (take number scene.layers))) turn.layer.anims rate before.horizon_is
    turn.need.horizon_is) in
    refuted scene setup horizons frames edges long.cell more.needed cut long.known
    (λ run needed_of needed agreed cell. before-least scene setup run (frames_in frames) needed_of (number + 1) column row more.needed needed
    (before.marks ++ (true ∷ [])) agreed (omega arith) met more.is_needed cell) (inl more.many)

-- each cell needs a frame
pub one-refuted : (scene : Scene) (setup : Setup) (horizons : List Horizon) (frames : List ℕ) (edges : Edges)
    → IsCutByNeeds scene setup horizons frames edges → (cells_between edges.xs edges.ys * frames_for setup 1 ≤ 4194304 → ⊥)
    → CanNotBeParted scene setup
one-refuted scene setup horizons frames edges cut much =
    let across = cut.cut.sound.columns.two in
    let down = cut.cut.sound.rows.two in
    refuted scene setup horizons frames edges 0 1 cut (some-cells (length edges.xs - 1) (length edges.ys - 1) (omega arith) (omega arith))
    (λ run needed_of needed agreed cell.
    let some = cell.needed_is.horizon.period_is.holds.some in
    let sum = cell.needed_is.needed_is in
    omega arith) (inr (past_limit (cells_between edges.xs edges.ys * frames_for setup 1) much))

-- a layer in turn
pub turn-of : (scene : Scene) (setup : Setup) (horizons : List Horizon) (frames : List ℕ) (edges : Edges) (number read : ℕ) (own : Horizon)
    (areas : List Area) → IsCutByNeeds scene setup horizons frames edges → number < length scene.layers
    → own ≡ horizon_in horizons number → read ≡ frames_in frames number → AreAreasOf scene setup number read areas
    → IsTurnOf scene setup (frames_in frames) edges number own areas
turn-of scene setup horizons frames edges number read own areas cut known is read_is are =
    let found = layer-at scene.layers number known in
    record {
      layer = found.0;
      there = found.1;
      need = subst (IsNeed scene setup found.0) (sym is) (cut.needs.each number found.0 known found.1);
      areas_are = subst (λ n. AreAreasOf scene setup number n areas) read_is are;
    }
