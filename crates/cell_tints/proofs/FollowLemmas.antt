-- The tints of cells in a frame are those by its states, and are written over those of the frame before.
use Rattle.std.proofs.Common.{◌≡◌, ◌∙◌, ℕ, ◌+◌, ◌<◌, ◌≤◌, List, [], length, get_or, set, slice_get, Some, ap, arith, inl, inr, subst, sym, length-set, get_or-set_other, get_or-set_same}
use Rattle.std.specs.Prelude.{slice_index}
use Rattle.std.proofs.lemmas.Bool.{cases_eq}
use Rattle.std.proofs.lemmas.List.Elements.{All-nil}
use Rattle.std.proofs.lemmas.Option.{get_or_from_slice_get, slice_get-get_or, slice_get_within}
use Rattle.page_model.specs.declared.colour.Tint.{Tint}
use Rattle.page_model.specs.declared.scene.Scene.{Scene}
use Rattle.page_model.specs.declared.setup.Setup.{Setup}
use Rattle.page_model.specs.TintOf.{tint_of}
use Rattle.page_model.specs.ValidScene.{IsValid}
use Rattle.frame_state.specs.declared.types.LayerState.{LayerState}
use Rattle.frame_state.specs.States.{AreInSlots, AreOwn, states_as}
use Rattle.paint_blend.specs.Kept.{AreAllReady, AreChanged, MissesBoth}
use Rattle.paint_blend.specs.Paint.{IsOrdered}
use Rattle.paint_blend.proofs.HeldLemmas.{own-same}
use Rattle.paint_blend.proofs.KeptLemmas.{tint-kept}
use Rattle.paint_blend.proofs.OrderLemmas.{tint_of-ordered}
use Rattle.region_split.specs.Cutting.{Edges, cell_of}
use Rattle.cell_tints.specs.Tints.{AreStatesIn, AreTintsBy, AreTintsIn}

-- the first column and row of the cell at a place
abbrev column_at : Edges → List ℕ → ℕ → ℕ
column_at edges chosen i = (cell_of edges.xs edges.ys (slice_index chosen i)).x

abbrev row_at : Edges → List ℕ → ℕ → ℕ
row_at edges chosen i = (cell_of edges.xs edges.ys (slice_index chosen i)).y

-- states in their slots are ready to be painted
pub slots-ready : (scene : Scene) (states : List LayerState) → length states ≡ length scene.layers
    → AreInSlots scene (states_as states)
    → AreAllReady states
slots-ready scene states long ranges number there = ranges number (omega (arith, long, there))

-- the tints in a frame are those by its states, whichever these are
pub tints-by : (scene : Scene) (setup : Setup) (edges : Edges) (frame : ℕ) (chosen : List ℕ) (states : List LayerState) (tints : List Tint)
    → IsValid scene → AreStatesIn scene setup frame states → length tints ≡ length chosen
    → AreTintsIn scene setup edges frame chosen (length chosen) tints → AreTintsBy scene edges chosen states tints
tints-by scene setup edges frame chosen states tints valid of all are i tint there =
    let within = slice_get_within tints i tint there in
    let own = are i tint (omega (arith, within, all)) there in
    own.is
    ∙ own-same scene setup frame own.states (states_as states) (column_at edges chosen i) (row_at edges chosen i) valid own.own_states of.own_states

pub tints-in : (scene : Scene) (setup : Setup) (edges : Edges) (frame : ℕ) (chosen : List ℕ) (states : List LayerState) (tints : List Tint)
    → AreStatesIn scene setup frame states → AreTintsBy scene edges chosen states tints
    → AreTintsIn scene setup edges frame chosen (length chosen) tints
tints-in scene setup edges frame chosen states tints of are i tint below there =
    let is = are i tint there in record {
      states = states_as states;
      own_states = of.own_states;
      is = is;
      ordered = subst IsOrdered (sym is) (tint_of-ordered scene (states_as states) (column_at edges chosen i) (row_at edges chosen i));
    }

-- where no layer changed they stay as they are
pub tints-still : (scene : Scene) (edges : Edges) (chosen : List ℕ) (before states : List LayerState) (tints : List Tint) → IsValid scene
    → length states ≡ length scene.layers → AreChanged before states [] → AreTintsBy scene edges chosen before tints
    → AreTintsBy scene edges chosen states tints
tints-still scene edges chosen before states tints valid long none are i tint there =
    are i tint there
    ∙ sym (tint-kept scene before states [] (column_at edges chosen i) (row_at edges chosen i) none
    (All-nil (MissesBoth before states (column_at edges chosen i) (row_at edges chosen i))) valid long)

-- the first tints, so many, are by the states, and the others by the states before
pub record AreTintsTill (scene : Scene) (edges : Edges) (chosen : List ℕ) (before states : List LayerState) (count : ℕ) (tints : List Tint)
    : Type 0 where
  pub first : (i : ℕ) (tint : Tint) → i < count → slice_get tints i ≡ Some tint
      → tint ≡ tint_of scene (states_as states) (column_at edges chosen i) (row_at edges chosen i)
  pub rest : (i : ℕ) (tint : Tint) → count ≤ i → slice_get tints i ≡ Some tint
      → tint ≡ tint_of scene (states_as before) (column_at edges chosen i) (row_at edges chosen i)

pub till-all : (scene : Scene) (edges : Edges) (chosen : List ℕ) (before states : List LayerState) (count : ℕ) (tints : List Tint)
    → length tints ≤ count → AreTintsTill scene edges chosen before states count tints
    → AreTintsBy scene edges chosen states tints
till-all scene edges chosen before states count tints long are i tint there =
    let within = slice_get_within tints i tint there in are.first i tint (omega (arith, within, long)) there

-- the tint before of the next cell
pub till-next : (scene : Scene) (edges : Edges) (chosen : List ℕ) (before states : List LayerState) (i x y : ℕ) (tints : List Tint) (d : Tint)
    → AreTintsTill scene edges chosen before states i tints → i < length tints → column_at edges chosen i ≡ x
    → row_at edges chosen i ≡ y
    → get_or tints i d ≡ tint_of scene (states_as before) x y
till-next scene edges chosen before states i x y tints d are there column row =
    are.rest i (get_or tints i d) (omega arith) (slice_get-get_or tints i d there)
    ∙ ap (λ n. tint_of scene (states_as before) n (row_at edges chosen i)) column ∙ ap (tint_of scene (states_as before) x) row

-- it is written
pub till-more : (scene : Scene) (edges : Edges) (chosen : List ℕ) (before states : List LayerState) (i x y : ℕ) (old : List Tint) (tint : Tint)
    → AreTintsTill scene edges chosen before states i old → i < length old → column_at edges chosen i ≡ x
    → row_at edges chosen i ≡ y
    → tint ≡ tint_of scene (states_as states) x y
    → AreTintsTill scene edges chosen before states (i + 1) (set old i tint)
till-more scene edges chosen before states i x y old tint are inside column row is = record {
  first = λ k other below e. elim (cases_eq k i) [
    | inl same ↦
        let here : tint ≡ other =
        sym (get_or-set_same old i tint other inside) ∙ ap (λ n. get_or (set old i tint) n other) (sym same)
        ∙ get_or_from_slice_get (set old i tint) k other other e in
        subst (λ n. other ≡ tint_of scene (states_as states) (column_at edges chosen n) (row_at edges chosen n)) (sym same)
        (sym here ∙ is ∙ ap (λ n. tint_of scene (states_as states) n y) (sym column)
        ∙ ap (tint_of scene (states_as states) (column_at edges chosen i)) (sym row))
    | inr apart ↦ are.first k other (omega (arith, below, apart)) (kept k other apart e)
  ];
  rest = λ k other from e. are.rest k other (omega (arith, from)) (kept k other (λ same. omega (arith, from, same)) e);
} where
  kept : (k : ℕ) (other : Tint) → (k ≡ i → ⊥) → slice_get (set old i tint) k ≡ Some other → slice_get old k ≡ Some other
  kept k other apart e =
      let within = slice_get_within (set old i tint) k other e in
      let known : k < length old = omega (arith, within, length-set old i tint) in
      slice_get-get_or old k other known
      ∙ ap Some (sym (get_or-set_other old i k tint other apart) ∙ get_or_from_slice_get (set old i tint) k other other e)

-- the states that were worked out for a frame
pub states-in : (scene : Scene) (setup : Setup) (worked_out frame : ℕ) (states : List LayerState) → worked_out ≡ frame
    → length states ≡ length scene.layers → AreOwn scene setup worked_out (states_as states)
    → AreInSlots scene (states_as states)
    → AreStatesIn scene setup frame states
states-in scene setup worked_out frame states is long own ranges = record {
  long = long;
  own_states = subst (λ k. AreOwn scene setup k (states_as states)) is own;
  ranges = ranges;
}
