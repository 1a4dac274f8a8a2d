-- The edges at the marked places are those of each run of states of the own kind, and edges of each run of the wide kind too.
use Rattle.std.proofs.Common.{ℕ, Bool, ◌≡◌, ◌-◌, ◌*◌, ◌<◌, ◌≤◌, List, length, arith, inl, inr}
use Rattle.std.specs.Prelude.{Some, slice_get}
use Rattle.std.proofs.lemmas.Int.{ints}
use Rattle.std.proofs.Math.Nat.{mul-le-mul_left, mul-le-mul_right}
use Rattle.page_model.specs.declared.scene.Layer.{Layer}
use Rattle.page_model.specs.declared.scene.Scene.{Scene}
use Rattle.page_model.specs.declared.setup.Setup.{Setup}
use Rattle.page_model.specs.Cells.{AreEdges, CutsAt, IsCutBy, IsPossible, cells_between, end_of, height_of, left_of, top_of, width_of}
use Rattle.page_model.specs.Enclosure.{IsLooseStateAt, Loose, LooseRun, LooseState, own, wide}
use Rattle.page_model.specs.ValidScene.{IsValid}
use Rattle.tint_laws.specs.TintLaws.{LooseIn}
use Rattle.tint_laws.proofs.KindLemmas.{state-in}
use Rattle.tint_laws.proofs.WindowLemmas.{layer-at}
use Rattle.wide_laws.proofs.LooseLemmas.{loose_state-unique}
use Rattle.cell_laws.proofs.EdgeLemmas.{edges-fewer, edges-same}
use Rattle.region_split.specs.Cutting.{AreListedBoth, AreOwnCutsOver, AtMostWide, IsLooseRunOver}
use Rattle.region_split.specs.Marks.{AreListed, AreMarks, AreOwnMarks, IsCutByBox, IsMarked}

-- where a state of the own kind cuts, the state of a run does too
unfoldable pub HasCuts : (LooseState → Loose) → (LooseState → Loose) → Scene → Setup → (ℕ → ℕ) → LooseRun → Type 0
HasCuts along across scene setup frames_of run =
    (frame number at : ℕ) (layer : Layer) (state : LooseState) → frame < frames_of number → slice_get scene.layers number ≡ Some layer
    → IsLooseStateAt own scene setup frame layer state → CutsAt (along state) (across state) at
    → CutsAt (along (run frame number)) (across (run frame number)) at

-- a run of the own kind has them, since its states are these
own-cuts : (along across : LooseState → Loose) (scene : Scene) (setup : Setup) (frames_of : ℕ → ℕ) (run : LooseRun)
    → IsLooseRunOver own scene setup frames_of run → HasCuts along across scene setup frames_of run
unfolding HasCuts
own-cuts along across scene setup frames_of run are frame number at layer state less there is cuts =
    let same : state ≡ run frame number = loose_state-unique own scene setup frame layer state (run frame number) is (are frame number layer less there) in
    rw same at cuts

-- and one of the wide kind, since they lie in its states
possible-in : (outer inner : Loose) (at : ℕ) → LooseIn outer inner → IsPossible inner at → IsPossible outer at
possible-in outer inner at lies possible = record {
  at_least = omega (arith, ints, lies.within.least, possible.at_least);
  at_most = omega (arith, ints, lies.within.greatest, possible.at_most);
}

end-in : (from size outer_from outer_size : Loose) (at : ℕ) → LooseIn outer_from from → LooseIn outer_size size
    → IsPossible (end_of from size) at → IsPossible (end_of outer_from outer_size) at
end-in from size outer_from outer_size at one other possible = record {
  at_least = omega (arith, ints, one.within.least, other.within.least, possible.at_least);
  at_most = omega (arith, ints, one.within.greatest, other.within.greatest, possible.at_most);
}

cuts-in : (from size outer_from outer_size : Loose) (at : ℕ) → LooseIn outer_from from → LooseIn outer_size size
    → CutsAt from size at → CutsAt outer_from outer_size at
cuts-in from size outer_from outer_size at one other (inl begins) = inl (possible-in outer_from from at one begins)
cuts-in from size outer_from outer_size at one other (inr ends) = inr (end-in from size outer_from outer_size at one other ends)

wide-columns : (scene : Scene) (setup : Setup) (frames_of : ℕ → ℕ) (run : LooseRun) → IsValid scene
    → IsLooseRunOver wide scene setup frames_of run → HasCuts left_of width_of scene setup frames_of run
unfolding HasCuts
wide-columns scene setup frames_of run valid are frame number at layer state less there is cuts =
    let lies = state-in scene setup frame number layer (run frame number) state valid there (are frame number layer less there) is in
    cuts-in state.left state.width (run frame number).left (run frame number).width at lies.left lies.width cuts

wide-rows : (scene : Scene) (setup : Setup) (frames_of : ℕ → ℕ) (run : LooseRun) → IsValid scene
    → IsLooseRunOver wide scene setup frames_of run → HasCuts top_of height_of scene setup frames_of run
unfolding HasCuts
wide-rows scene setup frames_of run valid are frame number at layer state less there is cuts =
    let lies = state-in scene setup frame number layer (run frame number) state valid there (are frame number layer less there) is in
    cuts-in state.top state.height (run frame number).top (run frame number).height at lies.top lies.height cuts

-- so a place that some box's own states cut is cut by the run
box-run : (along across : LooseState → Loose) (scene : Scene) (setup : Setup) (frames_of : ℕ → ℕ) (at : ℕ) (run : LooseRun)
    → HasCuts along across scene setup frames_of run → IsCutByBox along across scene setup frames_of at
    → IsCutBy along across run scene frames_of at
unfolding HasCuts
box-run along across scene setup frames_of at run has cut =
    let in_frame = cut.is_cut in
    let here = in_frame.is_cut in
    record {
      box = cut.box;
      frame = in_frame.frame;
      is_box = cut.is_box;
      is_layer = cut.before;
      looked_at = in_frame.looked_at;
      cuts = has in_frame.frame cut.box at here.layer here.state in_frame.looked_at here.is_there here.is_own here.cuts;
    }

-- and what a run of the own kind cuts is cut so
run-box : (along across : LooseState → Loose) (scene : Scene) (setup : Setup) (frames_of : ℕ → ℕ) (at : ℕ) (run : LooseRun)
    → IsLooseRunOver own scene setup frames_of run → IsCutBy along across run scene frames_of at
    → IsCutByBox along across scene setup frames_of at
run-box along across scene setup frames_of at run are cut =
    let found = layer-at scene.layers cut.box cut.is_layer in
    record {
      box = cut.box;
      is_box = cut.is_box;
      before = cut.is_layer;
      is_cut = record {
        frame = cut.frame;
        looked_at = cut.looked_at;
        is_cut = record {
          layer = found.0;
          state = run cut.frame cut.box;
          is_there = found.1;
          is_own = are cut.frame cut.box found.0 cut.looked_at found.1;
          cuts = cut.cuts;
        };
      };
    }

-- the listed edges of a side are those of each run of the own kind
side-own : (along across : LooseState → Loose) (scene : Scene) (setup : Setup) (frames_of : ℕ → ℕ) (size : ℕ) (marks : List Bool)
    (edges : List ℕ) (run : LooseRun) → AreMarks size (IsCutByBox along across scene setup frames_of) marks → AreListed marks size edges
    → IsLooseRunOver own scene setup frames_of run → AreEdges size (IsCutBy along across run scene frames_of) edges
side-own along across scene setup frames_of size marks edges run marked listed are =
    edges-same size (IsMarked marks) (IsCutBy along across run scene frames_of) edges
    (λ at some less is. box-run along across scene setup frames_of at run (own-cuts along across scene setup frames_of run are) (marked.each at is))
    (λ at some less cut. marked.all at some less (run-box along across scene setup frames_of at run are cut)) listed.edges_are

pub cuts-own : (scene : Scene) (setup : Setup) (frames_of : ℕ → ℕ) (columns rows : List Bool) (xs ys : List ℕ)
    → AreOwnMarks scene setup frames_of columns rows → AreListedBoth columns rows setup xs ys → AreOwnCutsOver scene setup frames_of xs ys
cuts-own scene setup frames_of columns rows xs ys marked listed run are = record {
  columns = side-own left_of width_of scene setup frames_of setup.width columns xs run marked.columns_are listed.columns_are are;
  rows = side-own top_of height_of scene setup frames_of setup.height rows ys run marked.rows_are listed.rows_are are;
}

-- and they are at most those of each run that cuts there too
side-fewer : (along across : LooseState → Loose) (scene : Scene) (setup : Setup) (frames_of : ℕ → ℕ) (size : ℕ) (marks : List Bool)
    (edges more : List ℕ) (run : LooseRun) → AreMarks size (IsCutByBox along across scene setup frames_of) marks
    → AreListed marks size edges → HasCuts along across scene setup frames_of run
    → AreEdges size (IsCutBy along across run scene frames_of) more → length edges ≤ length more
side-fewer along across scene setup frames_of size marks edges more run marked listed has are =
    edges-fewer size (IsMarked marks) (IsCutBy along across run scene frames_of) edges more
    (λ at some less is. box-run along across scene setup frames_of at run has (marked.each at is)) listed.edges_are are

-- fewer edges make fewer cells
cells-fewer : (a b c d : ℕ) → a ≤ b → c ≤ d → (a - 1) * (c - 1) ≤ (b - 1) * (d - 1)
cells-fewer a b c d across down =
    let left : (a - 1) * (c - 1) ≤ (b - 1) * (c - 1) = mul-le-mul_right (c - 1) (omega arith) in
    let right : (b - 1) * (c - 1) ≤ (b - 1) * (d - 1) = mul-le-mul_left (b - 1) (omega arith) in
    omega (arith, left, right)

pub cuts-wide : (scene : Scene) (setup : Setup) (frames : ℕ) (columns rows : List Bool) (xs ys : List ℕ) → IsValid scene
    → AreOwnMarks scene setup (λ box. frames) columns rows → AreListedBoth columns rows setup xs ys
    → AtMostWide scene setup frames (cells_between xs ys)
cuts-wide scene setup frames columns rows xs ys valid marked listed run more_xs more_ys are cuts =
    cells-fewer (length xs) (length more_xs) (length ys) (length more_ys)
    (side-fewer left_of width_of scene setup (λ box. frames) setup.width columns xs more_xs run marked.columns_are listed.columns_are
    (wide-columns scene setup (λ box. frames) run valid are) cuts.columns)
    (side-fewer top_of height_of scene setup (λ box. frames) setup.height rows ys more_ys run marked.rows_are listed.rows_are
    (wide-rows scene setup (λ box. frames) run valid are) cuts.rows)
