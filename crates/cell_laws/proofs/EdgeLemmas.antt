-- Edges: none is behind the end, the same places have one list of them, and each pixel lies between two neighbours.
use Rattle.std.proofs.Common.{ℕ, zero, suc, ◌≡◌, ◌∙◌, ◌+◌, ◌<◌, ◌≤◌, List, length, get_or, arith, inl, inr, refl, subst, sym}
use Rattle.std.proofs.lemmas.Bool.{cases_lt}
use Rattle.std.proofs.lemmas.List.{get_or_default}
use Rattle.std.proofs.lemmas.List.Elements.{Contains-get_or}
use Rattle.page_model.specs.declared.scene.Scene.{Scene}
use Rattle.page_model.specs.Cells.{AreEdges, CutsAt, IsCutBy, IsEdge, end, first, inside, height_of, left_of, top_of, width_of}
use Rattle.page_model.specs.Enclosure.{Loose, LooseRun, LooseState}
use Rattle.cell_laws.specs.CellLaws.{CutAlike, CutsAreOne, PixelsLieInCells}
use Rattle.cell_laws.proofs.RisingLemmas.{rising-between, rising-fewer, rising-unique}

-- no edge is behind the end
pub edge-limit : (size : ℕ) (Cut : ℕ → Type 0) (edges : List ℕ) (i : ℕ) → AreEdges size Cut edges → i < length edges
    → get_or edges i 0 ≤ size
edge-limit size Cut edges i are within = limit (get_or edges i 0) ((are.all (get_or edges i 0)).0 (Contains-get_or edges i 0 within)) where
  limit : (at : ℕ) → IsEdge size Cut at → at ≤ size
  limit at (first is) = omega arith
  limit at (end is) = omega arith
  limit at (inside some less cut) = omega arith

-- an edge by some cuts is one by others that are at the same places inside
edge-too : (size : ℕ) (P Q : ℕ → Type 0) (at : ℕ) → ((k : ℕ) → 0 < k → k < size → P k → Q k) → IsEdge size P at → IsEdge size Q at
edge-too size P Q at over (first is) = first is
edge-too size P Q at over (end is) = end is
edge-too size P Q at over (inside some less cut) = inside some less (over at some less cut)

pub edges-same : (size : ℕ) (P Q : ℕ → Type 0) (edges : List ℕ) → ((at : ℕ) → 0 < at → at < size → P at → Q at)
    → ((at : ℕ) → 0 < at → at < size → Q at → P at) → AreEdges size P edges → AreEdges size Q edges
edges-same size P Q edges there back so = record {
  rising = so.rising;
  all = λ at. (λ has. edge-too size P Q at there ((so.all at).0 has), λ edge. (so.all at).1 (edge-too size Q P at back edge));
}

-- and where the others are more, the edges are as many or more
pub edges-fewer : (size : ℕ) (P Q : ℕ → Type 0) (xs ys : List ℕ) → ((at : ℕ) → 0 < at → at < size → P at → Q at)
    → AreEdges size P xs → AreEdges size Q ys → length xs ≤ length ys
edges-fewer size P Q xs ys there one other =
    rising-fewer xs ys one.rising other.rising (λ at has. (other.all at).1 (edge-too size P Q at there ((one.all at).0 has)))

-- the same places have one list of edges
edges-one : (size : ℕ) (P Q : ℕ → Type 0) (edges others : List ℕ) → ((at : ℕ) → 0 < at → at < size → P at → Q at)
    → ((at : ℕ) → 0 < at → at < size → Q at → P at) → AreEdges size P edges → AreEdges size Q others → edges ≡ others
edges-one size P Q edges others there back one other =
    let same = edges-same size P Q edges there back one in
    rising-unique edges others one.rising other.rising (λ z has. (other.all z).1 ((same.all z).0 has))
    (λ z has. (same.all z).1 ((other.all z).0 has))

-- a place that one run cuts is cut by another with the same states
cut-too : (along across : LooseState → Loose) (scene : Scene) (frames_of others_of : ℕ → ℕ) (run other : LooseRun) (at : ℕ)
    → CutAlike scene frames_of others_of run other → IsCutBy along across run scene frames_of at
    → IsCutBy along across other scene others_of at
cut-too along across scene frames_of others_of run other at alike cut =
    let frames : frames_of cut.box ≡ others_of cut.box = alike.frames cut.box cut.is_layer in
    let state : run cut.frame cut.box ≡ other cut.frame cut.box = alike.states cut.frame cut.box cut.is_layer cut.looked_at in
    record {
      box = cut.box;
      frame = cut.frame;
      is_box = cut.is_box;
      is_layer = cut.is_layer;
      looked_at = omega (arith, frames, cut.looked_at);
      cuts = subst (λ (s : LooseState). CutsAt (along s) (across s) at) state cut.cuts;
    }

-- and the other way
alike-back : (scene : Scene) (frames_of others_of : ℕ → ℕ) (run other : LooseRun) → CutAlike scene frames_of others_of run other
    → CutAlike scene others_of frames_of other run
alike-back scene frames_of others_of run other alike = record {
  frames = λ number known. sym (alike.frames number known);
  states = λ frame number known seen.
      let frames : frames_of number ≡ others_of number = alike.frames number known in
      sym (alike.states frame number known (omega (arith, frames, seen)));
}

pub cuts-one : CutsAreOne
cuts-one scene setup frames_of others_of run other xs ys other_xs other_ys alike cuts others = (
  edges-one setup.width _ _ xs other_xs (λ at some less. cut-too left_of width_of scene frames_of others_of run other at alike)
      (λ at some less. cut-too left_of width_of scene others_of frames_of other run at back) cuts.columns others.columns,
  edges-one setup.height _ _ ys other_ys (λ at some less. cut-too top_of height_of scene frames_of others_of run other at alike)
      (λ at some less. cut-too top_of height_of scene others_of frames_of other run at back) cuts.rows others.rows,
) where
  back : CutAlike scene others_of frames_of other run
  back = alike-back scene frames_of others_of run other alike

-- a place before an edge, and not before the first, lies between two neighbours
pub record IsBetween (edges : List ℕ) (at i : ℕ) : Type 0 where
  pub within : i + 1 < length edges
  pub low : get_or edges i 0 ≤ at
  pub high : at < get_or edges (i + 1) 0

between-below : (edges : List ℕ) (at k : ℕ) → get_or edges 0 0 ≤ at → k < length edges → at < get_or edges k 0
    → (i : ℕ) × IsBetween edges at i
between-below edges at zero start within before = absurd (omega arith)
between-below edges at (suc k) start within before =
    elim (cases_lt at (get_or edges k 0)) [
      | inl earlier ↦ between-below edges at k start (omega arith) earlier
      | inr here ↦
          let next : k + 1 ≡ suc k = omega arith in
          (k, record { within = omega arith; low = here; high = rw next before })
    ]

-- as each place inside does
pub place-between : (size : ℕ) (Cut : ℕ → Type 0) (edges : List ℕ) (at : ℕ) → AreEdges size Cut edges → at < size
    → (i : ℕ) × IsBetween edges at i
place-between size Cut edges at are below =
    let begin = (are.all 0).1 (first refl) in
    let last = (are.all size).1 (end refl) in
    let begins : get_or edges begin.0 0 ≡ 0 = get_or_default edges begin.0 0 0 begin.1 ∙ begin.2 in
    let ends : get_or edges last.0 0 ≡ size = get_or_default edges last.0 0 size last.1 ∙ last.2 in
    let low = rising-between edges 0 begin.0 are.rising (omega arith) begin.1 in
    between-below edges at last.0 (omega arith) last.1 (omega arith)

pub pixels-in_cells : PixelsLieInCells
pixels-in_cells scene setup frames_of run xs ys column row cuts inside_width inside_height =
    let across = place-between setup.width _ xs column cuts.columns inside_width in
    let down = place-between setup.height _ ys row cuts.rows inside_height in (
      across.0,
      down.0,
      record {
        is_column = across.1.within;
        is_row = down.1.within;
        right_of = across.1.low;
        left_of = across.1.high;
        below = down.1.low;
        above = down.1.high;
      },
    )
