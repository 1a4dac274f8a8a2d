-- The cells that lie in one of the areas so far lie in one of all.
use Rattle.std.proofs.Common.{ℕ, true, false, ◌≡◌, ◌+◌, ◌<◌, List, [], ◌∷◌, ◌++◌, length, take, inl, inr, refl}
use Rattle.std.specs.Prelude.{slice_index_or, ◌||◌}
use Rattle.std.specs.List.{list_any}
use Rattle.std.proofs.lemmas.Grind.{take_at_read}
use Rattle.std.proofs.lemmas.List.Folds.{list_any-append, list_any_at}
use Rattle.region_split.specs.Cutting.{Edges, cell_of}
use Rattle.region_parts.specs.declared.areas.Area.{Area}
use Rattle.region_parts.specs.Joining.{MeetSomeCell, MeetsCell}
use Rattle.region_parts.specs.Meeting.{has_pixel}
use Rattle.region_parts.proofs.AreaLemmas.{either-true}
use Rattle.region_parts.proofs.meeting.meet_some_cell.Goals as goal

-- by one of the areas
one-meets : (edges : Edges) (areas : List Area) (i : ℕ) (d area : Area) → i < length areas → slice_index_or areas i d ≡ area
    → MeetsCell edges area → MeetSomeCell edges areas
one-meets edges areas i d area within is meets = record {
  cell = meets.cell;
  known = meets.known;
  met = list_any_at (has_pixel (cell_of edges.xs edges.ys meets.cell).x (cell_of edges.xs edges.ys meets.cell).y) areas i d within
      (rw is meets.met);
}

-- by one area more
more-meet : (edges : Edges) (areas : List Area) (i : ℕ) (d area : Area) → i < length areas → slice_index_or areas i d ≡ area
    → (MeetsCell edges area → ⊥) → (MeetSomeCell edges (take i areas) → ⊥) → MeetSomeCell edges (take (i + 1) areas) → ⊥
more-meet edges areas i d area within is one some meets =
    let column : ℕ = (cell_of edges.xs edges.ys meets.cell).x in
    let row : ℕ = (cell_of edges.xs edges.ys meets.cell).y in
    let more : take (i + 1) areas ≡ take i areas ++ (area ∷ []) = rw is at (take_at_read areas i d within).1 in
    let met : (list_any (has_pixel column row) (take i areas) || (has_pixel column row area || false)) ≡ true =
    rw (more, list_any-append (has_pixel column row) (take i areas) (area ∷ [])) at meets.met in
    elim (either-true (list_any (has_pixel column row) (take i areas)) (has_pixel column row area || false) met) [
      | inl early ↦ some (record { cell = meets.cell; known = meets.known; met = early })
      | inr late ↦ elim (either-true (has_pixel column row area) false late) [
        | inl here ↦ one (record { cell = meets.cell; known = meets.known; met = here })
        | inr none ↦ absurd (cc)
      ]
    ]

pub returns-then-meets_cell : goal.returns-then-meets_cell
returns-then-meets_cell c = (
  λ e. one-meets c.args.cuts.now c.args.areas.now c.loop-area.area-index _ _ c.loop-area-test.true refl (c.meets_cell.ensures.0 c.if-meets_cell.true),
  λ meets. refl,
)

pub loop-area-preserved : goal.loop-area-preserved
loop-area-preserved c =
    more-meet c.args.cuts.now c.args.areas.now c.loop-area.area-index _ _ c.loop-area-test.true refl
    (λ meets. let is = c.meets_cell.ensures.1 meets in cc) c.loop-area.invariant
