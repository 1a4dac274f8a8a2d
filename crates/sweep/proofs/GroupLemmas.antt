-- What is seen of the first cell of a group is seen of each of its cells.
use Rattle.std.proofs.Common.{◌≡◌, ◌∙◌, ℕ, ◌<◌, ◌≤◌, List, length, get_or, arith, refl, sym}
use Rattle.std.specs.Prelude.{slice_index_or}
use Rattle.std.proofs.lemmas.List.{get_or-map}
use Rattle.std.proofs.lemmas.Option.{slice_get_within}
use Rattle.page_model.specs.declared.colour.Tint.{Tint}
use Rattle.page_model.specs.declared.scene.Scene.{Scene}
use Rattle.page_model.specs.declared.setup.Setup.{Setup}
use Rattle.page_model.specs.ValidScene.{IsValid}
use Rattle.cell_flags.specs.Flags.{AreSeenAs}
use Rattle.cell_groups.specs.Groups.{AreCoveredAlike, AreGroups, Grouping, first_of, group_of}
use Rattle.cell_tints.specs.Tints.{IsOwnTint, cells_of}
use Rattle.flash_count.specs.declared.tracking.Flag.{Flag}
use Rattle.region_split.specs.Cutting.{Edges, cell_of}
use Rattle.tint_laws.proofs.AlikeLemmas.{tint-alike}
use Rattle.tint_laws.proofs.WindowLemmas.{layer-at}
use Rattle.sweep.specs.Told.{spread, unflagged}

-- the flag of a cell is that of its group
pub spread-at : (groups : Grouping) (flags : List Flag) (cell : ℕ) → cell < length groups.of
    → get_or (spread groups flags) cell unflagged ≡ get_or flags (group_of groups cell) unflagged
spread-at groups flags cell known =
    get_or-map (λ group. slice_index_or flags group unflagged) groups.of cell 0 unflagged known

-- a tint of a pixel is one of a pixel that each box covers alike
own-moved : (scene : Scene) (setup : Setup) (frames frame column row other_column other_row : ℕ) (tint : Tint) → IsValid scene → frame < frames
    → AreCoveredAlike scene setup frames column row other_column other_row → IsOwnTint scene setup frame other_column other_row tint
    → IsOwnTint scene setup frame column row tint
own-moved scene setup frames frame column row other_column other_row tint valid before alike own = record {
  states = own.states;
  own_states = own.own_states;
  is = own.is ∙ tint-alike scene own.states own.states other_column other_row column row valid (record {
    body = refl;
    boxes = λ number some below.
        let found = layer-at scene.layers number below in record {
          same = refl;
          alike =
              sym (alike number found.0 some found.1 frame (own.states number) before (own.own_states number found.0 found.1));
        };
  });
  ordered = own.ordered;
}

pub seen-moved : (scene : Scene) (setup : Setup) (frames : ℕ) (edges : Edges) (groups : Grouping) (cell : ℕ) (seen : List Tint) → IsValid scene
    → AreGroups scene setup frames edges groups → cell < cells_of edges → length seen ≤ frames
    → AreSeenAs scene setup (cell_of edges.xs edges.ys (first_of groups (group_of groups cell))) seen
    → AreSeenAs scene setup (cell_of edges.xs edges.ys cell) seen
seen-moved scene setup frames edges groups cell seen valid are known few first frame tint there =
    let within : frame < length seen = slice_get_within seen frame tint there in
    own-moved scene setup frames frame (cell_of edges.xs edges.ys cell).x (cell_of edges.xs edges.ys cell).y
    (cell_of edges.xs edges.ys (first_of groups (group_of groups cell))).x (cell_of edges.xs edges.ys (first_of groups (group_of groups cell))).y tint
    valid (omega (arith, within, few)) (are.alike cell known) (first frame tint there)
