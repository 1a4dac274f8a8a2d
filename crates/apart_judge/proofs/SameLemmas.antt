-- Two partings of a scene by the states of one run are one.
use Rattle.std.proofs.Common.{◌≡◌, ℕ, ◌+◌, ◌<◌, List, length, arith, refl, subst, sym}
use Rattle.std.specs.Prelude.{slice_index}
use Rattle.page_model.specs.declared.scene.Scene.{Scene}
use Rattle.page_model.specs.declared.setup.Setup.{Setup}
use Rattle.page_model.specs.Enclosure.{LooseRun}
use Rattle.page_model.specs.SeparateJudgement.{AreNeeded, IsCellNeeded, IsFlaggedInCell, IsInCell}
use Rattle.apart_laws.proofs.OneLemmas.{cell-needs}
use Rattle.cell_laws.specs.CellLaws.{CutAlike}
use Rattle.cell_laws.proofs.EdgeLemmas.{cuts-one}
use Rattle.horizon_laws.proofs.LeastLemmas.{needed-unique}
use Rattle.tint_laws.proofs.WindowLemmas.{layer-at}
use Rattle.region_parts.specs.Parts.{IsParted}

-- each layer needs the same frames in both
needs-alike : (scene : Scene) (setup : Setup) (run : LooseRun) (one other : ℕ → ℕ) → AreNeeded scene setup one
    → AreNeeded scene setup other → CutAlike scene one other run run
needs-alike scene setup run one other first second = record {
  frames = λ number there.
      let found = layer-at scene.layers number there in
      needed-unique setup found.0.anims (one number) (other number) (first number found.0 found.1)
      (second number found.0 found.1);
  states = λ frame number there seen. refl;
}

-- two partings have the same edges, and their cells need the same frames
pub record AreSameCells (xs ys others_x others_y : List ℕ) (cell_needed other_needed : ℕ → ℕ → ℕ) : Type 0 where
  pub columns : xs ≡ others_x
  pub rows : ys ≡ others_y
  pub needed : (i j : ℕ) → i + 1 < length xs → j + 1 < length ys → cell_needed i j ≡ other_needed i j

pub parted-same : (scene : Scene) (setup : Setup) (run : LooseRun) (xs ys others_x others_y : List ℕ)
    (cell_needed other_needed : ℕ → ℕ → ℕ) (greatest others : ℕ) → IsParted scene setup run xs ys cell_needed greatest
    → IsParted scene setup run others_x others_y other_needed others
    → AreSameCells xs ys others_x others_y cell_needed other_needed
parted-same scene setup run xs ys others_x others_y cell_needed other_needed greatest others one other =
    let alike = needs-alike scene setup run one.needed_of other.needed_of one.layers_need other.layers_need in
    let back = needs-alike scene setup run other.needed_of one.needed_of other.layers_need one.layers_need in
    let edges = cuts-one scene setup one.needed_of other.needed_of run run xs ys others_x others_y alike
    one.cuts other.cuts in
    let Cells : List ℕ → List ℕ → Type 0 = λ across down. (i j : ℕ) → i + 1 < length across → j + 1 < length down
    → IsCellNeeded scene setup run other.needed_of (slice_index across i) (slice_index down j) (other_needed i j) in
    let at_columns : Cells xs others_y = subst (λ across. Cells across others_y) (sym edges.0) other.cells_need in
    let cells : Cells xs ys = subst (λ down. Cells xs down) (sym edges.1) at_columns in record {
      columns = edges.0;
      rows = edges.1;
      needed = λ i j column row.
          cell-needs scene setup one.needed_of other.needed_of run run (slice_index xs i) (slice_index ys j)
          (cell_needed i j) (other_needed i j) alike back (one.cells_need i j column row) (cells i j column row);
    }

-- so the same pixels are flagged
pub flagged-same : (scene : Scene) (setup : Setup) (run : LooseRun) (xs ys others_x others_y : List ℕ)
    (cell_needed other_needed : ℕ → ℕ → ℕ) (column row : ℕ)
    → AreSameCells xs ys others_x others_y cell_needed other_needed
    → IsFlaggedInCell scene setup run xs ys cell_needed column row
    → IsFlaggedInCell scene setup run others_x others_y other_needed column row
flagged-same scene setup run xs ys others_x others_y cell_needed other_needed column row same flagged =
    let at_columns = subst (λ across. IsInCell across ys flagged.i flagged.j column row) same.columns flagged.cell in
    let needed = same.needed flagged.i flagged.j flagged.cell.is_column flagged.cell.is_row in record {
      i = flagged.i;
      j = flagged.j;
      cell = subst (λ down. IsInCell others_x down flagged.i flagged.j column row) same.rows at_columns;
      start = flagged.start;
      needed = omega (arith, flagged.needed, needed);
      flagged = flagged.flagged;
    }
