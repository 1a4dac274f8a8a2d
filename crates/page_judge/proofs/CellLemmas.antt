-- A scene has so many cells and no others, by the states of the own kind.
use Rattle.std.proofs.Common.{◌≡◌, ℕ, List}
use Rattle.page_model.specs.declared.scene.Scene.{Scene}
use Rattle.page_model.specs.declared.setup.Setup.{Setup}
use Rattle.page_model.specs.Cells.{AreEdges, cells_between}
use Rattle.page_model.specs.Enclosure.{own}
use Rattle.cell_laws.proofs.RunLemmas.{runs-met}
use Rattle.region_split.specs.Cutting.{AreOwnCuts}
use Rattle.cell_laws.proofs.RisingLemmas.{rising-unique}
use Rattle.page_judge.proofs.StableLemmas.{nat-stable}

edges-same : (size : ℕ) (Cut : ℕ → Type 0) (edges others : List ℕ) → AreEdges size Cut edges → AreEdges size Cut others → edges ≡ others
edges-same size Cut edges others one other =
    rising-unique edges others one.rising other.rising (λ z has. (other.all z).1 ((one.all z).0 has)) (λ z has. (one.all z).1 ((other.all z).0 has))

pub cells-same : (scene : Scene) (setup : Setup) (frames : ℕ) (xs ys other_xs other_ys : List ℕ) → AreOwnCuts scene setup frames xs ys
    → AreOwnCuts scene setup frames other_xs other_ys → cells_between xs ys ≡ cells_between other_xs other_ys
cells-same scene setup frames xs ys other_xs other_ys one other =
    nat-stable (cells_between xs ys) (cells_between other_xs other_ys) (λ apart.
    runs-met own scene setup frames (λ run is.
    let first = one run is in
    let second = other run is in
    let across : xs ≡ other_xs = edges-same _ _ xs other_xs first.columns second.columns in
    let down : ys ≡ other_ys = edges-same _ _ ys other_ys first.rows second.rows in
    apart (λ i. cells_between (across i) (down i))))
