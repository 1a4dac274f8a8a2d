-- A sweep's cuts are those of each window that it looks at.
use Rattle.std.proofs.Common.{ℕ, ◌-◌, ◌*◌, ◌<◌, ◌≤◌, List, arith, length, mul-le-mul_right}
use Rattle.page_model.specs.Cells.{cells_between}
use Rattle.page_model.specs.Horizon.{frames_for}
use Rattle.region_split.specs.Cutting.{AreSoundBoth}
use Rattle.sweep.specs.Verdicts.{IsReadyWhole, Judged}
use Rattle.witness_make.specs.Made.{AreCutsOf}

some-cells : (xs ys : List ℕ) → AreSoundBoth xs ys → 1 ≤ cells_between xs ys
some-cells xs ys sound =
    let across = sound.columns.two in
    let down = sound.rows.two in
    let product = mul-le-mul_right {m = 1} {n = length xs - 1} (length ys - 1) (omega (arith, across)) in
    omega (arith, across, down, product)

-- cells times frames are few, and so are frames
few-frames : (cells frames : ℕ) → 1 ≤ cells → cells * frames ≤ 4194304 → frames ≤ 4194304
few-frames cells frames some few =
    let product = mul-le-mul_right {m = 1} {n = cells} frames some in
    omega (arith, product, few)

pub ready-cuts : (judged : Judged) (start : ℕ) → IsReadyWhole judged → start < judged.needed
    → AreCutsOf judged.scene judged.setup start judged.cuts
ready-cuts judged start ready before = record {
  frames = frames_for judged.setup judged.needed;
  cut = ready.cut;
  cover = omega (arith, before);
  few =
      let some = some-cells judged.cuts.xs judged.cuts.ys ready.cut.sound in
      let least = few-frames (cells_between judged.cuts.xs judged.cuts.ys) (frames_for judged.setup judged.needed) some ready.cut.few_enough in
      omega (arith, least);
}
