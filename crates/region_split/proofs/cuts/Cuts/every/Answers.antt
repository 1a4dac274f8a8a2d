use Rattle.std.proofs.lemmas.Result.{IfOk-weaker}
use Rattle.region_split.specs.Cutting.{AreListedBoth, IsCutInto}
use Rattle.region_split.specs.Marks.{frames_in}
use Rattle.region_split.proofs.CuttingLemmas.{cut-into}
use Rattle.region_split.proofs.cuts.Cuts.every.Goals as goal

pub returns : goal.returns
returns c =
    let columns = c.marks_of-marks.result.columns in
    let rows = c.marks_of-marks.result.rows in
    let frames = frames_in c.args.frames.now in
    IfOk-weaker c.edges_at.result (λ edges. AreListedBoth columns rows c.args.setup.now edges.xs edges.ys)
    (IsCutInto c.args.scene.now c.args.setup.now frames)
    (λ edges listed. cut-into c.args.scene.now c.args.setup.now frames columns rows edges c.requires.valid c.marks_of-marks.ensures listed)
    c.edges_at.ensures
