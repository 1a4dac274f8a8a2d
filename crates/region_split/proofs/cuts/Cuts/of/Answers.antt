use Rattle.std.proofs.Common.{replicate}
use Rattle.region_split.specs.Marks.{frames_in}
use Rattle.region_split.proofs.CuttingLemmas.{all-replicated, cutting-marked, in-replicated, marks-same}
use Rattle.region_split.proofs.cuts.Cuts.of.Goals as goal

pub marks_of-marks-requires-clause-frames : goal.marks_of-marks-requires-clause-frames
marks_of-marks-requires-clause-frames c =
    all-replicated c.args.scene.now 65 c.args.frames c.requires.valid.few_layers c.requires.some

pub returns : goal.returns
returns c =
    let marked = marks-same c.args.scene.now c.args.setup.now (frames_in (replicate 65 c.args.frames)) (λ box. c.args.frames)
    c.marks_of-marks.result.columns c.marks_of-marks.result.rows
    (λ number known. in-replicated c.args.scene.now 65 c.args.frames number c.requires.valid.few_layers known) c.marks_of-marks.ensures in
    cutting-marked c.args.scene.now c.args.setup.now c.args.frames c.marks_of-marks.result.columns c.marks_of-marks.result.rows
    c.cut_marked.result c.requires.valid marked c.cut_marked.ensures
