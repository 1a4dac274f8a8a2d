-- The parts are alike in the frames that are looked at, and the most that is marked decides.
use Rattle.std.proofs.Common.{arith, subst, sym}
use Rattle.page_model.specs.Horizon.{frames_for}
use Rattle.page_model.specs.SeparateJudgement.{IsJudgedApart}
use Rattle.region_split.specs.Cutting.{Edges}
use Rattle.cell_flags.specs.Flags.{AreAlikeCells}
use Rattle.apart_judge.proofs.JudgedLemmas.{few-judged, flags-known, many-judged}
use Rattle.apart_judge.proofs.PartLemmas.{parts-alike, parts-few}
use Rattle.apart_judge.proofs.judging.judge_parts.Goals as goal

pub flags_of_cells-requires-clause-cells : goal.flags_of_cells-requires-clause-cells
flags_of_cells-requires-clause-cells c =
    let scene = c.args.scene.now in
    let setup = c.args.setup.now in
    subst (λ (edges : Edges). AreAlikeCells scene setup (frames_for setup c.frames-frames.result) edges)
    (sym c.cuts.ensures)
    (subst (λ n. AreAlikeCells scene setup (frames_for setup n) c.args.parted.now.cuts) (sym c.frames-frames.ensures)
    (parts-alike scene setup c.args.parted.now c.requires.parts))

pub most_marked-requires-clause-few : goal.most_marked-requires-clause-few
most_marked-requires-clause-few c = parts-few c.args.scene.now c.args.setup.now c.args.parted.now c.requires.parts

pub returns-then-branch-gt-QUARTER : goal.returns-then-branch-gt-QUARTER
returns-then-branch-gt-QUARTER c =
    let flags = flags-known c.args.scene.now c.args.setup.now c.args.parted.now c.cuts.result.now
    c.frames-frames.result c.in_ok-flags.flags.items
    c.as_slice.result.now c.cuts.ensures c.frames-frames.ensures c.as_slice.ensures.value c.in_ok-flags.ensures in
    many-judged c.args.scene.now c.args.setup.now c.args.parted.now c.as_slice.result.now
    c.in_ok-most_marked.field-0 c.requires.parts flags
    c.in_ok-most_marked.ensures (omega (arith, c.if-branch-gt-QUARTER.true))

pub returns : goal.returns
returns c =
    let flags = flags-known c.args.scene.now c.args.setup.now c.args.parted.now c.cuts.result.now
    c.frames-frames.result c.in_ok-flags.flags.items
    c.as_slice.result.now c.cuts.ensures c.frames-frames.ensures c.as_slice.ensures.value c.in_ok-flags.ensures in
    subst (λ n. IsJudgedApart c.args.scene.now c.args.setup.now n) (sym c.frames-frames.ensures)
    (few-judged c.args.scene.now c.args.setup.now c.args.parted.now c.as_slice.result.now
    c.in_ok-most_marked.field-0 c.requires.beyond
    c.requires.parts flags c.in_ok-most_marked.ensures (omega (arith, c.if-branch-gt-QUARTER.false)))
