-- One cell more, and all of them.
use Rattle.std.proofs.Common.{◌≡◌, ◌+◌, arith, rules, subst}
use Rattle.page_model.specs.Horizon.{frames_for}
use Rattle.page_model.specs.Time.{window_of}
use Rattle.cell_tints.specs.Tints.{AreTintsOfCells}
use Rattle.cell_flags.specs.Flags.{AreFlagsBefore}
use Rattle.cell_flags.proofs.FlagLemmas.{flags-are}
use Rattle.cell_flags.proofs.TrackLemmas.{flags-more}
use Rattle.cell_flags.proofs.cells.flags_of_cells.Goals as goal

pub loop-cell-preserved : goal.loop-cell-preserved
loop-cell-preserved c =
    flags-more c.in_ok-tints.tints.items c.cells-cells.result c.rate-rate.result c.args.windows c.loop-cell.cell c.loop-cell.flags.items
    c.add_flags.new.flags.items c.loop-cell.invariant (search rules)

pub returns : goal.returns
returns c =
    let edges = c.args.cuts.now in
    let tints = c.in_ok-tints.tints.items in
    let flags = c.loop-cell.flags.items in
    let all : c.loop-cell.cell ≡ c.cells-cells.result = omega arith in
    let frames : c.args.windows + c.from.result + 1 ≡ frames_for c.args.setup.now c.args.windows =
    omega (arith, c.from.ensures, c.rate-rate.ensures.value) in
    let every = subst (λ n. AreFlagsBefore tints c.cells-cells.result c.rate-rate.result c.args.windows n flags) all c.loop-cell.invariant in
    let by_rate = subst (λ n. AreFlagsBefore tints c.cells-cells.result n c.args.windows c.cells-cells.result flags) c.rate-rate.ensures.value every in
    let by_cells = subst (λ n. AreFlagsBefore tints n (window_of c.args.setup.now) c.args.windows n flags) c.cells-cells.ensures by_rate in
    flags-are c.args.scene.now c.args.setup.now c.args.windows edges tints flags c.requires.valid c.requires.cells
    (subst (λ n. AreTintsOfCells c.args.scene.now c.args.setup.now edges 0 n tints) frames c.in_ok-tints.ensures) by_cells
