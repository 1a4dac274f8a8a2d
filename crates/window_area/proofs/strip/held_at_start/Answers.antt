use Rattle.std.proofs.Common.{◌+◌, ◌*◌, get_or, arith}
use Rattle.window_area.proofs.StripLemmas.{IsHeldSoFar, held_so_far-all, held_so_far-fits, held_so_far-more, held_so_far-none}
use Rattle.window_area.proofs.strip.held_at_start.Goals as goal

pub loop-band-init : goal.loop-band-init
loop-band-init c = held_so_far-none c.args.edges.now c.args.weights.now c.args.size c.requires.edges

pub overflow_add-held : goal.overflow_add-held
overflow_add-held c =
    let next : IsHeldSoFar c.args.edges.now c.args.weights.now c.args.size (c.loop-band.band + 1)
    (c.loop-band.held + c.overlap.result * get_or c.args.weights.now c.loop-band.band 0) = held_so_far-more c.args.edges.now c.args.weights.now c.args.size c.loop-band.band c.loop-band.held c.overlap.result
    c.requires.edges c.requires.weights (omega arith) c.overlap.ensures.value c.loop-band.invariant in
    let fits = held_so_far-fits c.args.edges.now c.args.weights.now c.args.size (c.loop-band.band + 1)
    (c.loop-band.held + c.overlap.result * get_or c.args.weights.now c.loop-band.band 0) c.requires.edges (omega arith) next in
    omega (arith, fits)

pub loop-band-preserved : goal.loop-band-preserved
loop-band-preserved c =
    held_so_far-more c.args.edges.now c.args.weights.now c.args.size c.loop-band.band c.loop-band.held c.overlap.result
    c.requires.edges c.requires.weights (omega arith) c.overlap.ensures.value c.loop-band.invariant

pub returns : goal.returns
returns c =
    held_so_far-all c.args.edges.now c.args.weights.now c.args.size c.loop-band.band c.loop-band.held (omega arith)
    c.loop-band.invariant
