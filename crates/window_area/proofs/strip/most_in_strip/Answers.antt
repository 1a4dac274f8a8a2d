use Rattle.std.proofs.Common.{arith}
use Rattle.window_area.proofs.ScanLemmas.{scan-bounded, scan-ends, scan-loss, scan-next}
use Rattle.window_area.proofs.SlideLemmas.{stride-place, window-place}
use Rattle.window_area.proofs.strip.most_in_strip.Goals as goal

pub held_after-held-requires-clause-held : goal.held_after-held-requires-clause-held
held_after-held-requires-clause-held c =
    scan-bounded c.args.edges.now c.args.weights.now c.args.size c.loop-stride.window c.loop-stride.held c.loop-stride.most
    c.requires.edges c.requires.weights c.loop-stride.invariant

pub held_after-held-requires-clause-stride : goal.held_after-held-requires-clause-stride
held_after-held-requires-clause-stride c =
    let before = stride-place c.args.edges.now c.loop-stride.window c.in-Some.stride c.requires.edges
    c.loop-stride.invariant.window_is c.in-Some.ensures in
    omega (arith, before, c.requires.edges.limit)

pub held_after-held-requires-clause-loss : goal.held_after-held-requires-clause-loss
held_after-held-requires-clause-loss c =
    scan-loss c.args.edges.now c.args.weights.now c.args.size c.loop-stride.window c.loop-stride.held c.loop-stride.most
    c.in-Some.stride c.requires.edges c.loop-stride.invariant c.in-Some.ensures

pub loop-stride-smaller : goal.loop-stride-smaller
loop-stride-smaller c =
    let before = stride-place c.args.edges.now c.loop-stride.window c.in-Some.stride c.requires.edges
    c.loop-stride.invariant.window_is c.in-Some.ensures in
    let can = c.in-Some.ensures in
    omega (arith, before, can.some, c.slid-window.ensures.place)

pub loop-stride-preserved : goal.loop-stride-preserved
loop-stride-preserved c =
    rw c.or_later-most.ensures
    (scan-next c.args.edges.now c.args.weights.now c.args.size c.loop-stride.window c.loop-stride.held c.loop-stride.most
    c.in-Some.stride c.slid-window.result c.held_after-held.result c.requires.edges c.loop-stride.invariant c.in-Some.ensures
    c.slid-window.ensures.window c.slid-window.ensures.place c.slid-window.ensures.size c.held_after-held.ensures)

pub returns-clause-most : goal.returns-clause-most
returns-clause-most c =
    scan-ends c.args.edges.now c.args.weights.now c.args.size c.loop-stride.window c.loop-stride.held c.loop-stride.most
    c.loop-stride.invariant c.in_default.ensures

pub returns-clause-early : goal.returns-clause-early
returns-clause-early c =
    let before = window-place c.args.edges.now c.loop-stride.window c.requires.edges c.loop-stride.invariant.window_is in
    omega (arith, before, c.loop-stride.invariant.most_is.fits, c.requires.edges.limit)
